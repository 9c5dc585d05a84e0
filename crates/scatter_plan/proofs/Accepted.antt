-- What is known of a scatter that is not refused: its lists fit, its numbers fit, and its walks are done. Assumes nothing.
use Rattle.std.specs.Prelude.{Option, Some, None, Ok}
use mathlib.Core.Path.{◌≡◌, refl, sym, ap, ◌∙◌}
use mathlib.Core.Bool.{true}
use mathlib.Core.List.{List, []}
use Prim.Native.Nat.{ℕ, ◌<◌, ◌≤◌, min}
use native.Mathlib.Omega.{arith}
use lib.ListN.{length, take}
use lib.Seq.{take_all}
use lib.IntN.{ℤ, pos, ◌*ℤ◌, +ℤ_idl}
use Rattle.indexing.specs.Coordinates.{rank, product, others, tabulate}
use Rattle.indexing.specs.Start.{without}
use Rattle.indexing.specs.Scatter.{Scatter, scatter_dims, window_dims, batch_shape, window_shape, windows}
use Rattle.indexing.specs.Steps.{vector_stride}
use Rattle.layout.specs.Answers.{is_done, Answer}
use Rattle.layout.specs.Layouts.{rank_limit, padded, layout_of, extents_of, strides_of, stride_length, rank_at_most}
use Rattle.layout.specs.Lists.{unique_axes}
use Rattle.layout.specs.Spans.{total_of, spanned, offset_add}
use Rattle.layout.specs.Laws.{offset-add-is}
use Rattle.layout.proofs.Products.{total-is}
use Rattle.layout.proofs.First.{done-is}
use Rattle.axis_lists.proofs.Filling.{read_back, length-others}
use Rattle.checks.specs.Checks.{first_of, total_fits, span_fits, same_count, vector_axis, components_of, windows_fit, number_fits, offset_fits, layouts_refusal}
use Rattle.checks.proofs.Made.{or-done, same_length, few-axes}
use Rattle.checks.specs.Values.{value_of, offset_or}
use Rattle.checks.proofs.Lists.{unique-axes, axes-few, tabulate-same}
use Rattle.checks.proofs.Fits.{first-each}
use Rattle.scatter_checks.specs.Refusals.{numbers_refusal, sizes_refusal, lists_refusal, count_at_most, counts_refusal, batch_refusal, axes_refusal, batch_walk, window_walk, walks_refusal, spec_refusal, refusal_of}
use Rattle.scatter_checks.specs.Examine.{Counted}
use Rattle.scatter_checks.proofs.Counts.{counted}

-- ---- a number that was accepted is the number
total-fits : (ds : List ℕ) → is_done (total_fits (total_of ds)) ≡ true → total_of ds ≡ Some (product ds)
total-fits ds e = go (total_of ds) refl e
  where
    go : (x : Option ℕ) → total_of ds ≡ x → is_done (total_fits x) ≡ true → total_of ds ≡ Some (product ds)
    go (Some n) f h = f ∙ ap Some (total-is ds n f)
    go None f h = let z : ◌≡◌ {A = ℕ} 0 1 = cc in absurd (omega arith)

offset-fits : (s : ℤ) (c : ℕ) → is_done (offset_fits s c) ≡ true → offset_add (pos 0) s c ≡ Some (s *ℤ pos c)
offset-fits s c e = go (offset_add (pos 0) s c) refl e
  where
    go : (x : Option ℤ) → offset_add (pos 0) s c ≡ x → is_done (number_fits x) ≡ true → offset_add (pos 0) s c ≡ Some (s *ℤ pos c)
    go (Some z) f h = f ∙ ap Some (offset-add-is (pos 0) s c z f ∙ +ℤ_idl (s *ℤ pos c))
    go None f h = let z : ◌≡◌ {A = ℕ} 0 1 = cc in absurd (omega arith)

-- ---- each check of a scatter that is not refused is done, in document 01's order
module _ (s : Scatter) where
  pub record Passed : Type 0 where
    pub index-length : is_done (stride_length (rank s.indices) (length s.indices.strides)) ≡ true
    pub updates-length : is_done (stride_length (rank s.updates) (length s.updates.strides)) ≡ true
    pub dest-length : is_done (stride_length (rank s.result) (length s.result.strides)) ≡ true
    pub index-rank : is_done (rank_at_most (rank s.indices)) ≡ true
    pub updates-rank : is_done (rank_at_most (rank s.updates)) ≡ true
    pub dest-rank : is_done (rank_at_most (rank s.result)) ≡ true
    pub dest-total : is_done (total_fits (total_of s.result.extents)) ≡ true
    pub index-total : is_done (total_fits (total_of s.indices.extents)) ≡ true
    pub updates-total : is_done (total_fits (total_of s.updates.extents)) ≡ true
    pub dest-span : is_done (span_fits (spanned s.result.extents s.result.strides)) ≡ true
    pub inserted : is_done (unique_axes (rank s.result) [] s.spec.inserted-window-dims) ≡ true
    pub map : is_done (unique_axes (rank s.result) [] s.spec.scatter-dims-to-operand-dims) ≡ true
    pub vector : is_done (vector_axis s.spec.index-vector-dim (rank s.indices)) ≡ true
    pub components : is_done (same_count (components_of s.indices.extents s.spec.index-vector-dim) (length s.spec.scatter-dims-to-operand-dims)) ≡ true
    pub kept : is_done (same_count (length s.spec.update-window-dims) (length (window_dims s))) ≡ true
    pub window : is_done (unique_axes (rank s.updates) [] s.spec.update-window-dims) ≡ true
    pub batch : is_done (batch_refusal s.indices.extents s.updates.extents s.spec.update-window-dims s.spec.index-vector-dim) ≡ true
    pub counts : Counted s
    pub fits : is_done (windows_fit 0 s.result.extents (windows s)) ≡ true
    pub batches : is_done (total_fits (total_of (batch_shape s))) ≡ true
    pub cells : is_done (total_fits (total_of (window_shape s))) ≡ true
    pub batch-walk : is_done (batch_walk s).answer ≡ true
    pub window-walk : is_done (window_walk s).answer ≡ true
    pub offsets : is_done (first_of (offset_fits (vector_stride s.indices s.spec.index-vector-dim)) (length s.spec.scatter-dims-to-operand-dims) 0) ≡ true

  pub passed : (four : Answer) → is_done (refusal_of four s) ≡ true → Passed
  unfolding sizes_refusal spec_refusal window_dims batch_shape scatter_dims
  passed four done =
      let ie = s.indices.extents in
      let ue = s.updates.extents in
      let de = s.result.extents in
      let window = s.spec.update-window-dims in
      let inserted = s.spec.inserted-window-dims in
      let map = s.spec.scatter-dims-to-operand-dims in
      let vector = s.spec.index-vector-dim in
      let t0 = or-done (sizes_refusal ie s.indices.strides ue s.updates.strides de s.result.strides) _ done in
      let t1 = or-done (layouts_refusal (length ie) (length s.indices.strides) (length ue) (length s.updates.strides) (length de) (length s.result.strides)) (numbers_refusal ie ue de s.result.strides) t0.0 in
      let t2 = or-done (axes_refusal s) (walks_refusal s) (or-done four (spec_refusal s) t0.1).1 in
      let a1 = or-done (stride_length (length ie) (length s.indices.strides)) _ t1.0 in
      let a2 = or-done (stride_length (length ue) (length s.updates.strides)) _ a1.1 in
      let a3 = or-done (stride_length (length de) (length s.result.strides)) _ a2.1 in
      let a4 = or-done (rank_at_most (length ie)) _ a3.1 in
      let a5 = or-done (rank_at_most (length ue)) _ a4.1 in
      let n2 = or-done (lists_refusal ie de inserted map vector) _ t2.0 in
      let n3 = or-done (counts_refusal ie ue de window inserted vector) (batch_refusal ie ue window vector) n2.1 in
      let b1 = or-done (total_fits (total_of de)) _ t1.1 in
      let b2 = or-done (total_fits (total_of ie)) _ b1.1 in
      let b3 = or-done (total_fits (total_of ue)) _ b2.1 in
      let c1 = or-done (unique_axes (length de) [] inserted) _ n2.0 in
      let c2 = or-done (unique_axes (length de) [] map) _ c1.1 in
      let c3 = or-done (vector_axis vector (length ie)) _ c2.1 in
      let d1 = or-done (same_count (length window) (length (others (length de) inserted))) _ n3.0 in
      let d2 = or-done (count_at_most (length window) (length ue)) _ d1.1 in
      let d3 = or-done (same_count _ (length (without vector ie))) _ d2.1 in
      let e1 = or-done (windows_fit 0 de (windows s)) _ t2.1 in
      let e2 = or-done (total_fits (total_of (batch_shape s))) _ e1.1 in
      let e3 = or-done (total_fits (total_of (window_shape s))) _ e2.1 in
      let e4 = or-done (batch_walk s).answer _ e3.1 in
      let e5 = or-done (window_walk s).answer _ e4.1 in
      record {
        index-length = a1.0;
        updates-length = a2.0;
        dest-length = a3.0;
        index-rank = a4.0;
        updates-rank = a5.0;
        dest-rank = a5.1;
        dest-total = b1.0;
        index-total = b2.0;
        updates-total = b3.0;
        dest-span = b3.1;
        inserted = c1.0;
        map = c2.0;
        vector = c3.0;
        components = c3.1;
        kept = d1.0;
        window = d3.1;
        batch = n3.1;
        counts = counted s (same_length (length ie) (length s.indices.strides) a1.0) t2.0;
        fits = e1.0;
        batches = e2.0;
        cells = e3.0;
        batch-walk = e4.0;
        window-walk = e5.0;
        offsets = e5.1;
      }

  -- ---- as facts
  pub record Accepted : Type 0 where
    pub index-strides : length s.indices.strides ≡ rank s.indices
    pub updates-strides : length s.updates.strides ≡ rank s.updates
    pub dest-strides : length s.result.strides ≡ rank s.result
    pub index-rank : rank s.indices ≤ rank_limit
    pub updates-rank : rank s.updates ≤ rank_limit
    pub dest-rank : rank s.result ≤ rank_limit
    pub window-few : length s.spec.update-window-dims ≤ rank_limit
    pub inserted-few : length s.spec.inserted-window-dims ≤ rank_limit
    pub map-few : length s.spec.scatter-dims-to-operand-dims ≤ rank_limit
    pub counts : Counted s
    pub index-total : total_of s.indices.extents ≡ Some (product s.indices.extents)
    pub updates-total : total_of s.updates.extents ≡ Some (product s.updates.extents)
    pub dest-total : total_of s.result.extents ≡ Some (product s.result.extents)
    pub dest-span : is_done (span_fits (spanned s.result.extents s.result.strides)) ≡ true
    pub batches : total_of (batch_shape s) ≡ Some (product (batch_shape s))
    pub cells : total_of (window_shape s) ≡ Some (product (window_shape s))
    pub offsets-fit : (c : ℕ) → c < length s.spec.scatter-dims-to-operand-dims → offset_add (pos 0) (vector_stride s.indices s.spec.index-vector-dim) c ≡ Some (vector_stride s.indices s.spec.index-vector-dim *ℤ pos c)
    pub batch-done : (batch_walk s).answer ≡ Ok tt
    pub window-done : (window_walk s).answer ≡ Ok tt

  pub accepted : (four : Answer) → is_done (refusal_of four s) ≡ true → Accepted
  unfolding window_dims
  accepted four done =
      let p = passed four done in
      let few : rank s.result ≤ rank_limit = few-axes (rank s.result) p.dest-rank in
      let k = p.counts in
      record {
        index-strides = same_length (rank s.indices) (length s.indices.strides) p.index-length;
        updates-strides = same_length (rank s.updates) (length s.updates.strides) p.updates-length;
        dest-strides = same_length (rank s.result) (length s.result.strides) p.dest-length;
        index-rank = few-axes (rank s.indices) p.index-rank;
        updates-rank = few-axes (rank s.updates) p.updates-rank;
        dest-rank = few;
        window-few = omega (arith, few, k.window, length-others 0 (rank s.result) s.spec.inserted-window-dims);
        inserted-few = omega (arith, few, axes-few (rank s.result) s.spec.inserted-window-dims (unique-axes (rank s.result) s.spec.inserted-window-dims p.inserted));
        map-few = omega (arith, few, axes-few (rank s.result) s.spec.scatter-dims-to-operand-dims (unique-axes (rank s.result) s.spec.scatter-dims-to-operand-dims p.map));
        counts = k;
        index-total = total-fits s.indices.extents p.index-total;
        updates-total = total-fits s.updates.extents p.updates-total;
        dest-total = total-fits s.result.extents p.dest-total;
        dest-span = p.dest-span;
        batches = total-fits (batch_shape s) p.batches;
        cells = total-fits (window_shape s) p.cells;
        offsets-fit = λ c h. offset-fits (vector_stride s.indices s.spec.index-vector-dim) c (first-each (offset_fits (vector_stride s.indices s.spec.index-vector-dim)) (length s.spec.scatter-dims-to-operand-dims) p.offsets c h);
        batch-done = done-is (batch_walk s).answer p.batch-walk;
        window-done = done-is (window_walk s).answer p.window-walk;
      }

  module _ (p : Accepted) where
    -- what is read of the layouts as they are held
    strides-back : (n : ℕ) (l : List ℤ) → length l ≡ n → n ≤ rank_limit → take n (padded rank_limit (pos 0) l) ≡ l
    strides-back n l e h = ap (λ (k : ℕ). take k (padded rank_limit (pos 0) l)) (sym e) ∙ read_back (pos 0) l (omega arith)

    pub index-extents-read : extents_of (layout_of s.indices.extents s.indices.strides) ≡ s.indices.extents
    index-extents-read = read_back 1 s.indices.extents p.index-rank

    pub updates-extents-read : extents_of (layout_of s.updates.extents s.updates.strides) ≡ s.updates.extents
    updates-extents-read = read_back 1 s.updates.extents p.updates-rank

    pub dest-extents-read : extents_of (layout_of s.result.extents s.result.strides) ≡ s.result.extents
    dest-extents-read = read_back 1 s.result.extents p.dest-rank

    pub index-strides-read : strides_of (layout_of s.indices.extents s.indices.strides) ≡ s.indices.strides
    index-strides-read = strides-back (rank s.indices) s.indices.strides p.index-strides p.index-rank

    pub updates-strides-read : strides_of (layout_of s.updates.extents s.updates.strides) ≡ s.updates.strides
    updates-strides-read = strides-back (rank s.updates) s.updates.strides p.updates-strides p.updates-rank

    pub dest-strides-read : strides_of (layout_of s.result.extents s.result.strides) ≡ s.result.strides
    dest-strides-read = strides-back (rank s.result) s.result.strides p.dest-strides p.dest-rank

    -- ---- what the code makes of the components
    pub offsets_are : tabulate (min (length s.spec.scatter-dims-to-operand-dims) rank_limit) (offset_or (vector_stride s.indices s.spec.index-vector-dim)) ≡ tabulate (length s.spec.scatter-dims-to-operand-dims) (λ c. vector_stride s.indices s.spec.index-vector-dim *ℤ pos c)
    offsets_are =
        let map = s.spec.scatter-dims-to-operand-dims in
        let stride = vector_stride s.indices s.spec.index-vector-dim in
        let n : min (length map) rank_limit ≡ length map = omega (arith, p.map-few) in
        ap (λ (k : ℕ). tabulate k (offset_or stride)) n ∙ tabulate-same (length map) (offset_or stride) (λ c. stride *ℤ pos c) (λ c h. ap value_of (p.offsets-fit c h))

    pub map_is : take rank_limit s.spec.scatter-dims-to-operand-dims ≡ s.spec.scatter-dims-to-operand-dims
    map_is = take_all rank_limit s.spec.scatter-dims-to-operand-dims p.map-few
