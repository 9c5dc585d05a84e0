-- A gather that compile does not refuse is valid, its extents are small, and its component offsets fit. Assumes nothing.
use Rattle.std.specs.Prelude.{Ok, Err}
use mathlib.Core.Path.{◌≡◌, refl, sym, ap, subst, ◌∙◌}
use mathlib.Core.Bool.{Bool, true, false, cond, ◌||◌, true≢false}
use mathlib.Core.List.{List, [], ◌∷◌}
use Prim.Native.Nat.{ℕ, zero, suc, ◌+◌, ◌<◌, ◌≤◌, ◌^◌}
use native.Mathlib.Omega.{arith}
use borrow.Author.Tests.{eqb-true, leb-true}
use lib.Dec.{eqb, leb}
use lib.ListN.{length, get_or}
use Rattle.integer.specs.Tests.{and-true}
use Rattle.indexing.specs.Coordinates.{rank, pick, has, others}
use Rattle.indexing.specs.Start.{without, components}
use Rattle.indexing.specs.Gather.{Gather, batch_dims, shown_dims}
use Rattle.indexing.specs.Valid.{Strided, ValidGather}
use Rattle.indexing.specs.Steps.{vector_stride, window_steps, batch_steps}
use Rattle.layout.specs.Answers.{is_done, Answer}
use Rattle.layout.specs.Layouts.{stride_length}
use Rattle.layout.specs.Lists.{unique_axes}
use Rattle.layout.specs.Spans.{spanned, total_of}
use Rattle.axis_lists.specs.Held.{same_list}
use Rattle.checks.specs.Checks.{total_fits, span_fits, offset_fits, same_count, vector_axis, components_of, windows_from, windows_fit, layouts_refusal}
use Rattle.gather_checks.specs.Refusals.{collapsed_one, numbers_refusal, sizes_refusal, spec_refusal, lists_refusal, counts_refusal, shape_fits, shape_refusal, resets_refusal, refusal_of}
use Rattle.gather_checks.proofs.Offsets.{component-offsets}
use Rattle.checks.proofs.Made.{or-done, same_length}
use Rattle.checks.proofs.Small.{spans-small}
use Rattle.checks.proofs.Fits.{same-count, vector-fits}
use Rattle.checks.proofs.Lists.{unique-axes}
use Rattle.layout.specs.declared.Refusal.TheVariants as F

-- ---- each check
windows-fit : (r a : ℕ) (ds ws : List ℕ) → length ws ≡ length ds → is_done (windows_from r a ds ws) ≡ true → (i : ℕ) → i < length ds → get_or ws i 0 ≤ get_or ds i 0
unfolding windows_from
windows-fit r a [] ws l e i h = absurd (omega arith)
windows-fit r a (d ∷ ds) [] l e i h = absurd (omega arith)
windows-fit r a (d ∷ ds) (w ∷ ws) l e i h = go (leb w d) refl e i h (windows-fit r (suc a) ds ws (omega arith))
  where
    go : (t : Bool) → leb w d ≡ t → is_done (cond t (windows_from r (suc a) ds ws) (Err (F.InvalidAxis a r))) ≡ true → (i : ℕ) → i < suc (length ds)
        → (is_done (windows_from r (suc a) ds ws) ≡ true → (j : ℕ) → j < length ds → get_or ws j 0 ≤ get_or ds j 0) → get_or (w ∷ ws) i 0 ≤ get_or (d ∷ ds) i 0
    go true f q zero k ih = leb-true w d f
    go true f q (suc i) k ih = ih q i (omega arith)
    go false f q i k ih = let z : ◌≡◌ {A = ℕ} 0 1 = cc in absurd (omega arith)

collapsed-one : (r : ℕ) (sizes collapsed : List ℕ) → is_done (collapsed_one r sizes collapsed) ≡ true → (a : ℕ) → has collapsed a ≡ true → get_or sizes a 0 ≡ 1
unfolding collapsed_one has
collapsed-one r sizes [] e a h = absurd (true≢false (sym h))
collapsed-one r sizes (b ∷ bs) e a h = go (eqb (get_or sizes b 0) 1) refl e (eqb b a) refl h (λ q. collapsed-one r sizes bs q a)
  where
    go : (t : Bool) → eqb (get_or sizes b 0) 1 ≡ t → is_done (cond t (collapsed_one r sizes bs) (Err (F.InvalidAxis b r))) ≡ true → (u : Bool) → eqb b a ≡ u → (u || has bs a) ≡ true
        → (is_done (collapsed_one r sizes bs) ≡ true → has bs a ≡ true → get_or sizes a 0 ≡ 1) → get_or sizes a 0 ≡ 1
    go true f q true g k ih = ap (λ (n : ℕ). get_or sizes n 0) (sym (eqb-true b a g)) ∙ eqb-true (get_or sizes b 0) 1 f
    go true f q false g k ih = ih q k
    go false f q u g k ih = let z : ◌≡◌ {A = ℕ} 0 1 = cc in absurd (omega arith)

same_lists : (xs ys : List ℕ) → same_list xs ys ≡ true → xs ≡ ys
unfolding same_list
same_lists [] [] e = refl
same_lists [] (y ∷ ys) e = absurd (true≢false (sym e))
same_lists (x ∷ xs) [] e = absurd (true≢false (sym e))
same_lists (x ∷ xs) (y ∷ ys) e = let t = and-true (eqb x y) (same_list xs ys) e in λ i. eqb-true x y t.0 i ∷ same_lists xs ys t.1 i

shape_is : (oe ie de offsets collapsed : List ℕ) (vector : ℕ) (sizes : List ℕ) → is_done (shape_refusal oe ie de offsets collapsed vector sizes) ≡ true
    → (length de ≡ length (without vector ie) + length offsets) × (pick 0 offsets de ≡ pick 0 (others (length oe) collapsed) sizes) × (pick 0 (others (length de) offsets) de ≡ without vector ie)
unfolding shape_fits
shape_is oe ie de offsets collapsed vector sizes e = go (shape_fits oe ie de offsets collapsed vector sizes) refl e
  where
    go : (t : Bool) → shape_fits oe ie de offsets collapsed vector sizes ≡ t → is_done (cond t (Ok tt) (Err (F.ShapeMismatch (length de) (length (without vector ie) + length offsets)))) ≡ true
        → (length de ≡ length (without vector ie) + length offsets) × (pick 0 offsets de ≡ pick 0 (others (length oe) collapsed) sizes) × (pick 0 (others (length de) offsets) de ≡ without vector ie)
    go true f h =
        let t = and-true (eqb (length de) (length (without vector ie) + length offsets)) _ f in
        let u = and-true (same_list (pick 0 offsets de) (pick 0 (others (length oe) collapsed) sizes)) _ t.1 in
        (eqb-true (length de) (length (without vector ie) + length offsets) t.0, same_lists (pick 0 offsets de) (pick 0 (others (length oe) collapsed) sizes) u.0, same_lists (pick 0 (others (length de) offsets) de) (without vector ie) u.1)
    go false f h = let z : ◌≡◌ {A = ℕ} 0 1 = cc in absurd (omega arith)

-- ---- a gather that compile does not refuse
pub record Small (g : Gather) : Type 0 where
  pub operand : (a : ℕ) → a < rank g.operand → get_or g.operand.extents a 0 ≤ 2 ^ 63
  pub result : (a : ℕ) → a < rank g.result → get_or g.result.extents a 0 ≤ 2 ^ 63

module _ (four : Answer) (g : Gather) (done : is_done (refusal_of four g) ≡ true) where
  pub checks : is_done (layouts_refusal (rank g.operand) (length g.operand.strides) (rank g.indices) (length g.indices.strides) (rank g.result) (length g.result.strides)) ≡ true
      × (is_done (numbers_refusal g.operand.extents g.operand.strides g.indices.extents g.indices.strides g.result.extents g.result.strides) ≡ true)
      × (is_done (lists_refusal g.operand.extents g.indices.extents g.spec.collapsed-slice-dims g.spec.start-index-map g.spec.index-vector-dim g.spec.slice-sizes) ≡ true)
      × (is_done (counts_refusal g.operand.extents g.indices.extents g.spec.offset-dims g.spec.collapsed-slice-dims g.spec.start-index-map g.spec.index-vector-dim) ≡ true)
      × (is_done (shape_refusal g.operand.extents g.indices.extents g.result.extents g.spec.offset-dims g.spec.collapsed-slice-dims g.spec.index-vector-dim g.spec.slice-sizes) ≡ true)
      × (is_done (resets_refusal g.result.extents g.result.strides (window_steps g) (batch_steps g)) ≡ true)
  unfolding sizes_refusal spec_refusal
  checks =
      let s = or-done (sizes_refusal g.operand.extents g.operand.strides g.indices.extents g.indices.strides g.result.extents g.result.strides) _ done in
      let a = or-done (layouts_refusal (rank g.operand) (length g.operand.strides) (rank g.indices) (length g.indices.strides) (rank g.result) (length g.result.strides)) _ s.0 in
      let b = or-done four (spec_refusal g) s.1 in
      let c = or-done (lists_refusal g.operand.extents g.indices.extents g.spec.collapsed-slice-dims g.spec.start-index-map g.spec.index-vector-dim g.spec.slice-sizes) _ b.1 in
      let d = or-done (counts_refusal g.operand.extents g.indices.extents g.spec.offset-dims g.spec.collapsed-slice-dims g.spec.start-index-map g.spec.index-vector-dim) _ c.1 in
      let e = or-done (shape_refusal g.operand.extents g.indices.extents g.result.extents g.spec.offset-dims g.spec.collapsed-slice-dims g.spec.index-vector-dim g.spec.slice-sizes) _ d.1 in
      (a.0, a.1, c.0, d.0, e.0, e.1)

  strided : Strided g.operand × Strided g.indices × Strided g.result
  strided =
      let a = or-done (stride_length (rank g.operand) (length g.operand.strides)) _ checks.0 in
      let b = or-done (stride_length (rank g.indices) (length g.indices.strides)) _ a.1 in
      let c = or-done (stride_length (rank g.result) (length g.result.strides)) _ b.1 in
      (same_length (rank g.operand) (length g.operand.strides) a.0, same_length (rank g.indices) (length g.indices.strides) b.0, same_length (rank g.result) (length g.result.strides) c.0)

  spans : (is_done (span_fits (spanned g.operand.extents g.operand.strides)) ≡ true) × (is_done (span_fits (spanned g.indices.extents g.indices.strides)) ≡ true) × (is_done (span_fits (spanned g.result.extents g.result.strides)) ≡ true)
  spans =
      let a = or-done (total_fits (total_of g.operand.extents)) _ checks.1 in
      let b = or-done (total_fits (total_of g.indices.extents)) _ a.1 in
      let c = or-done (total_fits (total_of g.result.extents)) _ b.1 in
      let d = or-done (span_fits (spanned g.operand.extents g.operand.strides)) _ c.1 in
      let e = or-done (span_fits (spanned g.indices.extents g.indices.strides)) _ d.1 in
      (d.0, e.0, e.1)

  pub small : Small g
  small = record { operand = spans-small g.operand.extents g.operand.strides strided.0 spans.0; result = spans-small g.result.extents g.result.strides strided.2 spans.2 }

  pub valid : ValidGather g
  unfolding components batch_dims shown_dims
  valid =
      let (s1, s2, s3) = strided in
      let a = or-done (same_count (length g.spec.slice-sizes) (rank g.operand)) _ checks.2 in
      let b = or-done (unique_axes (rank g.operand) [] g.spec.collapsed-slice-dims) _ a.1 in
      let c = or-done (unique_axes (rank g.operand) [] g.spec.start-index-map) _ b.1 in
      let d = or-done (vector_axis g.spec.index-vector-dim (rank g.indices)) _ c.1 in
      let e = or-done (windows_fit 0 g.operand.extents g.spec.slice-sizes) _ d.1 in
      let m = or-done (same_count (components_of g.indices.extents g.spec.index-vector-dim) (length g.spec.start-index-map)) _ checks.3 in
      let n = or-done (same_count (length g.spec.offset-dims) (length (others (rank g.operand) g.spec.collapsed-slice-dims))) _ m.1 in
      let q = shape_is g.operand.extents g.indices.extents g.result.extents g.spec.offset-dims g.spec.collapsed-slice-dims g.spec.index-vector-dim g.spec.slice-sizes checks.4 in
      let sizes = same-count (length g.spec.slice-sizes) (rank g.operand) a.0 in
      record {
        operand-strided = s1;
        indices-strided = s2;
        result-strided = s3;
        sizes = sizes;
        collapsed = unique-axes (rank g.operand) g.spec.collapsed-slice-dims b.0;
        mapped = unique-axes (rank g.operand) g.spec.start-index-map c.0;
        vector = vector-fits g.spec.index-vector-dim (rank g.indices) d.0;
        fits = windows-fit (rank g.operand) 0 g.operand.extents g.spec.slice-sizes sizes e.0;
        collapsed-one = collapsed-one (rank g.operand) g.spec.slice-sizes g.spec.collapsed-slice-dims e.1;
        counted = same-count (components_of g.indices.extents g.spec.index-vector-dim) (length g.spec.start-index-map) m.0;
        shown = unique-axes (rank g.result) g.spec.offset-dims (subst (λ (k : ℕ). is_done (unique_axes k [] g.spec.offset-dims) ≡ true) (sym q.0) n.1);
        window-shape = q.1;
        batch-shape = q.2;
      }

  -- as many axes are shown as there are window axes
  pub shown-count : length g.spec.offset-dims ≡ length (shown_dims g)
  unfolding shown_dims
  shown-count =
      let m = or-done (same_count (components_of g.indices.extents g.spec.index-vector-dim) (length g.spec.start-index-map)) _ checks.3 in
      let n = or-done (same_count (length g.spec.offset-dims) (length (others (rank g.operand) g.spec.collapsed-slice-dims))) _ m.1 in
      same-count (length g.spec.offset-dims) (length (others (rank g.operand) g.spec.collapsed-slice-dims)) n.0

  -- THE COMPONENT OFFSETS fit: 3 is never answered of them, so that document 01's list for gather does not name them
  pub offsets-fit : (c : ℕ) → c < length g.spec.start-index-map → is_done (offset_fits (vector_stride g.indices g.spec.index-vector-dim) c) ≡ true
  unfolding components
  offsets-fit c h =
      component-offsets g.indices.extents g.indices.strides g.spec.index-vector-dim valid.indices-strided spans.1 valid.vector c
      (subst (λ (n : ℕ). c < n) (sym valid.counted) h)
