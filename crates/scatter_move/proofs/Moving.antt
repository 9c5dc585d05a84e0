-- The move of an accepted scatter: its cells lie inside their slices, and what it leaves is the scatter. Assumes nothing.
use Rattle.std.specs.Prelude.{Ok}
use mathlib.Core.Path.{◌≡◌, refl, sym, ap, ap₂, subst, ◌∙◌}
use mathlib.Core.Bool.{Bool, true, false, cond}
use mathlib.Core.List.{List}
use Prim.Native.Nat.{ℕ, zero, suc, ◌-◌, ◌<◌, ◌≤◌, ◌^◌}
use native.Mathlib.Omega.{arith}
use lib.Dec.{eqb}
use lib.ListN.{length, get_or, take, replicate, length-replicate}
use lib.IntN.{ℤ, pos, ◌+ℤ◌, ◌*ℤ◌, +ℤ_assoc, +ℤ_idr, *ℤ-zero}
use Rattle.integer.specs.Z.{≤-from, <-from}
use Rattle.indexing.specs.Coordinates.{rank, product, unravel, dot, ints, InSlice, element_at, store, place_of, pick, tabulate}
use Rattle.indexing.specs.Start.{without, index_coordinate, clamp, start_on, start_index}
use Rattle.indexing.specs.Scatter.{Scatter, batch_shape, window_shape, windows, update_at, lands_at, scattered}
use Rattle.indexing.specs.Odometer.{offset_at}
use Rattle.indexing.specs.Steps.{vector_stride, update_batch_steps, update_window_steps, land_steps, start_sum_to}
use Rattle.indexing.specs.Loops.{in_order}
use Rattle.indexing.proofs.Loops.{combined-loop}
use Rattle.indexing.proofs.Bounds.{window-below, scatter-start-within}
use Rattle.indexing.proofs.Once.{update-within}
use Rattle.indexing.specs.Valid.{Covered, ValidScatter}
use Rattle.indexing.proofs.Places.{updates-at, scatter-component-at, lands-at, lands-in, lands-partly-in, updates-in, scatter-starts-in, sum_same}
use Rattle.indexing.proofs.Linear.{dot-first}
use Rattle.layout.specs.Answers.{is_done}
use Rattle.layout.specs.Layouts.{rank_limit, padded}
use Rattle.layout.specs.Reach.{view_reach, buffer_bounds}
use Rattle.runs.specs.Runs.{cell_at}
use Rattle.runs.proofs.Turns.{same-places, same-turns}
use Rattle.windows.specs.Windows.{place_at, windowed}
use Rattle.indexed_runs.specs.IndexedRuns.{component_at, start_at, Starting}
use Rattle.indexed_runs.proofs.Starts.{in-wider}
use Rattle.components.specs.Components.{limit_at, unless_none}
use Rattle.components.proofs.Padded.{unless-some}
use Rattle.calls.proofs.Covers.{no_zero, covered}
use Rattle.calls.proofs.Sums.{clamp-limit, zero-dot, axis-below}
use Rattle.scatter_checks.specs.Refusals.{batch_walk, window_walk, refusal_of}
use Rattle.scatter_windows.specs.Scattering.{scattered_by, Batches, Scattering}
use Rattle.scatter_plan.proofs.Valid.{valid}
use Rattle.scatter_move.specs.Prepared.{steps_at, batch_rows, window_rows, scatter_numbers, start_base}
use Rattle.scatter_move.specs.declared.ScatterNumbers.{ScatterNumbers}
use Rattle.scatter_move.proofs.Numbers.{batch-walked, window-walked, map-few, small_result, offset-at, stride-at, limit-at}

index-room : (r n : ℕ) (steps : List ℤ) → r ≤ rank_limit → r ≤ length steps → r ≤ length (unless_none n (replicate rank_limit (pos 0)) steps)
index-room r n steps h k = go (eqb n 0)
  where
    go : (t : Bool) → r ≤ length (cond t (replicate rank_limit (pos 0)) steps)
    go true = omega (arith, length-replicate rank_limit (pos 0))
    go false = k

module _ (s : Scatter) (done : is_done (refusal_of (Ok tt) s) ≡ true) where
  abbrev w : ScatterNumbers
  w = scatter_numbers s

  abbrev a : ℤ
  a = s.indices.offset

  abbrev b : ℤ
  b = s.updates.offset

  abbrev c : ℤ
  c = s.result.offset

  abbrev br : List (List ℤ)
  br = batch_rows s

  abbrev wr : List (List ℤ)
  wr = window_rows s

  abbrev brank : ℕ
  brank = (batch_walk s).replay.rank

  abbrev wrank : ℕ
  wrank = (window_walk s).replay.rank

  pub at-valid : ValidScatter s
  at-valid = valid (Ok tt) s done

  abbrev n : ℕ
  n = length s.spec.scatter-dims-to-operand-dims

  abbrev offsets : List ℤ
  offsets = padded rank_limit (pos 0) (tabulate n (λ j. vector_stride s.indices s.spec.index-vector-dim *ℤ pos j))

  abbrev strides : List ℤ
  strides = padded rank_limit (pos 0) (pick (pos 0) s.spec.scatter-dims-to-operand-dims s.result.strides)

  abbrev batch : List ℕ
  batch = (batch_walk s).replay.extents

  abbrev window : List ℕ
  window = (window_walk s).replay.extents

  -- ---- the places of batch k
  pub total-batches : product (take brank batch) ≡ product (batch_shape s)
  total-batches = (batch-walked s done).total

  pub total-cells : product (take wrank window) ≡ product (window_shape s)
  total-cells = (window-walked s done).total

  update-base : (k : ℕ) → place_at b batch (steps_at 2 br) brank k ≡ b +ℤ dot (update_batch_steps s) (unravel (batch_shape s) k)
  update-base k = (batch-walked s done).dest b k

  abbrev steps : List ℤ
  steps = unless_none n (replicate rank_limit (pos 0)) (steps_at 0 br)

  index-place : 0 < n → (k : ℕ) → place_at (start_base s) batch steps brank k ≡ a +ℤ dot (without s.spec.index-vector-dim s.indices.strides) (unravel (batch_shape s) k)
  index-place h k =
      ap₂ (λ (z : ℤ) (l : List ℤ). place_at z batch l brank k) (unless-some n (pos 0) a h) (unless-some n (replicate rank_limit (pos 0)) (steps_at 0 br) h)
      ∙ (batch-walked s done).source a k

  no-index-place : n ≡ 0 → (k : ℕ) → place_at (start_base s) batch steps brank k ≡ pos 0
  unfolding offset_at
  no-index-place e k =
      ap (λ (m : ℕ). unless_none m (pos 0) a +ℤ dot (take brank (unless_none m (replicate rank_limit (pos 0)) (steps_at 0 br))) (unravel (take brank batch) k)) e
      ∙ ap (λ (z : ℤ). pos 0 +ℤ z) (zero-dot brank rank_limit (unravel (take brank batch) k))

  abbrev component_place : ℕ → ℕ → ℤ
  component_place k j = place_of s.indices (ints (index_coordinate s.spec.index-vector-dim (rank s.indices) (unravel (batch_shape s) k) j))

  abbrev start_place : ℕ → ℤ
  start_place k = place_at (start_base s) batch steps brank k

  pub component-place : (k j : ℕ) → j < n → start_place k +ℤ get_or offsets j (pos 0) ≡ component_place k j
  component-place k j h =
      ap₂ ◌+ℤ◌ (index-place (omega arith) k) (offset-at s done j h)
      ∙ +ℤ_assoc a (dot (without s.spec.index-vector-dim s.indices.strides) (unravel (batch_shape s) k)) (vector_stride s.indices s.spec.index-vector-dim *ℤ pos j)
      ∙ sym (scatter-component-at s at-valid k j)

  module _ (starts : List ℤ) where
    abbrev at : ℕ → ℕ → ℤ
    at k = start_index s.indices s.spec.index-vector-dim starts (unravel (batch_shape s) k)

    abbrev limits : List ℕ
    limits = tabulate rank_limit (limit_at s.result.extents (windows s) s.spec.scatter-dims-to-operand-dims)

    abbrev start : ℕ → ℕ → ℤ
    start k j = start_at starts offsets strides limits (start_place k) j

    abbrev sum : ℕ → ℕ → ℤ
    sum k j = start_sum_to s.result.strides s.result.extents (windows s) s.spec.scatter-dims-to-operand-dims (at k) j

    component-is : (k j : ℕ) → j < n
        → component_at starts offsets strides limits (start_place k) j
        ≡ get_or s.result.strides (get_or s.spec.scatter-dims-to-operand-dims j 0) (pos 0) *ℤ start_on s.result.extents (windows s) s.spec.scatter-dims-to-operand-dims (at k) j
    unfolding start_on start_index
    component-is k j h =
        ap₂ ◌*ℤ◌ (stride-at s done j h)
        (ap₂ (λ (z : ℤ) (m : ℕ). clamp (element_at (pos 0) starts z) m 0) (component-place k j h) (limit-at s done j h)
        ∙ clamp-limit (at k j) (get_or s.result.extents (get_or s.spec.scatter-dims-to-operand-dims j 0) 0) (get_or (windows s) (get_or s.spec.scatter-dims-to-operand-dims j 0) 0))

    start_is : (k j : ℕ) → j ≤ n → start k j ≡ sum k j
    unfolding start_sum_to
    start_is k j h = sum_same j _ _ (λ i l. component-is k i (omega arith))

    -- ---- the places of cell m of batch k's window
    update-is : (k m : ℕ) → place_at (place_at b batch (steps_at 2 br) brank k) window (steps_at 0 wr) wrank m ≡ update_at s k m
    update-is k m =
        in_window
        ∙ ap (λ (z : ℤ). z +ℤ dot (update_window_steps s) (unravel (window_shape s) m)) (update-base k)
        ∙ +ℤ_assoc b (dot (update_batch_steps s) (unravel (batch_shape s) k)) (dot (update_window_steps s) (unravel (window_shape s) m))
        ∙ sym (updates-at s at-valid k m)
      where
        in_window : place_at (place_at b batch (steps_at 2 br) brank k) window (steps_at 0 wr) wrank m ≡ place_at b batch (steps_at 2 br) brank k +ℤ dot (update_window_steps s) (unravel (window_shape s) m)
        in_window = (window-walked s done).source (place_at b batch (steps_at 2 br) brank k) m

    lands-is : (k m : ℕ) → place_at (c +ℤ start k n) window (steps_at 2 wr) wrank m ≡ lands_at s starts k m
    lands-is k m =
        in_window
        ∙ +ℤ_assoc c (start k n) (dot (land_steps s) (unravel (window_shape s) m))
        ∙ ap (λ (z : ℤ). c +ℤ (z +ℤ dot (land_steps s) (unravel (window_shape s) m))) (start_is k n (omega arith))
        ∙ sym (lands-at s at-valid starts k m)
      where
        in_window : place_at (c +ℤ start k n) window (steps_at 2 wr) wrank m ≡ c +ℤ start k n +ℤ dot (land_steps s) (unravel (window_shape s) m)
        in_window = (window-walked s done).dest (c +ℤ start k n) m

    -- THE MOVE leaves what the scatter leaves
    pub move-is : {A : Type 0} (z : A) (rule : A → A → A) (src into : List A)
        → scattered_by z rule src starts w.offsets w.strides w.limits w.count (start_base s) b c w.batch_extents w.index_steps w.update_steps w.batch_rank w.window_extents w.window_steps w.dest_steps w.window_rank into
        ≡ scattered rule z s starts src into
    unfolding scatter_numbers scattered
    move-is {A} z rule src into =
        ap (λ (m : ℕ). in_order turn m into) total-batches
        ∙ same-turns turn (λ k y. in_order (λ m held. store held (lands_at s starts k m) (rule (element_at z held (lands_at s starts k m)) (element_at z src (update_at s k m)))) (product (window_shape s)) y) (product (batch_shape s))
        (λ k h y.
        ap (λ (m : ℕ). in_order (cell_at z rule src (place_at (place_at b batch (steps_at 2 br) brank k) window (steps_at 0 wr) wrank) (place_at (c +ℤ start k n) window (steps_at 2 wr) wrank)) m y) total-cells
        ∙ same-places z rule src (place_at (place_at b batch (steps_at 2 br) brank k) window (steps_at 0 wr) wrank) (place_at (c +ℤ start k n) window (steps_at 2 wr) wrank) (update_at s k) (lands_at s starts k) (product (window_shape s))
        (λ m l. update-is k m) (λ m l. lands-is k m) y)
        into
        ∙ sym (combined-loop rule z s starts src into)
      where
        turn : ℕ → List A → List A
        turn k = windowed z rule src (place_at b batch (steps_at 2 br) brank k) (c +ℤ start k n) window (steps_at 0 wr) (steps_at 2 wr) wrank

    -- ---- where their cells lie
    module _ (un dn : ℕ) (fi : is_done (buffer_bounds 1 (view_reach s.indices.extents s.indices.strides a (length starts))) ≡ true) (fu : is_done (buffer_bounds 2 (view_reach s.updates.extents s.updates.strides b un)) ≡ true)
        (cd : Covered s.result dn) (room : length starts < 2 ^ 63) (hw : 0 < product (window_shape s)) where
      module _ (k : ℕ) (h : k < product (batch_shape s)) where
        index-covered : 0 < n → Covered s.indices (length starts)
        index-covered m = covered s.indices 1 (length starts) fi (no_zero s.indices.extents _ (scatter-start-within s at-valid k h 0 (omega arith)))

        updates-covered : Covered s.updates un
        updates-covered = covered s.updates 2 un fu (no_zero s.updates.extents _ (update-within s at-valid k 0 h hw))

        reads_in : (j : ℕ) → j < n → InSlice (length starts) (start_place k +ℤ get_or offsets j (pos 0))
        reads_in j l = subst (InSlice (length starts)) (sym (component-place k j l)) (scatter-starts-in s at-valid k h (length starts) (index-covered (omega arith)) j (omega arith))

        partly-in : (j : ℕ) → j ≤ n → InSlice dn (c +ℤ start k j)
        partly-in j l =
            subst (InSlice dn) (ap (λ (z : ℤ). c +ℤ z) (ap₂ ◌+ℤ◌ (sym (start_is k j l)) (dot-first (land_steps s) (window_shape s)) ∙ +ℤ_idr (start k j)))
            (lands-partly-in s at-valid k 0 h hw dn starts cd j (omega arith))

        small-limit : (j : ℕ) → j < n → get_or limits j 0 < 2 ^ 63
        small-limit j l =
            let m : ℕ = get_or s.spec.scatter-dims-to-operand-dims j 0 in
            let q : m < rank s.result = axis-below (rank s.result) s.spec.scatter-dims-to-operand-dims at-valid.mapped j (omega arith) in
            let e : get_or limits j 0 ≡ get_or s.result.extents m 0 - get_or (windows s) m 0 = limit-at s done j l in
            omega (arith, e, window-below s at-valid 0 hw m q, small_result s done m q)

        starting : Starting starts offsets strides limits c (start_place k) n dn
        starting = record { few = map-few s done; small = small-limit; reads = reads_in; partly = partly-in }

        first-in : 0 < n → InSlice (length starts) (start_place k)
        first-in l = subst (InSlice (length starts)) (ap (λ (z : ℤ). start_place k +ℤ z) (offset-at s done 0 l ∙ *ℤ-zero (vector_stride s.indices s.spec.index-vector-dim)) ∙ +ℤ_idr (start_place k)) (reads_in 0 l)

        index_in : InSlice (2 ^ 63 - 1) (start_place k)
        index_in = go n refl
          where
            go : (m : ℕ) → n ≡ m → InSlice (2 ^ 63 - 1) (start_place k)
            go zero e = subst (InSlice (2 ^ 63 - 1)) (sym (no-index-place e k)) (≤-from (pos 0) (pos 0) (omega arith), <-from (pos 0) (pos (2 ^ 63 - 1)) (omega arith))
            go (suc m) e = in-wider (length starts) (2 ^ 63 - 1) (start_place k) (omega (arith, room)) (first-in (omega arith))

        module _ (m : ℕ) (l : m < product (window_shape s)) where
          source_in : InSlice un (place_at (place_at b batch (steps_at 2 br) brank k) window (steps_at 0 wr) wrank m)
          source_in = subst (InSlice un) (sym (update-is k m)) (updates-in s at-valid k m h l un updates-covered)

          dest-in : InSlice dn (place_at (c +ℤ start k n) window (steps_at 2 wr) wrank m)
          dest-in = subst (InSlice dn) (sym (lands-is k m)) (lands-in s at-valid k m h l dn starts cd)

      batch-of : (k : ℕ) → k < product (take brank batch) → k < product (batch_shape s)
      batch-of k h = subst (λ (m : ℕ). k < m) total-batches h

      cell-of : (m : ℕ) → m < product (take wrank window) → m < product (window_shape s)
      cell-of m h = subst (λ (x : ℕ). m < x) total-cells h

      here : Batches starts offsets strides limits n (start_base s) b c batch steps (steps_at 2 br) brank window (steps_at 0 wr) (steps_at 2 wr) wrank un dn
      here =
          let v = batch-walked s done in
          let x = window-walked s done in
          record {
            index = record { extents = v.room; strided = index-room brank n (steps_at 0 br) v.few v.source-room; few = v.small; inside = λ k h. index_in k (batch-of k h) };
            strided = v.dest-room;
            starting = λ k h. starting k (batch-of k h);
            source = λ k h. record { extents = x.room; strided = x.source-room; few = x.small; inside = λ m l. source_in k (batch-of k h) m (cell-of m l) };
            dest = λ k h. record { extents = x.room; strided = x.dest-room; few = x.small; inside = λ m l. dest-in k (batch-of k h) m (cell-of m l) };
          }

    pub scattering : (un dn : ℕ) → is_done (buffer_bounds 1 (view_reach s.indices.extents s.indices.strides a (length starts))) ≡ true → is_done (buffer_bounds 2 (view_reach s.updates.extents s.updates.strides b un)) ≡ true
        → Covered s.result dn → length starts < 2 ^ 63
        → Scattering starts w.offsets w.strides w.limits w.count (start_base s) b c w.batch_extents w.index_steps w.update_steps w.batch_rank w.window_extents w.window_steps w.dest_steps w.window_rank un dn
    unfolding scatter_numbers
    scattering un dn fi fu cd room =
        record {
          small = (batch-walked s done).few;
          window-small = (window-walked s done).few;
          batches = λ hb hw. here un dn fi fu cd room (subst (λ (m : ℕ). 0 < m) total-cells hw);
        }
