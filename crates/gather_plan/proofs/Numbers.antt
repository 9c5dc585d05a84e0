-- The numbers of a plan do what `specs/Numbers.antt` says, for every gather that compile does not refuse. Assumes nothing.
use Rattle.std.specs.Prelude.{Ok}
use mathlib.Core.Path.{◌≡◌, refl, sym, ap, ◌∙◌}
use mathlib.Core.Bool.{Bool, true, false, cond, ◌||◌, true≢false}
use mathlib.Core.List.{List, [], ◌∷◌}
use Prim.Native.Nat.{ℕ, suc, ◌+◌, ◌<◌, ◌≤◌}
use native.Mathlib.Omega.{arith}
use borrow.Author.Tests.{eqb-true}
use lib.Dec.{eqb, ltb}
use lib.ListN.{length, get_or}
use lib.IntN.{ℤ, pos, ◌+ℤ◌, ◌*ℤ◌}
use Rattle.integer.specs.Laws.{+ℤ-ac}
use Rattle.indexing.specs.Coordinates.{rank, product, unravel, dot, spread, has, others, tabulate}
use Rattle.indexing.specs.Start.{without}
use Rattle.indexing.specs.Gather.{Gather, batch_dims, full_offset, cells, reads}
use Rattle.indexing.proofs.Linear.{index-pos}
use Rattle.indexing.specs.Odometer.{offset_at, advance}
use Rattle.indexing.proofs.Odometer.{advance-offset}
use Rattle.indexing.specs.Axes.{length-pick, get_or-pick, pick-spread, axes-others}
use Rattle.indexing.specs.Steps.{vector_stride, window_steps, batch_steps}
use Rattle.indexing.proofs.Steps.{place-ints, dot-window, write-place}
use Rattle.indexing.proofs.Updates.{length-tabulate, get_d_tabulate}
use Rattle.indexing.specs.Valid.{ValidGather}
use Rattle.indexing.proofs.Places.{gather-component-at}
use Rattle.layout.specs.Answers.{is_done}
use Rattle.layout.specs.Layouts.{rank_limit}
use Rattle.axis_lists.proofs.Without.{length-starts}
use Rattle.components.proofs.Padded.{padded-entry}
use Rattle.checks.proofs.Held.{length-padded}
use Rattle.gather_checks.specs.Refusals.{refusal_of}
use Rattle.layout.specs.Spans.{reset}
use Rattle.gather_plan.specs.declared.Role.TheVariants.{Batch, Window}
use Rattle.gather_plan.specs.declared.GatherReplayAxis.{GatherReplayAxis}
use Rattle.gather_plan.specs.Plan.{no_axis, axis_of, plan_of}
use Rattle.gather_plan.specs.Numbers.{WindowAxis, BatchAxis, stepped, window_place, component_place, NextCell}
use Rattle.gather_plan.proofs.Roles.{window-moves, window-stays, batch-stays, among-batch}
use Rattle.gather_plan.proofs.Valid.{valid, shown-count}
use Rattle.gather_plan.proofs.Accepted.{Accepted, accepted, length-window, length-batch}

-- ---- the total: the number of cells, each of which is read once
pub total-is : (g : Gather) (starts : List ℤ) → (plan_of g).total ≡ length (reads g starts)
unfolding reads cells
total-is g starts = sym (length-tabulate (product g.result.extents) _)

-- ---- steps and resets of axis records as strides and extents
stepped-is : (step back : GatherReplayAxis → ℤ) (ds : List ℕ) (axes : List GatherReplayAxis) (ss : List ℤ) (cs : List ℕ) (z : ℤ) → length ss ≡ length ds → length ds ≤ length axes
    → ((a : ℕ) → a < length ds → (step (get_or axes a no_axis) ≡ get_or ss a (pos 0)) × (back (get_or axes a no_axis) ≡ reset (get_or ds a 0) (get_or ss a (pos 0))))
    → stepped step back ds axes cs z ≡ advance ds ss cs z
unfolding stepped advance
stepped-is step back [] axes ss cs z l h each = refl
stepped-is step back (d ∷ ds) [] ss cs z l h each = absurd (omega arith)
stepped-is step back (d ∷ ds) (x ∷ axes) [] cs z l h each = absurd (omega arith)
stepped-is step back (d ∷ ds) (x ∷ axes) (s ∷ ss) [] z l h each = refl
stepped-is step back (d ∷ ds) (x ∷ axes) (s ∷ ss) (c ∷ cs) z l h each =
    let q = each 0 (omega arith) in
    let r : stepped step back ds axes cs (z +ℤ back x) ≡ advance ds ss cs (z +ℤ reset d s) =
    ap (λ (y : ℤ). stepped step back ds axes cs (z +ℤ y)) q.1 ∙ stepped-is step back ds axes ss cs (z +ℤ reset d s) (omega arith) (omega arith) (λ a k. each (suc a) (omega arith)) in
    λ i. cond (ltb (c + 1) d) (z +ℤ q.0 i) (r i)

-- an entry of a list stands at some place in it
place_of : (axes : List ℕ) (a : ℕ) → has axes a ≡ true → (j : ℕ) × (j < length axes) × (get_or axes j 0 ≡ a)
unfolding has
place_of [] a h = absurd (true≢false (sym h))
place_of (b ∷ axes) a h = go (eqb b a) refl h (place_of axes a)
  where
    go : (t : Bool) → eqb b a ≡ t → (t || has axes a) ≡ true → (has axes a ≡ true → (j : ℕ) × (j < length axes) × (get_or axes j 0 ≡ a)) → (j : ℕ) × (j < suc (length axes)) × (get_or (b ∷ axes) j 0 ≡ a)
    go true e f ih = (0, omega arith, eqb-true b a e)
    go false e f ih = let t = ih f in (suc t.0, omega (arith, t.1), t.2)

-- ---- a gather that compile does not refuse
module _ (g : Gather) (done : is_done (refusal_of (Ok tt) g) ≡ true) where
  abbrev n : ℕ
  n = rank g.result

  abbrev axes : List GatherReplayAxis
  axes = (plan_of g).axes

  v : ValidGather g
  v = valid (Ok tt) g done

  fits : Accepted g
  fits = accepted g (Ok tt) done

  -- axis a of the plan
  pub axis-at : (a : ℕ) → a < n → get_or axes a no_axis ≡ axis_of g a
  axis-at a h =
      let m : length (tabulate n (axis_of g)) ≡ n = length-tabulate n (axis_of g) in
      padded-entry no_axis (tabulate n (axis_of g)) a (omega (arith, m)) (omega (arith, m, fits.dest-rank)) ∙ get_d_tabulate n (axis_of g) a no_axis h

  -- ---- the role

  pub window-axis : (a k : ℕ) → a < n → (get_or axes a no_axis).role ≡ Window k → WindowAxis g (get_or axes a no_axis) k
  window-axis a k h e =
      let x = axis-at a h in
      let r = sym (ap (λ (y : GatherReplayAxis). y.role) x) ∙ e in
      record { window = ap (λ (y : GatherReplayAxis). y.window_step) x ∙ window-moves g a k h r; batch = ap (λ (y : GatherReplayAxis). y.index_batch_step) x ∙ batch-stays g a k r }

  lengths : length (without g.spec.index-vector-dim g.indices.strides) ≡ length (batch_dims g)
  lengths =
      let i = g.spec.index-vector-dim in
      sym (length-starts (pos 0) i g.indices.strides) ∙ ap (λ (m : ℕ). length (others m (i ∷ []))) v.indices-strided ∙ length-starts 0 i g.indices.extents
      ∙ sym (ap length v.batch-shape) ∙ length-pick 0 (batch_dims g) g.result.extents

  batch-moves : (j : ℕ) → j < length (batch_dims g) → get_or (batch_steps g) (get_or (batch_dims g) j 0) (pos 0) ≡ get_or (without g.spec.index-vector-dim g.indices.strides) j (pos 0)
  unfolding batch_steps batch_dims
  batch-moves j h =
      let es : List ℤ = without g.spec.index-vector-dim g.indices.strides in
      sym (get_or-pick (pos 0) (batch_dims g) (spread (pos 0) n (batch_dims g) es) j h)
      ∙ ap (λ (l : List ℤ). get_or l j (pos 0)) (pick-spread (pos 0) n (batch_dims g) es (axes-others n g.spec.offset-dims) lengths)

  pub batch-axis : (a : ℕ) → a < n → (get_or axes a no_axis).role ≡ Batch → BatchAxis g (get_or axes a no_axis) a
  batch-axis a h e =
      let x = axis-at a h in
      let r = sym (ap (λ (y : GatherReplayAxis). y.role) x) ∙ e in
      let p = place_of (batch_dims g) a (among-batch g a h (shown-count (Ok tt) g done) r) in
      record {
        number = p.0;
        among = p.1;
        there = p.2;
        window = ap (λ (y : GatherReplayAxis). y.window_step) x ∙ window-stays g a r;
        batch = ap (λ (y : GatherReplayAxis). y.index_batch_step) x ∙ ap (λ (m : ℕ). get_or (batch_steps g) m (pos 0)) (sym p.2) ∙ batch-moves p.0 p.1;
      }

  pub dest-step : (a : ℕ) → a < n → (get_or axes a no_axis).dest_step ≡ get_or g.result.strides a (pos 0)
  dest-step a h = ap (λ (y : GatherReplayAxis). y.dest_step) (axis-at a h)

  -- ---- from cell to cell

  module _ (k : ℕ) (h : 0 < (plan_of g).total) where
    side : (step back : GatherReplayAxis → ℤ) (ss : List ℤ) (base : ℤ) → length ss ≡ n
        → ((a : ℕ) → (step (axis_of g a) ≡ get_or ss a (pos 0)) × (back (axis_of g a) ≡ reset (get_or g.result.extents a 0) (get_or ss a (pos 0))))
        → stepped step back g.result.extents axes (unravel g.result.extents k) (offset_at base g.result.extents ss k) ≡ offset_at base g.result.extents ss (k + 1)
    side step back ss base l each =
        stepped-is step back g.result.extents axes ss (unravel g.result.extents k) (offset_at base g.result.extents ss k) l (omega (arith, fits.dest-rank, length-padded rank_limit no_axis (tabulate n (axis_of g))))
        (λ a m. let x = axis-at a m in (ap step x ∙ (each a).0, ap back x ∙ (each a).1))
        ∙ advance-offset base g.result.extents ss k (index-pos g.result.extents 0 h) l

    pub next-cell : NextCell g axes k
    unfolding offset_at
    next-cell =
        let ds = g.result.extents in
        let at : (c j : ℕ) → component_place g c j ≡ offset_at (g.indices.offset +ℤ vector_stride g.indices g.spec.index-vector-dim *ℤ pos c) ds (batch_steps g) j =
        λ c j. gather-component-at g v (unravel ds j) c ∙ turn g.indices.offset (dot (batch_steps g) (unravel ds j)) (vector_stride g.indices g.spec.index-vector-dim *ℤ pos c) in
        let into : (j : ℕ) → window_place g j ≡ offset_at g.operand.offset ds (window_steps g) j =
        λ j. place-ints g.operand (full_offset g (unravel ds j)) ∙ ap (λ (z : ℤ). g.operand.offset +ℤ z) (dot-window g v.shown (unravel ds j)) in
        record {
          dest = ap (λ (z : ℤ). stepped (λ a. a.dest_step) (λ a. a.dest_reset) ds axes (unravel ds k) z) (write-place g k)
              ∙ side (λ a. a.dest_step) (λ a. a.dest_reset) g.result.strides g.result.offset v.result-strided (λ a. (refl, refl)) ∙ sym (write-place g (k + 1));
          window = ap (λ (z : ℤ). stepped (λ a. a.window_step) (λ a. a.window_reset) ds axes (unravel ds k) z) (into k)
              ∙ side (λ a. a.window_step) (λ a. a.window_reset) (window_steps g) g.operand.offset (length-window g) (λ a. (refl, refl)) ∙ sym (into (k + 1));
          batch = λ c. ap (λ (z : ℤ). stepped (λ a. a.index_batch_step) (λ a. a.index_batch_reset) ds axes (unravel ds k) z) (at c k)
              ∙ side (λ a. a.index_batch_step) (λ a. a.index_batch_reset) (batch_steps g) (g.indices.offset +ℤ vector_stride g.indices g.spec.index-vector-dim *ℤ pos c) (length-batch g) (λ a. (refl, refl)) ∙ sym (at c (k + 1));
        }
      where
        turn : (a b c : ℤ) → a +ℤ (b +ℤ c) ≡ a +ℤ c +ℤ b
        turn a b c = simp +ℤ-ac
