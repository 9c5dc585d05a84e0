-- A move into the part of the destination that holds its cells is the scatter into the whole. Assumes nothing.
use Rattle.std.specs.Prelude.{Ok}
use mathlib.Core.Path.{◌≡◌, refl, sym, ap, ap₂, subst, ◌∙◌}
use mathlib.Core.Bool.{true}
use mathlib.Core.List.{List, ◌++◌}
use Prim.Native.Nat.{ℕ, ◌+◌, ◌-◌, ◌<◌, ◌≤◌, ◌^◌}
use native.Mathlib.Omega.{arith}
use lib.ListN.{length, take, drop, length-drop, take-append-drop}
use lib.Seq.{length-take-le}
use lib.IntN.{ℤ, pos, ◌+ℤ◌, ◌-ℤ◌}
use lib.Signed.{◌≤ℤ◌, ◌<ℤ◌}
use mir.Syntax.{w64}
use mir.Val.{SFits, to_z}
use Rattle.integer.specs.Z.{back, known, znorm, zflat, zfacts, ≤-from, <-from}
use Rattle.integer.specs.Laws.{≤-pos, ≤ℤ-trans, +ℤ-mono-r}
use Rattle.indexing.specs.Scatter.{Scatter, scatter_dims, window_dims, batch_shape, window_shape, windows, scattered}
use Rattle.indexing.specs.Reach.{lowest}
use Rattle.indexing.specs.Steps.{update_batch_steps, update_window_steps, land_steps}
use Rattle.indexing.specs.Valid.{Covered}
use Rattle.indexing.specs.Parts.{rebased}
use Rattle.indexing.proofs.Parts.{covered-part, combined-lent}
use Rattle.layout.specs.Answers.{is_done, Answer}
use Rattle.layout.specs.Reach.{buffer_bounds}
use Rattle.layout.specs.Inside.{Inside, reach-inside, low-most, high-least}
use Rattle.replay.specs.Replays.{rows_of}
use Rattle.checks.proofs.Made.{or-done}
use Rattle.calls.specs.Calls.{reach_in}
use Rattle.scatter_checks.specs.Refusals.{batch_walk, window_walk, spec_refusal, refusal_of}
use Rattle.runs.proofs.Place.{read}
use Rattle.driven.specs.Driving.{Rowed}
use Rattle.scatter_windows.specs.Scattering.{scattered_by, Scattering}
use Rattle.scatter_move.specs.Prepared.{batch_rows, scatter_numbers, start_base, Ready, Prepares, Cells, Movable}
use Rattle.scatter_move.specs.declared.ScatterNumbers.{ScatterNumbers}
use Rattle.scatter_move.specs.declared.PreparedScatter.{PreparedScatter}
use Rattle.scatter_move.proofs.Moving.{at-valid, scattering, move-is}
use Rattle.scatter_move.proofs.Rowed.{rowed}

-- the scatter whose destination begins at another place
abbrev on_part : Scatter → ℤ → Scatter
on_part s at = record { spec = s.spec; indices = s.indices; updates = s.updates; result = record { extents = s.result.extents; strides = s.result.strides; offset = at } }

done-part : (s : Scatter) (at : ℤ) → is_done (refusal_of (Ok tt) s) ≡ true → is_done (refusal_of (Ok tt) (on_part s at)) ≡ true
unfolding spec_refusal batch_walk window_walk batch_shape window_shape windows scatter_dims window_dims update_batch_steps update_window_steps land_steps
done-part s at e = e

numbers-part : (s : Scatter) (at : ℤ) → scatter_numbers s ≡ scatter_numbers (on_part s at)
unfolding scatter_numbers batch_walk window_walk batch_shape window_shape windows scatter_dims window_dims update_batch_steps update_window_steps land_steps
numbers-part s at = refl

rows-part : (s : Scatter) (at : ℤ) → batch_rows s ≡ batch_rows (on_part s at)
unfolding batch_walk batch_shape scatter_dims update_batch_steps
rows-part s at = refl

module _ (p : PreparedScatter) (low high : ℕ) (starts : List ℤ) (un dn : ℕ) (k : Cells p low high (length starts) un dn) where
  abbrev s : Scatter
  s = k.scatter

  abbrev c : ℤ
  c = s.result.offset

  abbrev ready : Ready p s (length starts) un dn
  ready = k.ready

  inside : Inside s.result.extents s.result.strides c dn low high
  inside = reach-inside s.result.extents s.result.strides c dn low high (sym ready.reach ∙ k.cells)

  pub high-in : high < dn
  high-in = inside.fits

  pub low-high : low ≤ high
  low-high =
      ≤-pos (subst (λ (z : ℤ). z ≤ℤ pos high) (sym inside.low-is) (subst (λ (z : ℤ). (c +ℤ lowest s.result.strides s.result.extents) ≤ℤ z) (sym inside.high_is)
      (+ℤ-mono-r c (≤ℤ-trans (low-most s.result.strides s.result.extents) (high-least s.result.strides s.result.extents)))))

  pub low_fits : dn < 2 ^ 63 → SFits w64 (pos low)
  low_fits m = record { sfits = omega (arith, low-high, high-in) }

  -- the part begins at or before the offset
  low_below : pos low ≤ℤ c
  low_below = subst (λ (z : ℤ). z ≤ℤ c) (sym inside.low-is) (least c (lowest s.result.strides s.result.extents) (low-most s.result.strides s.result.extents))
    where
      least : (x y : ℤ) → y ≤ℤ pos 0 → (x +ℤ y) ≤ℤ x
      least x y h = simp znorm (simp zflat (omega (arith, zfacts)))

  at-fits : SFits w64 c → SFits w64 (c -ℤ pos low)
  at-fits f = gap c (pos low) f (≤-from (pos 0) (pos low) (omega arith)) low_below
    where
      gap : (x y : ℤ) → SFits w64 x → pos 0 ≤ℤ y → y ≤ℤ x → SFits w64 (x -ℤ y)
      gap x y f h k = simp znorm (simp zflat (omega (arith, zfacts, known f)))

  -- as the machine has it
  at-is : SFits w64 p.dest → dn < 2 ^ 63 → read p.dest -ℤ to_z w64 low ≡ c -ℤ pos low
  at-is f m = ap₂ ◌-ℤ◌ (back f ∙ ready.dest) (back (low_fits m))

  pub sub-fits : SFits w64 p.dest → dn < 2 ^ 63 → SFits w64 (read p.dest -ℤ to_z w64 low)
  sub-fits f m = subst (SFits w64) (sym (at-is f m)) (at-fits (subst (SFits w64) ready.dest f))

  pub place_is : (f : SFits w64 p.dest) (m : dn < 2 ^ 63) → read (read p.dest -ℤ to_z w64 low) ≡ c -ℤ pos low
  place_is f m = back (sub-fits f m) ∙ at-is f m

  module _ (n : ℕ) (e : n ≡ high + 1 - low) (at : ℤ) (ea : at ≡ c -ℤ pos low) where
    covered-here : Covered (rebased s.result low) n
    covered-here =
        covered-part s.result low n (subst (λ (z : ℤ). pos low ≤ℤ z) inside.low-is (≤-from (pos low) (pos low) (omega arith)))
        (subst (λ (z : ℤ). z <ℤ pos (low + n)) inside.high_is (<-from (pos high) (pos (low + n)) (omega (arith, low-high))))

    abbrev part : Scatter
    part = on_part s (c -ℤ pos low)

    on-part : is_done (refusal_of (Ok tt) part) ≡ true
    on-part = done-part s (c -ℤ pos low) ready.accepted

    scattering-part : length starts < 2 ^ 63 → Scattering starts (scatter_numbers part).offsets (scatter_numbers part).strides (scatter_numbers part).limits (scatter_numbers part).count (start_base s) s.updates.offset (c -ℤ pos low) (scatter_numbers part).batch_extents (scatter_numbers part).index_steps (scatter_numbers part).update_steps (scatter_numbers part).batch_rank (scatter_numbers part).window_extents (scatter_numbers part).window_steps (scatter_numbers part).dest_steps (scatter_numbers part).window_rank un n
    scattering-part room =
        let t = or-done (buffer_bounds 1 (reach_in s.indices (length starts))) _ ready.bounds in
        let u = or-done (buffer_bounds 2 (reach_in s.updates un)) _ t.1 in
        scattering part on-part starts un n t.0 u.0 covered-here room

    pub part-asks : length starts < 2 ^ 63 → Scattering starts p.numbers.offsets p.numbers.strides p.numbers.limits p.numbers.count p.index p.updates at p.numbers.batch_extents p.numbers.index_steps p.numbers.update_steps p.numbers.batch_rank p.numbers.window_extents p.numbers.window_steps p.numbers.dest_steps p.numbers.window_rank un n
    part-asks room =
        subst (λ (v : ScatterNumbers). Scattering starts v.offsets v.strides v.limits v.count p.index p.updates at v.batch_extents v.index_steps v.update_steps v.batch_rank v.window_extents v.window_steps v.dest_steps v.window_rank un n) (sym (ready.numbers ∙ numbers-part s (c -ℤ pos low)))
        (subst (λ (z : ℤ). Scattering starts (scatter_numbers part).offsets (scatter_numbers part).strides (scatter_numbers part).limits (scatter_numbers part).count z p.updates at (scatter_numbers part).batch_extents (scatter_numbers part).index_steps (scatter_numbers part).update_steps (scatter_numbers part).batch_rank (scatter_numbers part).window_extents (scatter_numbers part).window_steps (scatter_numbers part).dest_steps (scatter_numbers part).window_rank un n) (sym ready.index)
        (subst (λ (z : ℤ). Scattering starts (scatter_numbers part).offsets (scatter_numbers part).strides (scatter_numbers part).limits (scatter_numbers part).count (start_base s) z at (scatter_numbers part).batch_extents (scatter_numbers part).index_steps (scatter_numbers part).update_steps (scatter_numbers part).batch_rank (scatter_numbers part).window_extents (scatter_numbers part).window_steps (scatter_numbers part).dest_steps (scatter_numbers part).window_rank un n) (sym ready.updates)
        (subst (λ (z : ℤ). Scattering starts (scatter_numbers part).offsets (scatter_numbers part).strides (scatter_numbers part).limits (scatter_numbers part).count (start_base s) s.updates.offset z (scatter_numbers part).batch_extents (scatter_numbers part).index_steps (scatter_numbers part).update_steps (scatter_numbers part).batch_rank (scatter_numbers part).window_extents (scatter_numbers part).window_steps (scatter_numbers part).dest_steps (scatter_numbers part).window_rank un n) (sym ea) (scattering-part room))))

    -- the rows of the batches
    pub part-rowed : (rows : List (List ℤ)) → rows ≡ rows_of p.batch_axes → un < 2 ^ 63 → length starts < 2 ^ 63 → Rowed p.index p.updates p.numbers.batch_extents p.numbers.index_steps p.numbers.update_steps rows p.numbers.batch_rank p.numbers.batches p.numbers.count p.numbers.window_extents p.numbers.window_rank
    part-rowed rows er small room =
        let rs : rows ≡ batch_rows part = er ∙ ap rows_of ready.batch-axes ∙ rows-part s (c -ℤ pos low) in
        subst (λ (v : ScatterNumbers). Rowed p.index p.updates v.batch_extents v.index_steps v.update_steps rows v.batch_rank v.batches v.count v.window_extents v.window_rank) (sym (ready.numbers ∙ numbers-part s (c -ℤ pos low)))
        (subst (λ (z : ℤ). Rowed z p.updates (scatter_numbers part).batch_extents (scatter_numbers part).index_steps (scatter_numbers part).update_steps rows (scatter_numbers part).batch_rank (scatter_numbers part).batches (scatter_numbers part).count (scatter_numbers part).window_extents (scatter_numbers part).window_rank) (sym ready.index)
        (subst (λ (z : ℤ). Rowed (start_base s) z (scatter_numbers part).batch_extents (scatter_numbers part).index_steps (scatter_numbers part).update_steps rows (scatter_numbers part).batch_rank (scatter_numbers part).batches (scatter_numbers part).count (scatter_numbers part).window_extents (scatter_numbers part).window_rank) (sym ready.updates)
        (subst (λ (z : List (List ℤ)). Rowed (start_base s) s.updates.offset (scatter_numbers part).batch_extents (scatter_numbers part).index_steps (scatter_numbers part).update_steps z (scatter_numbers part).batch_rank (scatter_numbers part).batches (scatter_numbers part).count (scatter_numbers part).window_extents (scatter_numbers part).window_rank) (sym rs)
        (rowed part on-part (c -ℤ pos low) starts un n small (scattering-part room)))))

    module _ {A : Type 0} (z : A) (rule : A → A → A) (src xs : List A) (m : length xs ≡ dn) where
      part-is : (ys : List A) → scattered_by z rule src starts p.numbers.offsets p.numbers.strides p.numbers.limits p.numbers.count p.index p.updates at p.numbers.batch_extents p.numbers.index_steps p.numbers.update_steps p.numbers.batch_rank p.numbers.window_extents p.numbers.window_steps p.numbers.dest_steps p.numbers.window_rank ys ≡ scattered rule z part starts src ys
      part-is ys =
          ap (λ (v : ScatterNumbers). scattered_by z rule src starts v.offsets v.strides v.limits v.count p.index p.updates at v.batch_extents v.index_steps v.update_steps v.batch_rank v.window_extents v.window_steps v.dest_steps v.window_rank ys) (ready.numbers ∙ numbers-part s (c -ℤ pos low))
          ∙ ap (λ (x : ℤ). scattered_by z rule src starts (scatter_numbers part).offsets (scatter_numbers part).strides (scatter_numbers part).limits (scatter_numbers part).count x p.updates at (scatter_numbers part).batch_extents (scatter_numbers part).index_steps (scatter_numbers part).update_steps (scatter_numbers part).batch_rank (scatter_numbers part).window_extents (scatter_numbers part).window_steps (scatter_numbers part).dest_steps (scatter_numbers part).window_rank ys) ready.index
          ∙ ap₂ (λ (x y : ℤ). scattered_by z rule src starts (scatter_numbers part).offsets (scatter_numbers part).strides (scatter_numbers part).limits (scatter_numbers part).count (start_base s) x y (scatter_numbers part).batch_extents (scatter_numbers part).index_steps (scatter_numbers part).update_steps (scatter_numbers part).batch_rank (scatter_numbers part).window_extents (scatter_numbers part).window_steps (scatter_numbers part).dest_steps (scatter_numbers part).window_rank ys) ready.updates ea
          ∙ move-is part on-part starts z rule src ys

      -- the rest stays
      pub part-leaves : (ys : List A) → ys ≡ scattered_by z rule src starts p.numbers.offsets p.numbers.strides p.numbers.limits p.numbers.count p.index p.updates at p.numbers.batch_extents p.numbers.index_steps p.numbers.update_steps p.numbers.batch_rank p.numbers.window_extents p.numbers.window_steps p.numbers.dest_steps p.numbers.window_rank (take n (drop low xs))
          → take low xs ++ (ys ++ drop n (drop low xs)) ≡ scattered rule z s starts src xs
      unfolding scattered
      part-leaves ys h =
          let lb : length (take low xs) ≡ low = length-take-le low xs (omega (arith, low-high, high-in)) in
          let lp : length (take n (drop low xs)) ≡ n = length-take-le n (drop low xs) (omega (arith, length-drop low xs, low-high, high-in)) in
          ap (λ (l : List A). take low xs ++ (l ++ drop n (drop low xs))) (h ∙ part-is (take n (drop low xs)) ∙ ap (λ (j : ℕ). scattered rule z (on_part s (c -ℤ pos j)) starts src (take n (drop low xs))) (sym lb))
          ∙ sym (combined-lent z (take low xs) (take n (drop low xs)) (drop n (drop low xs)) rule s starts src (at-valid s ready.accepted)
          (subst (λ (j : ℕ). Covered (rebased s.result j) (length (take n (drop low xs)))) (sym lb) (subst (Covered (rebased s.result low)) (sym lp) covered-here)))
          ∙ ap (λ (l : List A). scattered rule z s starts src l) (ap (λ (l : List A). take low xs ++ l) (take-append-drop n (drop low xs)) ∙ take-append-drop low xs)

-- what was prepared can be moved
abbrev pub movable : {p : PreparedScatter} {answer : Answer} {s : Scatter} {sn un dn : ℕ} → Prepares p answer s sn un dn → Movable p sn un dn
movable {s = s} q = record { scatter = s; ready = λ d. q.ready (ap is_done (sym q.answered) ∙ d) }
