-- A walk that compile merged, as the arrays that the cells are walked with: the same places, and as many. Assumes nothing.
use Rattle.std.specs.Prelude.{Ok}
use mathlib.Core.Path.{◌≡◌, refl, sym, ap, ap₂, subst, ◌∙◌}
use mathlib.Core.List.{List, [], ◌∷◌, map}
use Prim.Native.Nat.{ℕ, zero, suc, ◌<◌, ◌≤◌, ◌^◌}
use native.Mathlib.Omega.{arith}
use lib.ListN.{length, get_or, take, length-take, length-map, get_or-map}
use lib.Seq.{get_or-take, length-take-le, ext_get_or}
use lib.IntN.{ℤ, pos, ◌+ℤ◌}
use Rattle.checks.proofs.Held.{take-map}
use Rattle.indexing.specs.Coordinates.{product, unravel, dot}
use Rattle.indexing.proofs.Updates.{length-tabulate, get_d_tabulate}
use Rattle.indexing.specs.Odometer.{offset_at}
use Rattle.indexing.specs.Axes.{get_d_any}
use Rattle.layout.specs.Layouts.{rank_limit, padded}
use Rattle.axis_lists.proofs.Filling.{entry-below, read_back}
use Rattle.replay.specs.declared.WindowReplayAxis.{WindowReplayAxis}
use Rattle.replay.specs.declared.CompiledReplay.{CompiledReplay}
use Rattle.replay.specs.Replays.{no_axis, compiled_replay, extents, row_of, rows_of}
use Rattle.replay.specs.Merging.{AllReset, Meets, IsDone}
use Rattle.replay.proofs.Merging.{compiled-done}
use Rattle.windows.specs.Windows.{place_at}
use Rattle.components.proofs.Padded.{padded-entry}
use Rattle.scatter_move.specs.Prepared.{steps_at}

resets-small : (l : List WindowReplayAxis) → AllReset l → (i : ℕ) → i < length l → get_or (extents l) i 0 ≤ 2 ^ 63
unfolding AllReset
resets-small [] r i h = absurd (omega arith)
resets-small (a ∷ l) r zero h = omega (arith, r.0.size.sfits)
resets-small (a ∷ l) r (suc i) h = resets-small l r.1 i (omega arith)

-- what the arrays of a walk are, by the axes as they were given
pub record Walked (ds : List ℕ) (ss ts : List ℤ) (shape : List ℕ) (zs us : List ℤ) (rank : ℕ) : Type 0 where
  pub few : rank ≤ rank_limit
  pub room : rank ≤ length shape
  pub source-room : rank ≤ length zs
  pub dest-room : rank ≤ length us
  pub small : (i : ℕ) → i < rank → get_or shape i 0 ≤ 2 ^ 63
  pub total : product (take rank shape) ≡ product ds
  pub source : (base : ℤ) (k : ℕ) → place_at base shape zs rank k ≡ base +ℤ dot ss (unravel ds k)
  pub dest : (base : ℤ) (k : ℕ) → place_at base shape us rank k ≡ base +ℤ dot ts (unravel ds k)

module _ (l : List WindowReplayAxis) (few : length l ≤ rank_limit) where
  abbrev held : List WindowReplayAxis
  held = padded rank_limit no_axis l

  shape-read : take (length l) (extents held) ≡ extents l
  shape-read = take-map (λ (a : WindowReplayAxis). a.extent) (length l) held ∙ ap extents (read_back no_axis l few)

  -- number j of each row of the walk's rows
  steps-read : (j : ℕ) (f : WindowReplayAxis → ℤ) → ((a : WindowReplayAxis) → get_or (row_of a) j (pos 0) ≡ f a) → take (length l) (steps_at j (rows_of held)) ≡ map f l
  steps-read j f e =
      let t : List ℤ = steps_at j (rows_of held) in
      let lt : length (take (length l) t) ≡ length l = length-take-le (length l) t (omega (arith, few, length-tabulate rank_limit (λ i. get_or (get_or (rows_of held) i []) j (pos 0)))) in
      ext_get_or (pos 0) (take (length l) t) (map f l) (lt ∙ sym (length-map l f))
      (λ i h.
      let h' : i < length l = omega (arith, lt) in
      get_or-take (length l) t i (pos 0) h' ∙ get_d_tabulate rank_limit (λ i. get_or (get_or (rows_of held) i []) j (pos 0)) i (pos 0) (omega (arith, few))
      ∙ ap (λ (r : List ℤ). get_or r j (pos 0)) (row_at i h')
      ∙ e (get_or l i no_axis) ∙ sym (entry f i h'))
    where
      entry : (f : WindowReplayAxis → ℤ) (i : ℕ) → i < length l → get_or (map f l) i (pos 0) ≡ f (get_or l i no_axis)
      entry f i h = get_d_any (map f l) i (pos 0) (f no_axis) (omega (arith, length-map l f)) ∙ get_or-map f l i no_axis

      held-room : length l ≤ length held
      held-room = omega (arith, length-take (length l) held, ap length (read_back no_axis l few))

      row_at : (i : ℕ) → i < length l → get_or (rows_of held) i [] ≡ row_of (get_or l i no_axis)
      row_at i h = get_d_any (rows_of held) i [] (row_of no_axis) (omega (arith, length-map held row_of, held-room)) ∙ get_or-map row_of held i no_axis ∙ ap row_of (padded-entry no_axis l i h few)

-- ---- a walk that is not refused
module _ (ds : List ℕ) (ss ts : List ℤ) (ls : length ss ≡ length ds) (lt : length ts ≡ length ds) (small : length ds ≤ rank_limit) where
  at-axes : (d : IsDone ds ss ts) → Walked ds ss ts (extents (padded rank_limit no_axis d.axes)) (steps_at 0 (rows_of (padded rank_limit no_axis d.axes))) (steps_at 2 (rows_of (padded rank_limit no_axis d.axes))) (length d.axes)
  unfolding offset_at
  at-axes d =
      let l : List WindowReplayAxis = d.axes in
      let m : Meets ds ss ts l = d.meets in
      let few : length l ≤ rank_limit = omega (arith, m.count) in
      let e = shape-read l few in
      let z = steps-read l few 0 (λ a. a.source_step) (λ a. refl) in
      let u = steps-read l few 2 (λ a. a.dest_step) (λ a. refl) in
      let held : List WindowReplayAxis = padded rank_limit no_axis l in
      let room : length l ≤ length held = omega (arith, length-take (length l) held, ap length (read_back no_axis l few)) in
      record {
        few = few;
        room = omega (arith, length-map held (λ (a : WindowReplayAxis). a.extent), room);
        source-room = omega (arith, few, length-tabulate rank_limit (λ i. get_or (get_or (rows_of held) i []) 0 (pos 0)));
        dest-room = omega (arith, few, length-tabulate rank_limit (λ i. get_or (get_or (rows_of held) i []) 2 (pos 0)));
        small = λ i h. subst (λ (n : ℕ). n ≤ 2 ^ 63) (sym (entry-below (length l) (extents held) i 0 h ∙ ap (λ (x : List ℕ). get_or x i 0) e)) (resets-small l m.resets i h);
        total = ap product e ∙ m.total;
        source = λ base k. ap₂ (λ (x : List ℕ) (y : List ℤ). base +ℤ dot y (unravel x k)) e z ∙ ap (λ (x : ℤ). base +ℤ x) (m.source.offset k);
        dest = λ base k. ap₂ (λ (x : List ℕ) (y : List ℤ). base +ℤ dot y (unravel x k)) e u ∙ ap (λ (x : ℤ). base +ℤ x) (m.dest.offset k);
      }

  pub walked : (c : CompiledReplay) → c ≡ compiled_replay ds ss ts → c.answer ≡ Ok tt → Walked ds ss ts c.replay.extents (steps_at 0 (rows_of c.axes)) (steps_at 2 (rows_of c.axes)) c.replay.rank
  walked c e done =
      let d : IsDone ds ss ts = compiled-done ds ss ts ls lt (ap (λ (x : CompiledReplay). x.answer) (sym e) ∙ done) in
      subst (λ (x : CompiledReplay). Walked ds ss ts x.replay.extents (steps_at 0 (rows_of x.axes)) (steps_at 2 (rows_of x.axes)) x.replay.rank) (sym (e ∙ d.is)) (at-axes d)
