-- The numbers of an accepted gather, as they are read. Assumes nothing.
use Rattle.std.specs.Prelude.{Ok}
use mathlib.Core.Path.{◌≡◌, sym, ap, ◌∙◌}
use mathlib.Core.Bool.{true}
use mathlib.Core.List.{List}
use Prim.Native.Nat.{ℕ, ◌<◌, ◌≤◌}
use native.Mathlib.Omega.{arith}
use lib.ListN.{length, get_or, take}
use lib.IntN.{ℤ, pos, ◌*ℤ◌}
use Rattle.indexing.specs.Coordinates.{rank, tabulate, pick}
use Rattle.indexing.specs.Gather.{Gather}
use Rattle.indexing.specs.Axes.{length-pick, get_or-pick}
use Rattle.indexing.specs.Steps.{vector_stride, window_steps, batch_steps}
use Rattle.indexing.proofs.Updates.{length-tabulate, get_d_tabulate}
use Rattle.layout.specs.Answers.{is_done}
use Rattle.layout.specs.Layouts.{rank_limit, padded}
use Rattle.axis_lists.proofs.Filling.{read_back}
use Rattle.checks.proofs.Held.{length-padded}
use Rattle.components.specs.Components.{limit_at}
use Rattle.components.proofs.Padded.{padded-entry}
use Rattle.gather_checks.specs.Refusals.{refusal_of}
use Rattle.gather_plan.proofs.Accepted.{Accepted, accepted, length-window, length-batch}

module _ (g : Gather) (done : is_done (refusal_of (Ok tt) g) ≡ true) where
  given : Accepted g
  given = accepted g (Ok tt) done

  abbrev n : ℕ
  n = rank g.result

  abbrev map : List ℕ
  map = g.spec.start-index-map

  pub rank-few : n ≤ rank_limit
  rank-few = given.dest-rank

  pub map-few : length map ≤ rank_limit
  map-few = given.map-few

  pub array-room : {A : Type 0} (d : A) (l : List A) → n ≤ length (padded rank_limit d l)
  array-room d l = omega (arith, rank-few, length-padded rank_limit d l)

  steps-read : (l : List ℤ) → length l ≡ n → take n (padded rank_limit (pos 0) l) ≡ l
  steps-read l e = ap (λ (k : ℕ). take k (padded rank_limit (pos 0) l)) (sym e) ∙ read_back (pos 0) l (omega (arith, rank-few))

  pub extents-are : take n (padded rank_limit 1 g.result.extents) ≡ g.result.extents
  extents-are = read_back 1 g.result.extents rank-few

  pub dest-steps : take n (padded rank_limit (pos 0) g.result.strides) ≡ g.result.strides
  dest-steps = steps-read g.result.strides given.dest-strides

  pub window-steps : take n (padded rank_limit (pos 0) (window_steps g)) ≡ window_steps g
  window-steps = steps-read (window_steps g) (length-window g)

  pub batch-steps : take n (padded rank_limit (pos 0) (batch_steps g)) ≡ batch_steps g
  batch-steps = steps-read (batch_steps g) (length-batch g)

  module _ (c : ℕ) (h : c < length map) where
    abbrev stride : ℤ
    stride = vector_stride g.indices g.spec.index-vector-dim

    pub offset-at : get_or (padded rank_limit (pos 0) (tabulate (length map) (λ j. stride *ℤ pos j))) c (pos 0) ≡ stride *ℤ pos c
    offset-at =
        let f : ℕ → ℤ = λ j. stride *ℤ pos j in
        let k : length (tabulate (length map) f) ≡ length map = length-tabulate (length map) f in
        padded-entry (pos 0) (tabulate (length map) f) c (omega (arith, k)) (omega (arith, k, map-few)) ∙ get_d_tabulate (length map) f c (pos 0) h

    pub stride-at : get_or (padded rank_limit (pos 0) (pick (pos 0) map g.operand.strides)) c (pos 0) ≡ get_or g.operand.strides (get_or map c 0) (pos 0)
    stride-at =
        let k : length (pick (pos 0) map g.operand.strides) ≡ length map = length-pick (pos 0) map g.operand.strides in
        padded-entry (pos 0) (pick (pos 0) map g.operand.strides) c (omega (arith, k)) (omega (arith, k, map-few)) ∙ get_or-pick (pos 0) map g.operand.strides c h

    pub limit-at : get_or (tabulate rank_limit (limit_at g.operand.extents g.spec.slice-sizes map)) c 0 ≡ limit_at g.operand.extents g.spec.slice-sizes map c
    limit-at = get_d_tabulate rank_limit (limit_at g.operand.extents g.spec.slice-sizes map) c 0 (omega (arith, map-few))
