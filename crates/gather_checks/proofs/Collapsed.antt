-- The test of the collapsed axes, in list order. Assumes nothing.
use Rattle.std.specs.Prelude.{Ok, Err}
use mathlib.Core.Path.{◌≡◌}
use mathlib.Core.List.{List}
use Prim.Native.Nat.{ℕ, ◌+◌, ◌<◌, ◌≤◌}
use native.Mathlib.Numerals.{add-one}
use borrow.Author.Tests.{eq-eqb, ne_eqb}
use lib.ListN.{length, drop, get_or, drop_of_length-le}
use lib.Seq.{drop-cons}
use Rattle.gather_checks.specs.Refusals.{collapsed_one}
use Rattle.layout.specs.declared.Refusal.TheVariants as F

module _ (rank : ℕ) (sizes axes : List ℕ) (i : ℕ) where
  pub collapsed-no : i < length axes → (get_or sizes (get_or axes i 0) 0 ≡ 1 → ⊥) → Err (F.InvalidAxis (get_or axes i 0) rank) ≡ collapsed_one rank sizes (drop i axes)
  unfolding collapsed_one
  collapsed-no h e = rw (drop-cons axes i 0 h, ne_eqb (get_or sizes (get_or axes i 0) 0) 1 e)

  pub collapsed-next : i < length axes → get_or sizes (get_or axes i 0) 0 ≡ 1 → collapsed_one rank sizes (drop (i + 1) axes) ≡ collapsed_one rank sizes (drop i axes)
  unfolding collapsed_one
  collapsed-next h e = rw (add-one i, drop-cons axes i 0 h, eq-eqb (get_or sizes (get_or axes i 0) 0) 1 e)

  pub collapsed-end : length axes ≤ i → Ok tt ≡ collapsed_one rank sizes (drop i axes)
  unfolding collapsed_one
  collapsed-end h = rw (drop_of_length-le axes h)
