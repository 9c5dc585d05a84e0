-- The test of the windows, axis by axis. Assumes nothing.
use Rattle.std.specs.Prelude.{Ok, Err}
use Rattle.layout.specs.Answers.{Answer}
use mathlib.Core.Path.{◌≡◌, refl}
use mathlib.Core.List.{List, [], ◌∷◌}
use mathlib.Core.Bool.{Bool, true, false}
use Prim.Native.Nat.{ℕ, ◌+◌, ◌<◌, ◌≤◌, min}
use native.Mathlib.Omega.{arith}
use lib.Dec.{ltb}
use native.Mathlib.Numerals.{add-one}
use borrow.Author.Tests.{le-leb, lt-leb, ltb-true, ltb-false}
use lib.ListN.{length, drop, get_or, drop_of_length-le}
use lib.Seq.{drop-cons}
use Rattle.spans.proofs.Turns.{drop_at}
use Rattle.checks.specs.Checks.{windows_from}
use Rattle.layout.specs.declared.Refusal.TheVariants as F

-- what is left to test from axis i on
abbrev pub left : ℕ → List ℕ → List ℕ → ℕ → Answer
left rank ws ds i = windows_from rank i (drop i ds) (drop i ws)

module _ (rank : ℕ) (ws ds : List ℕ) (i : ℕ) where
  pub windows-no : i < length ws → i < length ds → get_or ds i 0 < get_or ws i 0 → Err (F.InvalidAxis i rank) ≡ left rank ws ds i
  unfolding windows_from
  windows-no h k l = rw (drop_at ds i 0 k, drop-cons ws i 0 h, lt-leb (get_or ws i 0) (get_or ds i 0) l)

  pub windows-next : i < length ws → i < length ds → get_or ws i 0 ≤ get_or ds i 0 → left rank ws ds (i + 1) ≡ left rank ws ds i
  unfolding windows_from
  windows-next h k l = rw (drop_at ds i 0 k, drop-cons ws i 0 h, le-leb (get_or ws i 0) (get_or ds i 0) l, add-one i)

  pub windows-end : length ds ≤ i → Ok tt ≡ left rank ws ds i
  unfolding windows_from
  windows-end h = rw (drop_of_length-le ds h)

  pub windows-short : length ws ≤ i → Ok tt ≡ left rank ws ds i
  windows-short h = rw (drop_of_length-le ws h) (none (drop i ds))
    where
      none : (xs : List ℕ) → Ok tt ≡ windows_from rank i xs []
      none [] = unfold windows_from in refl
      none (x ∷ xs) = unfold windows_from in refl

  pub windows-done : min (length ws) (length ds) ≤ i → Ok tt ≡ left rank ws ds i
  windows-done h = go (ltb i (length ds)) refl
    where
      go : (t : Bool) → ltb i (length ds) ≡ t → Ok tt ≡ left rank ws ds i
      go true e = windows-short (omega (arith, ltb-true i (length ds) e))
      go false e = windows-end (ltb-false i (length ds) e)
