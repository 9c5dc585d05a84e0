-- The number that is 0 where there are no cells. Assumes nothing.
use mathlib.Core.Path.{◌≡◌, refl, sym, ap}
use mathlib.Core.Bool.{Bool, true, false, cond}
use Prim.Native.Nat.{ℕ, ◌<◌}
use native.Mathlib.Omega.{arith}
use borrow.Author.Tests.{eqb-true}
use lib.Dec.{eqb}
use Rattle.indexing.specs.Slid.{slid_of}

pub slid-none : (cells count : ℕ) → cells ≡ 0 → 0 ≡ slid_of cells count
slid-none cells count e = sym (ap (λ (n : ℕ). slid_of n count) e)

pub slid-zero : (cells count : ℕ) → 0 ≡ count → 0 ≡ slid_of cells count
slid-zero cells count e = go (eqb cells 0)
  where
    go : (t : Bool) → 0 ≡ cond t 0 count
    go true = refl
    go false = e

pub slid-some : (cells count : ℕ) → 0 < cells → count ≡ slid_of cells count
slid-some cells count h = go (eqb cells 0) refl
  where
    go : (t : Bool) → eqb cells 0 ≡ t → count ≡ cond t 0 count
    go true q = absurd (omega (arith, eqb-true cells 0 q))
    go false q = refl
