-- Axes that move no start. Assumes nothing.
use mathlib.Core.Path.{◌≡◌, refl, sym, ap, subst, ◌∙◌}
use mathlib.Core.Bool.{Bool, true, false}
use mathlib.Core.List.{List}
use Prim.Native.Nat.{ℕ, zero, suc, ◌+◌}
use native.Mathlib.Nat.{zero-mul}
use native.Mathlib.Omega.{arith}
use borrow.Author.Tests.{eqb-true, eqb-false}
use lib.Dec.{eqb}
use lib.ListN.{get_or}
use lib.IntN.{ℤ, pos, ◌*ℤ◌, *ℤ-zero}
use mir.Syntax.{w64}
use mir.Val.{SFits}
use Rattle.integer.specs.Z.{back}
use Rattle.runs.proofs.Place.{read}
use Rattle.gather_windows.specs.Gathering.{StillAxis, Still}

pub unit-still : (extent : ℕ) (step : ℤ) → extent ≡ 1 → StillAxis extent step
unit-still extent step e zero h = *ℤ-zero step
unit-still extent step e (suc c) h = absurd (omega arith)

pub zero-still : (extent : ℕ) (step : ℤ) → step ≡ pos 0 → StillAxis extent step
zero-still extent step e c h = ap (λ (x : ℤ). x *ℤ pos c) e ∙ ap pos (zero-mul c)

pub still-none : (shape : List ℕ) (ts : List ℤ) → Still 0 shape ts
still-none shape ts i h = absurd (omega arith)

pub still-more : (shape : List ℕ) (ts : List ℤ) (n : ℕ) → Still n shape ts → StillAxis (get_or shape n 0) (get_or ts n (pos 0)) → Still (n + 1) shape ts
still-more shape ts n f g i h = go (eqb i n) refl
  where
    go : (t : Bool) → eqb i n ≡ t → StillAxis (get_or shape i 0) (get_or ts i (pos 0))
    go true e = subst (λ (k : ℕ). StillAxis (get_or shape k 0) (get_or ts k (pos 0))) (sym (eqb-true i n e)) g
    go false e = f i (omega (arith, eqb-false i n e))

pub still_back : (extent : ℕ) (step : ℤ) → SFits w64 step → StillAxis extent (read step) → StillAxis extent step
still_back extent step f h = subst (StillAxis extent) (back f) h
