-- The first of several answers that refuses, one after another. Assumes nothing.
use Rattle.std.specs.Prelude.{Ok, Err}
use Rattle.std.specs.Result.{result_and}
use mathlib.Core.Path.{◌≡◌, refl}
use Prim.Native.Nat.{ℕ, suc, ◌+◌, ◌-◌, ◌<◌, ◌≤◌}
use native.Mathlib.Numerals.{add-one}
use native.Mathlib.Omega.{arith}
use Rattle.layout.specs.Answers.{or_else, Answer}
use Rattle.layout.specs.declared.Refusal.{Refusal}
use Rattle.checks.specs.Checks.{first_of}

module _ (f : ℕ → Answer) (n i : ℕ) where
  first-turn : i < n → first_of f (n - i) i ≡ or_else (f i) (first_of f (n - (i + 1)) (i + 1))
  first-turn h =
      let e : n - i ≡ suc (n - (i + 1)) = omega arith in
      rw (e, add-one i) (unfold first_of in refl)

  -- r is what was answered at i, passed on by `?`
  pub first_over : (r : Answer) (e : Refusal) → i < n → r ≡ f i → r ≡ Err e → Err e ≡ first_of f (n - i) i
  first_over r e h a b = rw (first-turn h, ← a, b)

  pub first_past : (r : Answer) → i < n → r ≡ f i → r ≡ Ok tt → first_of f (n - (i + 1)) (i + 1) ≡ first_of f (n - i) i
  first_past r h a b = rw (first-turn h, ← a, b)

  pub first_ends : n ≤ i → Ok tt ≡ first_of f (n - i) i
  first_ends h = let e : n - i ≡ 0 = omega arith in rw e (unfold first_of in refl)

-- five answers joined by `and`
five : (a b c d e : Answer) → result_and (result_and (result_and (result_and a b) c) d) e ≡ or_else a (or_else b (or_else c (or_else d e)))
five (Err _) b c d e = refl
five (Ok _) (Err _) c d e = refl
five (Ok _) (Ok _) (Err _) d e = refl
five (Ok _) (Ok _) (Ok _) (Err _) e = refl
five (Ok _) (Ok _) (Ok _) (Ok _) e = refl

pub five-in-turn : {b c d e w x y z p q r s : Answer} (a : Answer) → b ≡ w → c ≡ x → d ≡ y → e ≡ z
    → p ≡ result_and a b → q ≡ result_and p c → r ≡ result_and q d → s ≡ result_and r e → s ≡ or_else a (or_else w (or_else x (or_else y z)))
five-in-turn {w = w} {x = x} {y = y} {z = z} a f g h i j k l m = rw (m, l, k, j, f, g, h, i) (five a w x y z)
