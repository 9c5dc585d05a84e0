-- What the answer of a call decides. Assumes nothing.
use mathlib.Core.Path.{◌≡◌, refl, sym, ap, ◌∙◌}
use mathlib.Core.Bool.{Bool, true, false, cond, true≢false}
use mathlib.Core.List.{List}
use Prim.Native.Nat.{ℕ}
use native.Mathlib.Omega.{arith}
use lib.IntN.{ℤ, pos, ◌+ℤ◌}
use lib.Signed.{le_z, lt_z}
use mathlib.Core.Bool.{◌&&◌}
use Rattle.integer.specs.Z.{up}
use Rattle.indexing.specs.Reach.{lowest, highest}
use Rattle.layout.specs.declared.CallAnswer.{CallAnswer}
use Rattle.layout.specs.declared.Reach.{Reach}
use Rattle.layout.specs.declared.Reach.TheVariants as R
use Rattle.layout.specs.Answers.{is_done, Answer}
use Rattle.layout.specs.Nested.{has_zero}
use Rattle.layout.specs.Reach.{view_reach, buffer_bounds}
use Rattle.calls.specs.Calls.{plan_refusal, answer_with, Does, as_is}

pub plan-done : (t : Bool) → is_done (plan_refusal t) ≡ true → t ≡ true
plan-done true e = refl
plan-done false e = absurd (true≢false (sym e))

-- a refusal, and a call that is done
pub refused : {A : Type 0} {x : Answer} {n : ℕ} {leaves before : List A} → is_done x ≡ false → {r : CallAnswer} → r ≡ record { answer = x; reported = 0 } → Does as_is x n leaves before before r
refused {x = x} {n = n} {leaves = leaves} {before = before} e h =
    record {
      answered = h ∙ ap (λ (t : Bool). record { answer = x; reported = cond t n 0 }) (sym e);
      left = sym (ap (λ (t : Bool). cond t leaves before) e);
    }

pub done : {A : Type 0} {x : Answer} {n m : ℕ} {leaves before after : List A} → is_done x ≡ true → after ≡ leaves → m ≡ n → Does as_is x n leaves before after (record { answer = x; reported = m })
done {x = x} {n = n} {leaves = leaves} {before = before} e h k =
    record {
      answered = ap (λ (j : ℕ). record { answer = x; reported = j }) (k ∙ ap (λ (t : Bool). cond t n 0) (sym e));
      left = h ∙ sym (ap (λ (t : Bool). cond t leaves before) e);
    }

-- by another name of the answer
pub by_answer : {A B : Type 0} {says : CallAnswer → B} {x y : Answer} {n : ℕ} {leaves before after : List A} {handed : B} → x ≡ y → Does says x n leaves before after handed → Does says y n leaves before after handed
by_answer {says = says} {n = n} {leaves = leaves} {before = before} e d = record { answered = d.answered ∙ ap (λ (z : Answer). says (answer_with z n)) e; left = d.left ∙ ap (λ (z : Answer). cond (is_done z) leaves before) e }

-- and said in other words
pub said : {A B : Type 0} (says : CallAnswer → B) {x : Answer} {r : CallAnswer} {n : ℕ} {leaves before after : List A} {handed : B} → handed ≡ says r → Does as_is x n leaves before after r → Does says x n leaves before after handed
said says e d = record { answered = e ∙ ap says d.answered; left = d.left }

-- a view that passes the test of 9 is not outside its slice
pub not-outside : (m : ℕ) (r : Reach) → is_done (buffer_bounds m r) ≡ true → r ≡ R.Outside → ⊥
not-outside m r e f = true≢false (sym e ∙ ap (λ (x : Reach). is_done (buffer_bounds m x)) f)

-- a view without cells
pub zero_of : (ds : List ℕ) (ss : List ℤ) (offset : ℤ) (n : ℕ) → view_reach ds ss offset n ≡ R.NoCells → has_zero ds ≡ true
unfolding view_reach
zero_of ds ss offset n e = go (has_zero ds) e
  where
    cells-not : (u : Bool) (a b : ℕ) → cond u (R.Cells a b) R.Outside ≡ R.NoCells → ⊥
    cells-not true a b q = let x : ◌≡◌ {A = ℕ} 0 1 = cc in omega arith
    cells-not false a b q = let x : ◌≡◌ {A = ℕ} 0 1 = cc in omega arith

    go : (t : Bool)
        → cond t (cond (le_z (pos 0) offset && le_z offset (pos n)) R.NoCells R.Outside)
        (cond (le_z (pos 0) (offset +ℤ lowest ss ds) && lt_z (offset +ℤ highest ss ds) (pos n)) (R.Cells (up (offset +ℤ lowest ss ds)) (up (offset +ℤ highest ss ds))) R.Outside)
        ≡ R.NoCells → t ≡ true
    go true q = refl
    go false q = absurd (cells-not (le_z (pos 0) (offset +ℤ lowest ss ds) && lt_z (offset +ℤ highest ss ds) (pos n)) (up (offset +ℤ lowest ss ds)) (up (offset +ℤ highest ss ds)) q)
