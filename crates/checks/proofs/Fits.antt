-- What is known of answers that are done. Assumes nothing.
use Rattle.std.specs.Prelude.{Option, Some, None, Ok, Err}
use mathlib.Core.Path.{◌≡◌, refl, ap, ◌∙◌}
use mathlib.Core.Bool.{Bool, true, false, cond}
use Prim.Native.Nat.{ℕ, zero, suc, ◌+◌, ◌<◌, ◌≤◌}
use native.Mathlib.Omega.{arith}
use borrow.Author.Tests.{eqb-true, eq-eqb, le-leb, leb-true}
use lib.Dec.{eqb, leb}
use lib.IntN.{ℤ, pos, ◌*ℤ◌, +ℤ_idl}
use Rattle.layout.specs.Answers.{is_done, Answer}
use Rattle.layout.specs.Layouts.{rank_limit, stride_length, rank_at_most}
use Rattle.layout.specs.Spans.{offset_add}
use Rattle.layout.specs.Laws.{offset-add-is}
use Rattle.checks.specs.Checks.{first_of, total_fits, number_fits, offset_fits, same_count, vector_axis}
use Rattle.checks.specs.Values.{value_of, value_of_u, offset_or}
use Rattle.checks.proofs.Made.{or-done}
use Rattle.layout.specs.declared.Refusal.TheVariants as F

-- ---- a number that was accepted is the number
pub fits-value : (x : Option ℤ) (z : ℤ) → is_done (number_fits x) ≡ true → ((r : ℤ) → x ≡ Some r → r ≡ z) → value_of x ≡ z
fits-value (Some r) z e f = f r refl
fits-value None z e f = let y : ◌≡◌ {A = ℕ} 0 1 = cc in absurd (omega arith)

pub total-value : (x : Option ℕ) (n : ℕ) → is_done (total_fits x) ≡ true → ((r : ℕ) → x ≡ Some r → r ≡ n) → value_of_u x ≡ n
total-value (Some r) n e f = f r refl
total-value None n e f = let y : ◌≡◌ {A = ℕ} 0 1 = cc in absurd (omega arith)

pub offset-value : (s : ℤ) (c : ℕ) → is_done (offset_fits s c) ≡ true → offset_or s c ≡ s *ℤ pos c
offset-value s c e = fits-value (offset_add (pos 0) s c) (s *ℤ pos c) e (λ r f. offset-add-is (pos 0) s c r f ∙ +ℤ_idl (s *ℤ pos c))

-- ---- each of several answers is done
first_done : (f : ℕ → Answer) (n i : ℕ) → is_done (first_of f n i) ≡ true → (k : ℕ) → k < n → is_done (f (i + k)) ≡ true
unfolding first_of
first_done f zero i e k h = absurd (omega arith)
first_done f (suc n) i e zero h = let z : i + 0 ≡ i = omega arith in ap (λ (m : ℕ). is_done (f m)) z ∙ (or-done (f i) (first_of f n (suc i)) e).0
first_done f (suc n) i e (suc k) h = let z : i + suc k ≡ suc i + k = omega arith in ap (λ (m : ℕ). is_done (f m)) z ∙ first_done f n (suc i) (or-done (f i) (first_of f n (suc i)) e).1 k (omega arith)

pub first-each : (f : ℕ → Answer) (n : ℕ) → is_done (first_of f n 0) ≡ true → (k : ℕ) → k < n → is_done (f k) ≡ true
first-each f n e k h = let z : k ≡ 0 + k = omega arith in ap (λ (m : ℕ). is_done (f m)) z ∙ first_done f n 0 e k h

pub same-count : (a b : ℕ) → is_done (same_count a b) ≡ true → a ≡ b
same-count a b e = go (eqb a b) refl e
  where
    go : (t : Bool) → eqb a b ≡ t → is_done (cond t (Ok tt) (Err (F.RankMismatch a b))) ≡ true → a ≡ b
    go true f h = eqb-true a b f
    go false f h = let z : ◌≡◌ {A = ℕ} 0 1 = cc in absurd (omega arith)

pub strides-yes : (n m : ℕ) → m ≡ n → is_done (stride_length n m) ≡ true
strides-yes n m e = rw (eq-eqb m n e)

pub rank-yes : (n : ℕ) → n ≤ rank_limit → is_done (rank_at_most n) ≡ true
rank-yes n h = rw (le-leb n rank_limit h)

pub vector-fits : (v n : ℕ) → is_done (vector_axis v n) ≡ true → v ≤ n
vector-fits v n e = go (leb v n) refl e
  where
    go : (t : Bool) → leb v n ≡ t → is_done (cond t (Ok tt) (Err (F.InvalidAxis v (n + 1)))) ≡ true → v ≤ n
    go true f h = leb-true v n f
    go false f h = let z : ◌≡◌ {A = ℕ} 0 1 = cc in absurd (omega arith)
