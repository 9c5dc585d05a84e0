-- A turn of the loops over lent extents and strides, by what the call in it returned. Assumes nothing.
use Rattle.std.specs.Prelude.{Option, Some, None, option_and_then}
use mathlib.Core.Path.{◌≡◌, refl, sym, ap, ◌∙◌}
use mathlib.Core.Bool.{Bool, ◌||◌}
use mathlib.Core.List.{List, [], ◌∷◌}
use Prim.Native.Nat.{ℕ, ◌+◌, ◌*◌, ◌<◌, ◌≤◌}
use native.Mathlib.Numerals.{add-one}
use native.Mathlib.Omega.{arith}
use lib.Dec.{eqb}
use lib.ListN.{length, drop, get_or, drop_of_length-le}
use lib.Seq.{drop-cons}
use Rattle.std.specs.List.{list_any}
use lib.IntN.{ℤ, pos}
use Rattle.integer.specs.Defs.{checked_u}
use Rattle.integer.specs.Machine.{checked_u-no, checked_u-fits, checked_u-over}
use Rattle.layout.specs.Spans.{total_from, widened, span_from}
use Rattle.layout.specs.Nested.{has_zero}
use Rattle.layout.specs.Sums.{sum_axes}
use Rattle.layout.specs.declared.Span.{Span}

-- axis i is the first of those that are left
pub drop_at : {A : Type 0} (xs : List A) (i : ℕ) (d : A) → i < length xs → drop i xs ≡ get_or xs i d ∷ drop (i + 1) xs
drop_at xs i d h = rw (add-one) (drop-cons xs i d h)

-- ---- the product
module _ (acc : ℕ) (xs : List ℕ) (i : ℕ) where
  total-turn : i < length xs → total_from acc (drop i xs) ≡ option_and_then (λ m. total_from m (drop (i + 1) xs)) (checked_u (acc * get_or xs i 0))
  unfolding total_from
  total-turn h = rw (drop_at xs i 0 h)

  pub total-over : i < length xs → (p : Option ℕ) → p ≡ checked_u (acc * get_or xs i 0) → p ≡ None → None ≡ total_from acc (drop i xs)
  total-over h p e o = rw (total-turn h, ← e, o)

  pub total-next : i < length xs → (p : Option ℕ) → p ≡ checked_u (acc * get_or xs i 0) → (m : ℕ) → p ≡ Some m → total_from m (drop (i + 1) xs) ≡ total_from acc (drop i xs)
  total-next h p e m o = rw (total-turn h, ← e, o)

  pub total-done : length xs ≤ i → Some acc ≡ total_from acc (drop i xs)
  unfolding total_from
  total-done h = rw (drop_of_length-le xs h)

-- ---- an extent of 0
pub any-zero : (xs : List ℕ) → list_any (λ y. eqb y 0) xs ≡ has_zero xs
unfolding has_zero
any-zero [] = refl
any-zero (x ∷ xs) = ap (λ (b : Bool). eqb x 0 || b) (any-zero xs)

-- ---- the span
module _ (p : Span) (xs : List ℕ) (ss : List ℤ) (i : ℕ) where
  span-turn : i < length xs → i < length ss → span_from p (drop i xs) (drop i ss) ≡ option_and_then (λ q. span_from q (drop (i + 1) xs) (drop (i + 1) ss)) (widened p (get_or xs i 0) (get_or ss i (pos 0)))
  unfolding span_from
  span-turn h k = rw (drop_at xs i 0 h, drop_at ss i (pos 0) k)

  pub span-over : i < length xs → i < length ss → (r : Option Span) → r ≡ widened p (get_or xs i 0) (get_or ss i (pos 0)) → r ≡ None → None ≡ span_from p (drop i xs) (drop i ss)
  span-over h k r e o = rw (span-turn h k, ← e, o)

  pub span-next : i < length xs → i < length ss → (r : Option Span) → r ≡ widened p (get_or xs i 0) (get_or ss i (pos 0)) → (q : Span) → r ≡ Some q → span_from q (drop (i + 1) xs) (drop (i + 1) ss) ≡ span_from p (drop i xs) (drop i ss)
  span-next h k r e q o = rw (span-turn h k, ← e, o)

  pub span-done : length xs ≤ i → Some p ≡ span_from p (drop i xs) (drop i ss)
  unfolding span_from
  span-done h = rw (drop_of_length-le xs h)

-- ---- a sum over the axes
-- a sum is checked once, whether or not its parts were
pub sum-checked : (sum w : ℕ) → option_and_then (λ e. checked_u (sum + e)) (checked_u w) ≡ checked_u (sum + w)
sum-checked sum w = go (checked_u w) refl
  where
    go : (x : Option ℕ) → checked_u w ≡ x → option_and_then (λ e. checked_u (sum + e)) (checked_u w) ≡ checked_u (sum + w)
    go (Some e) h = rw h (ap (λ (m : ℕ). checked_u (sum + m)) (sym (checked_u-fits w e h)))
    go None h = rw h (checked_u-no (sum + w) (omega (arith, checked_u-over w h)))

module _ (f : ℕ → ℕ → ℤ → ℕ) (sum : ℕ) (xs : List ℕ) (ss : List ℤ) (i : ℕ) where
  -- what is left of the sum from axis i on
  abbrev pub left : ℕ
  left = sum + sum_axes f i (drop i xs) (drop i ss)

  sum-turn : i < length xs → i < length ss → left ≡ sum + (f i (get_or xs i 0) (get_or ss i (pos 0)) + sum_axes f (i + 1) (drop (i + 1) xs) (drop (i + 1) ss))
  unfolding sum_axes
  sum-turn h k = rw (drop_at xs i 0 h, drop_at ss i (pos 0) k, add-one i)

  module _ (h : i < length xs) (k : i < length ss) (r : Option ℕ) (a : r ≡ checked_u (f i (get_or xs i 0) (get_or ss i (pos 0)))) where
    -- the weight of axis i does not fit
    pub weight-over : r ≡ None → None ≡ checked_u left
    weight-over o = checked_u-no left (omega (arith, sum-turn h k, checked_u-over _ (sym a ∙ o)))

    -- it does, and its sum with those before does not, or does
    module _ (e : ℕ) (b : r ≡ Some e) (q : Option ℕ) (d : q ≡ checked_u (sum + e)) where
      pub sum_over : q ≡ None → None ≡ checked_u left
      sum_over o = checked_u-no left (omega (arith, sum-turn h k, checked_u-fits _ e (sym a ∙ b), checked_u-over _ (sym d ∙ o)))

      pub sum-next : (t : ℕ) → q ≡ Some t → t + sum_axes f (i + 1) (drop (i + 1) xs) (drop (i + 1) ss) ≡ left
      sum-next t o = omega (arith, sum-turn h k, checked_u-fits _ e (sym a ∙ b), checked_u-fits _ t (sym d ∙ o))

  pub sum_done : length xs ≤ i → sum ≡ left
  unfolding sum_axes
  sum_done h = rw (drop_of_length-le xs h) (omega arith)
