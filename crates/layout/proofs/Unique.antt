-- The search of an axis list for its first axis that is too large or repeated. Assumes nothing.
use Rattle.std.specs.Prelude.{Ok, Err}
use mathlib.Core.Path.{◌≡◌, refl}
use mathlib.Core.Bool.{Bool, true, false, ◌||◌}
use mathlib.Core.List.{List, [], ◌∷◌, ◌++◌}
use Prim.Native.Nat.{ℕ, ◌+◌, ◌-◌, ◌≤◌, ◌<◌}
use native.Mathlib.Numerals.{add-one}
use native.Mathlib.Omega.{arith}
use lib.ListN.{length, take, drop, get_or, drop_of_length-le}
use lib.Seq.{take-suc, drop-cons, take-add}
use lib.Dec.{eqb}
use borrow.Author.Tests.{eq-eqb, ne_eqb, le-leb, lt-leb}
use Rattle.indexing.specs.Coordinates.{has}
use Rattle.layout.specs.Answers.{Answer}
use Rattle.layout.specs.Lists.{unique_axes}
use Rattle.layout.specs.declared.Refusal.TheVariants as F

or-true : (b : Bool) → (b || true) ≡ true
or-true true = refl
or-true false = refl

or_assoc : (p q r : Bool) → (p || (q || r)) ≡ ((p || q) || r)
or_assoc true q r = refl
or_assoc false q r = refl

has_join : (a : ℕ) (xs ys : List ℕ) → has (xs ++ ys) a ≡ (has xs a || has ys a)
unfolding has
has_join a [] ys = refl
has_join a (x ∷ xs) ys = rw (has_join a xs ys) (or_assoc (eqb x a) (has xs a) (has ys a))

-- the entry j is another
pub has-none : (a : ℕ) (xs : List ℕ) (j : ℕ) → j < length xs → has (take j xs) a ≡ false → (get_or xs j 0 ≡ a → ⊥) → has (take (j + 1) xs) a ≡ false
has-none a xs j h m n = rw (add-one j, take-suc xs j 0 h, has_join, m) (unfold has in rw (ne_eqb (get_or xs j 0) a n))

-- the entry j is before i
pub has-found : (a : ℕ) (xs : List ℕ) (i j : ℕ) → j < i → j < length xs → get_or xs j 0 ≡ a → has (take i xs) a ≡ true
has-found a xs i j h l e =
    let f : i ≡ (j + 1) + (i - (j + 1)) = omega arith in
    rw (f, take-add (j + 1) (i - (j + 1)) xs, has_join, add-one j, take-suc xs j 0 l, has_join) (unfold has in rw (eq-eqb (get_or xs j 0) a e, or-true))

module _ (rank : ℕ) (xs : List ℕ) (i : ℕ) where
  -- the rest of the search at i
  unfoldable pub rest_at : Answer
  rest_at = unique_axes rank (take i xs) (drop i xs)

  pub at-end : length xs ≤ i → rest_at ≡ Ok tt
  unfolding rest_at unique_axes
  at-end h = rw (drop_of_length-le xs h) refl

  pub at-large : i < length xs → rank ≤ get_or xs i 0 → rest_at ≡ Err (F.InvalidAxis (get_or xs i 0) rank)
  unfolding rest_at unique_axes
  at-large h l = rw (drop-cons xs i 0 h, le-leb rank (get_or xs i 0) l) refl

  pub at_again : i < length xs → get_or xs i 0 < rank → has (take i xs) (get_or xs i 0) ≡ true → rest_at ≡ Err (F.InvalidAxis (get_or xs i 0) rank)
  unfolding rest_at unique_axes
  at_again h l m = rw (drop-cons xs i 0 h, lt-leb rank (get_or xs i 0) l, m) refl

pub at_next : (rank : ℕ) (xs : List ℕ) (i : ℕ) → i < length xs → get_or xs i 0 < rank → has (take i xs) (get_or xs i 0) ≡ false → rest_at rank xs i ≡ rest_at rank xs (i + 1)
unfolding rest_at unique_axes
at_next rank xs i h l m = rw (drop-cons xs i 0 h, lt-leb rank (get_or xs i 0) l, m, add-one i, take-suc xs i 0 h) refl

pub at-start : (rank : ℕ) (xs : List ℕ) → unique_axes rank [] xs ≡ rest_at rank xs 0
unfolding rest_at
at-start rank xs = refl
