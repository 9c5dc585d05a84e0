-- A turn of a loop over the first n entries of an array, of which those below `min n (length ..)` count; and of the loop that adds up an offset. Assumes nothing.
use Rattle.std.specs.Prelude.{Option, Some, None, option_and_then}
use mathlib.Core.Path.{◌≡◌, ap, ◌∙◌}
use mathlib.Core.List.{List, [], ◌∷◌}
use Prim.Native.Nat.{ℕ, suc, ◌+◌, ◌<◌, ◌≤◌, min}
use native.Mathlib.Numerals.{add-one}
use native.Mathlib.Omega.{arith}
use lib.ListN.{length, take, drop, get_or, length-take, drop_of_length-le}
use lib.Seq.{drop-cons, get_or-take}
use lib.IntN.{ℤ, pos}
use Rattle.layout.specs.Spans.{offset_add, strided_offset}

-- axis i is the first of those that are left
pub drop-take : {A : Type 0} (n : ℕ) (xs : List A) (i : ℕ) (d : A) → i < min n (length xs) → drop i (take n xs) ≡ get_or xs i d ∷ drop (i + 1) (take n xs)
drop-take n xs i d h =
    rw (add-one) (drop-cons (take n xs) i d (omega (arith, length-take n xs)) ∙ ap (λ (x : _). x ∷ drop (suc i) (take n xs)) (get_or-take n xs i d (omega arith)))

pub drop-done : {A : Type 0} (n : ℕ) (xs : List A) (i : ℕ) → min n (length xs) ≤ i → drop i (take n xs) ≡ []
drop-done n xs i h = let k : length (take n xs) ≤ i = omega (arith, length-take n xs) in drop_of_length-le (take n xs) k

-- ---- a strided offset
module _ (base : ℤ) (ss : List ℤ) (cs : List ℕ) (n i : ℕ) where
  offset-turn : i < min n (length ss) → i < min n (length cs) → strided_offset base (drop i (take n ss)) (drop i (take n cs)) ≡ option_and_then (λ o. strided_offset o (drop (i + 1) (take n ss)) (drop (i + 1) (take n cs))) (offset_add base (get_or ss i (pos 0)) (get_or cs i 0))
  unfolding strided_offset
  offset-turn h k = rw (drop-take n ss i (pos 0) h, drop-take n cs i 0 k)

  pub offset-over : i < min n (length ss) → i < min n (length cs) → (p : Option ℤ) → p ≡ offset_add base (get_or ss i (pos 0)) (get_or cs i 0) → p ≡ None → None ≡ strided_offset base (drop i (take n ss)) (drop i (take n cs))
  offset-over h k p e o = rw (offset-turn h k, ← e, o)

  pub offset-next : i < min n (length ss) → i < min n (length cs) → (p : Option ℤ) → p ≡ offset_add base (get_or ss i (pos 0)) (get_or cs i 0) → (z : ℤ) → p ≡ Some z → strided_offset z (drop (i + 1) (take n ss)) (drop (i + 1) (take n cs)) ≡ strided_offset base (drop i (take n ss)) (drop i (take n cs))
  offset-next h k p e z o = rw (offset-turn h k, ← e, o)

  pub offset-done : min n (length ss) ≤ i → Some base ≡ strided_offset base (drop i (take n ss)) (drop i (take n cs))
  unfolding strided_offset
  offset-done h = rw (drop-done n ss i h)
