-- Whether two lent lists are the same, entry by entry; and an array of one number in two parts. Assumes nothing.
use mathlib.Core.Path.{◌≡◌, refl, sym, ap, ◌∙◌}
use mathlib.Core.Bool.{Bool, true, false, ◌&&◌}
use mathlib.Core.List.{List, [], ◌∷◌, ◌++◌}
use Prim.Native.Nat.{ℕ, suc, ◌+◌, ◌-◌, ◌<◌, ◌≤◌}
use native.Mathlib.Numerals.{add-one}
use native.Mathlib.Omega.{arith}
use borrow.Author.Tests.{eq-eqb, ne_eqb}
use lib.Dec.{eqb}
use lib.ListN.{length, drop, get_or, replicate, drop_of_length-le, replicate-append-replicate}
use lib.Seq.{drop-cons}
use Rattle.layout.specs.Layouts.{rank_limit}
use Rattle.spans.proofs.Apart.{and-false}
use Rattle.axis_lists.specs.Held.{same_list}

-- ---- whether two lists are the same
pub same-lengths : (xs ys : List ℕ) → (length xs ≡ length ys → ⊥) → false ≡ same_list xs ys
unfolding same_list
same-lengths [] [] h = absurd (h refl)
same-lengths [] (y ∷ ys) h = refl
same-lengths (x ∷ xs) [] h = refl
same-lengths (x ∷ xs) (y ∷ ys) h =
    let k : length xs ≡ length ys → ⊥ = λ e. h (ap suc e) in
    sym (ap (λ (t : Bool). eqb x y && t) (sym (same-lengths xs ys k)) ∙ and-false (eqb x y))

module _ (xs ys : List ℕ) (i : ℕ) where
  same_turn : i < length xs → i < length ys → same_list (drop i xs) (drop i ys) ≡ (eqb (get_or xs i 0) (get_or ys i 0) && same_list (drop (i + 1) xs) (drop (i + 1) ys))
  unfolding same_list
  same_turn h k = rw (add-one i, drop-cons xs i 0 h, drop-cons ys i 0 k)

  pub same-differ : i < length xs → i < length ys → (get_or xs i 0 ≡ get_or ys i 0 → ⊥) → false ≡ same_list (drop i xs) (drop i ys)
  same-differ h k e = rw (same_turn h k, ne_eqb (get_or xs i 0) (get_or ys i 0) e)

  pub same_next : i < length xs → i < length ys → get_or xs i 0 ≡ get_or ys i 0 → same_list (drop (i + 1) xs) (drop (i + 1) ys) ≡ same_list (drop i xs) (drop i ys)
  same_next h k e = rw (same_turn h k, eq-eqb (get_or xs i 0) (get_or ys i 0) e)

  pub same_end : length xs ≤ i → length ys ≤ i → true ≡ same_list (drop i xs) (drop i ys)
  unfolding same_list
  same_end h k = rw (drop_of_length-le xs h, drop_of_length-le ys k)

-- ---- n entries and those past them
pub all_same : {A : Type 0} (a : A) (n : ℕ) → n ≤ rank_limit → replicate rank_limit a ≡ replicate n a ++ replicate (rank_limit - n) a
all_same a n h = let e : rank_limit ≡ n + (rank_limit - n) = omega arith in ap (λ (k : ℕ). replicate k a) e ∙ sym (replicate-append-replicate n (rank_limit - n) a)
