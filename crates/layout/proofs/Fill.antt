-- Lists stored in an array of a fixed length, entry by entry, and read again. Assumes nothing.
use mathlib.Core.Path.{◌≡◌, refl, ap₂, ◌∙◌}
use mathlib.Core.Bool.{Bool, true, false}
use mathlib.Core.List.{List, ◌++◌, append-nil}
use Prim.Native.Nat.{ℕ, suc, ◌+◌, ◌-◌, ◌≤◌, ◌<◌, min}
use native.Mathlib.Numerals.{add-one}
use native.Mathlib.Omega.{arith}
use borrow.Author.Tests.{ltb-true, ltb-false}
use lib.Dec.{ltb}
use lib.ListN.{length, take, drop, get_or, set, replicate}
use Rattle.std.proofs.lemmas.List.{drop-replicate}
use lib.Seq.{set_at, take-suc, length-take-le, take_all, append_snoc, take_at}
use Rattle.layout.specs.Layouts.{padded}

-- an array of n entries once the first i of a list are stored in it, with d in the others
abbrev pub filled : {A : Type 0} → ℕ → A → List A → ℕ → List A
filled n d xs i = take i xs ++ replicate (n - i) d

-- one more stored
pub fill_one : {A : Type 0} (n : ℕ) (d z : A) (xs out : List A) (i : ℕ) (x : A) → i < n → i < length xs → out ≡ filled n d xs i → x ≡ get_or xs i z → set out i x ≡ filled n d xs (i + 1)
fill_one {A} n d z xs out i x h l e f = ap₂ (λ (o : List A) (y : A). set o i y) e f ∙ stored
  where
    stored : set (filled n d xs i) i (get_or xs i z) ≡ filled n d xs (i + 1)
    stored =
        let k : n - i ≡ suc (n - (i + 1)) = omega arith in
        rw (k, add-one i, take-suc xs i z l, append_snoc)
        (rw (← add-one i) (set_at (take i xs) d (replicate (n - (i + 1)) d) (get_or xs i z) i (length-take-le i xs (omega arith))))

-- all of the list stored, or all that the array has room for
pub fill_done : {A : Type 0} (n : ℕ) (d : A) (xs out : List A) (i : ℕ) → i ≡ min n (length xs) → out ≡ filled n d xs i → out ≡ padded n d xs
unfolding padded
fill_done n d xs out i h e = e ∙ go (ltb n (length xs)) refl
  where
    go : (t : Bool) → ltb n (length xs) ≡ t → filled n d xs i ≡ take n xs ++ replicate (n - length xs) d
    go true q =
        let l : n < length xs = ltb-true n (length xs) q in
        let f : i ≡ n = omega arith in
        let g : n - n ≡ n - length xs = omega arith in
        rw (f, g)
    go false q =
        let l : length xs ≤ n = ltb-false n (length xs) q in
        let f : i ≡ length xs = omega arith in
        rw (take_all i xs (omega arith), take_all n xs l, f)

-- the first entries of a list, as far as there is room, followed by the rest of what was filled with d
pub filled-rest : {A : Type 0} (n : ℕ) (d : A) (xs : List A) (i : ℕ) → i ≡ min (length xs) n → take i xs ++ drop i (replicate n d) ≡ padded n d xs
filled-rest n d xs i h = rw (drop-replicate i n d) (fill_done n d xs (filled n d xs i) i (omega (arith, h)) refl)

-- a list as long as the array
pub fill-all : {A : Type 0} (n : ℕ) (d : A) (xs out : List A) (i : ℕ) → length xs ≡ n → i ≡ n → out ≡ filled n d xs i → out ≡ xs
fill-all n d xs out i l h e =
    let f : n - i ≡ 0 = omega arith in
    e ∙ rw (f, take_all i xs (omega arith)) (append-nil xs)

-- a list that the array has room for, read again
pub padded-back : {A : Type 0} (n : ℕ) (d : A) (k : ℕ) (xs : List A) → k ≡ length xs → length xs ≤ n → take k (padded n d xs) ≡ xs
unfolding padded
padded-back n d k xs e h = rw (e, take_all n xs h) (take_at xs (replicate (n - length xs) d) (length xs) refl)
