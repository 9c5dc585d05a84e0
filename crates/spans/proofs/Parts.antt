-- What is read of an array that is lent up to a count. Assumes nothing.
use mathlib.Core.Path.{◌≡◌, refl, sym, ap, ◌∙◌}
use mathlib.Core.Bool.{Bool, true, false}
use mathlib.Core.List.{List}
use Prim.Native.Nat.{ℕ, ◌-◌, ◌<◌, ◌≤◌, min}
use native.Mathlib.Omega.{arith}
use borrow.Author.Tests.{ltb-true, ltb-false}
use lib.Dec.{ltb}
use lib.ListN.{length, take, drop, length-take}
use lib.Seq.{take_all}

-- the count as the code bounds it
pub take_count : {A : Type 0} (n k : ℕ) (xs : List A) → n ≡ min k (length xs) → take n xs ≡ take k xs
take_count n k xs e = go (ltb k (length xs)) refl
  where
    go : (t : Bool) → ltb k (length xs) ≡ t → take n xs ≡ take k xs
    go true h = let l : k < length xs = ltb-true k (length xs) h in let f : n ≡ k = omega arith in ap (λ (m : ℕ). take m xs) f
    go false h = let l : length xs ≤ k = ltb-false k (length xs) h in take_all n xs (omega arith) ∙ sym (take_all k xs l)

module _ {A : Type 0} (n k m : ℕ) (xs : List A) (e : n ≡ min k m) (f : length xs ≡ m) where
  pub part-fits : n ≤ length xs
  part-fits = omega arith

  pub part-read : take (n - 0) (drop 0 xs) ≡ take k xs
  part-read = let z : n - 0 ≡ n = omega arith in ap (λ (j : ℕ). take j xs) z ∙ take_count n k xs (omega arith)

  pub part_length : length (take (n - 0) (drop 0 xs)) ≡ n
  part_length = ap length part-read ∙ length-take k xs ∙ omega arith
