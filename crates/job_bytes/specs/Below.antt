-- Lists of numbers that a byte, a word or an i64 can hold. Definitions only.
use Rattle.std.specs.Prelude.{List, [], ◌∷◌, ℕ, ◌<◌, ℤ}
use Rattle.std.specs.Int.{w64}
use Rattle.std.proofs.Common.{SFits}

pub data AllBelow (n : ℕ) : List ℕ → Type 0 where
  none : AllBelow n []
  more : {x : ℕ} {xs : List ℕ} → x < n → AllBelow n xs → AllBelow n (x ∷ xs)

pub data AllFit : List ℤ → Type 0 where
  fit_none : AllFit []
  fit-more : {z : ℤ} {zs : List ℤ} → SFits w64 z → AllFit zs → AllFit (z ∷ zs)
