-- Lists as they are picked, lent and walked. Assumes nothing.
use mathlib.Core.Path.{◌≡◌, ap, ◌∙◌}
use mathlib.Core.List.{List}
use Prim.Native.Nat.{ℕ, ◌-◌, ◌≤◌, min}
use native.Mathlib.Omega.{arith}
use lib.ListN.{length, take, drop}
use lib.IntN.{ℤ, pos}
use Rattle.indexing.specs.Coordinates.{others}
use Rattle.layout.specs.Layouts.{rank_limit, padded}
use Rattle.axis_lists.specs.Held.{numbers_of, held_numbers, Numbers}
use Rattle.axis_lists.proofs.Filling.{read_back}
use Rattle.checks.proofs.Held.{held_fits, held-part, others-held, few-others}
use Rattle.replay.specs.Replays.{compiled_replay}

-- what is read of an array that a list of at most the rank limit fills
pub filled-read : {A : Type 0} (d : A) (n : ℕ) (r l : List A) → r ≡ padded rank_limit d l → n ≡ length l → length l ≤ rank_limit → take n r ≡ l
filled-read d n r l e f h = ap (take n) e ∙ ap (λ (k : ℕ). take k (padded rank_limit d l)) f ∙ read_back d l h

-- and where it is lent up to there
pub filled-part : {A : Type 0} (d : A) (n : ℕ) (r l : List A) → r ≡ padded rank_limit d l → n ≡ length l → length l ≤ rank_limit → take (n - 0) (drop 0 r) ≡ l
filled-part d n r l e f h = let z : n - 0 ≡ n = omega arith in ap (λ (k : ℕ). take k r) z ∙ filled-read d n r l e f h

-- a list that was held is read as it was
pub held-read : (k : Numbers) (l : List ℕ) → k ≡ held_numbers l → length l ≤ rank_limit → numbers_of k ≡ l
held-read k l e h = filled-read 0 k.count k.entries l (ap (λ (x : Numbers). x.entries) e) (ap (λ (x : Numbers). x.count) e) h

-- ---- the others of at most the rank limit's axes, as they are held
module _ (n : ℕ) (axes : List ℕ) (k : Numbers) (h : n ≤ rank_limit) (e : k ≡ held_numbers (others (min n rank_limit) axes)) where
  pub others-few : k.count ≤ length k.entries
  others-few = held_fits k (others n axes) (others-held k n axes e h) (few-others n axes h)

  pub others-read : numbers_of k ≡ others n axes
  others-read = held-read k (others n axes) (others-held k n axes e h) (few-others n axes h)

  pub others-part : take (k.count - 0) (drop 0 k.entries) ≡ others n axes
  others-part = held-part k (others n axes) (others-held k n axes e h) (few-others n axes h)

-- the walk of lists that fill arrays
pub walk_is : (n : ℕ) (shape ds : List ℕ) (source ss dest ts : List ℤ) → shape ≡ padded rank_limit 0 ds → source ≡ padded rank_limit (pos 0) ss → dest ≡ padded rank_limit (pos 0) ts → n ≤ rank_limit → n ≡ length ds → n ≡ length ss → n ≡ length ts
    → compiled_replay (take n shape) (take n source) (take n dest) ≡ compiled_replay ds ss ts
walk_is n shape ds source ss dest ts p q r h a b c =
    let x : take n shape ≡ ds = filled-read 0 n shape ds p a (omega arith) in
    let y : take n source ≡ ss = filled-read (pos 0) n source ss q b (omega arith) in
    let z : take n dest ≡ ts = filled-read (pos 0) n dest ts r c (omega arith) in
    rw (x, y, z)
