-- A linear index and its coordinate are one and the same: `unravel` has an inverse. Assumes nothing.
use Rattle.std.specs.Prelude.{◌≡◌, refl, List, [], ◌∷◌, ℕ, zero, suc, ◌+◌, ◌*◌, ◌/◌, ◌%◌, ◌<◌, length, get_or, ℤ, pos, ◌+ℤ◌}
use Rattle.std.proofs.Common.{sym, ap, ap₂, ◌∙◌, subst, mod-eq_of_lt, div-lt_iff_lt-mul, mul-le-mul_left, mul-suc, mul_comm, zero-mul, zero-add, add_comm, arith}
use Rattle.std.proofs.Math.Nat.{div-add-mod, div-eq_of_lt, add-mul-mod_self_left, add-mul-div_left, zero-mod, zero-div}
use Rattle.std.proofs.Math.IntN.{*ℤ-zero}
use Rattle.indexing.specs.Coordinates.{product, unravel, Within, dot}
use Rattle.indexing.specs.Odometer.{AllPos}
use Rattle.indexing.proofs.Odometer.{walk-within}
use Rattle.indexing.specs.Linear.{ravel}

pub length-unravel : (ds : List ℕ) (k : ℕ) → length (unravel ds k) ≡ length ds
unfolding unravel
length-unravel [] k = refl
length-unravel (d ∷ ds) k = ap suc (length-unravel ds (k / d))

pub head-pos : (d n k : ℕ) → k < d * n → 0 < d
head-pos zero n k h = absurd (omega (arith, zero-mul n))
head-pos (suc d) n k h = omega arith

pub div_below : (k d n : ℕ) → k < d * n → k / d < n
div_below k d n h = (div-lt_iff_lt-mul {k = d} (head-pos d n k h)).1 (subst (λ (m : ℕ). k < m) (mul_comm d n) h)

-- where there is a linear index, no extent is 0
pub index-pos : (ds : List ℕ) (k : ℕ) → k < product ds → AllPos ds
unfolding product AllPos
index-pos [] k h = tt
index-pos (d ∷ ds) k h = (head-pos d (product ds) k h, index-pos ds (k / d) (div_below k d (product ds) h))

pub unravel-within : (ds : List ℕ) (k : ℕ) → k < product ds → Within ds (unravel ds k)
unravel-within ds k h = walk-within ds (index-pos ds k h) k

pub ravel-unravel : (ds : List ℕ) (k : ℕ) → k < product ds → ravel ds (unravel ds k) ≡ k
unfolding product unravel ravel
ravel-unravel [] k h = omega arith
ravel-unravel (d ∷ ds) k h =
    ap (λ (n : ℕ). k % d + d * n) (ravel-unravel ds (k / d) (div_below k d (product ds) h)) ∙ add_comm (k % d) (d * (k / d)) ∙ div-add-mod k d

pub unravel-ravel : (ds cs : List ℕ) → Within ds cs → unravel ds (ravel ds cs) ≡ cs
unfolding unravel ravel Within
unravel-ravel [] [] w = refl
unravel-ravel [] (c ∷ cs) w = absurd w
unravel-ravel (d ∷ ds) [] w = absurd w
unravel-ravel (d ∷ ds) (c ∷ cs) w =
    ap₂ ◌∷◌ (add-mul-mod_self_left c d (ravel ds cs) ∙ mod-eq_of_lt w.0)
    (ap (unravel ds) (digit-div c d (ravel ds cs) w.0) ∙ unravel-ravel ds cs w.1)
  where
    digit-div : (c d x : ℕ) → c < d → (c + d * x) / d ≡ x
    digit-div c d x h = add-mul-div_left c x {y = d} (omega arith) ∙ ap (λ (n : ℕ). n + x) (div-eq_of_lt h) ∙ zero-add x

pub ravel-below : (ds cs : List ℕ) → Within ds cs → ravel ds cs < product ds
unfolding product ravel Within
ravel-below [] [] w = omega arith
ravel-below [] (c ∷ cs) w = absurd w
ravel-below (d ∷ ds) [] w = absurd w
ravel-below (d ∷ ds) (c ∷ cs) w = digit-below c d (ravel ds cs) (product ds) w.0 (ravel-below ds cs w.1)
  where
    digit-below : (c d x n : ℕ) → c < d → x < n → c + d * x < d * n
    digit-below c d x n h g = omega (arith, mul-le-mul_left {m = suc x} {n = n} d g, mul-suc d x)

-- a coordinate has one linear index
pub unravel-one : (ds : List ℕ) (k m : ℕ) → k < product ds → m < product ds → unravel ds k ≡ unravel ds m → k ≡ m
unravel-one ds k m hk hm e = sym (ravel-unravel ds k hk) ∙ ap (ravel ds) e ∙ ravel-unravel ds m hm

-- ---- inside the extents, axis by axis
pub within-length : (ds cs : List ℕ) → Within ds cs → length cs ≡ length ds
unfolding Within
within-length [] [] w = refl
within-length [] (c ∷ cs) w = absurd w
within-length (d ∷ ds) [] w = absurd w
within-length (d ∷ ds) (c ∷ cs) w = ap suc (within-length ds cs w.1)

pub within-at : (ds cs : List ℕ) → Within ds cs → (a : ℕ) → a < length ds → get_or cs a 0 < get_or ds a 0
unfolding Within
within-at [] cs w a h = absurd (omega arith)
within-at (d ∷ ds) [] w a h = absurd w
within-at (d ∷ ds) (c ∷ cs) w zero h = w.0
within-at (d ∷ ds) (c ∷ cs) w (suc a) h = within-at ds cs w.1 a (omega arith)

pub within_by : (ds cs : List ℕ) → length cs ≡ length ds → ((a : ℕ) → a < length ds → get_or cs a 0 < get_or ds a 0) → Within ds cs
unfolding Within
within_by [] [] l h = tt
within_by [] (c ∷ cs) l h = absurd (omega arith)
within_by (d ∷ ds) [] l h = absurd (omega arith)
within_by (d ∷ ds) (c ∷ cs) l h = (h 0 (omega arith), within_by ds cs (omega arith) (λ a k. h (suc a) (omega arith)))

-- the first coordinate adds nothing
pub dot-first : (ss : List ℤ) (ds : List ℕ) → dot ss (unravel ds 0) ≡ pos 0
unfolding dot unravel
dot-first [] ds = refl
dot-first (s ∷ ss) [] = refl
dot-first (s ∷ ss) (d ∷ ds) = rw (zero-mod, zero-div) (ap₂ ◌+ℤ◌ (*ℤ-zero s) (dot-first ss ds))
