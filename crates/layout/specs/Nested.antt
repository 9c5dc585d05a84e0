-- To be believed. Nested: document 01's test that no two cells of a destination can share an element. Definitions only.
use Rattle.std.specs.Prelude.{Bool, true, false, cond, ◌||◌, ◌&&◌, List, [], ◌∷◌, ℕ, ◌+◌, ◌*◌, ◌-◌, eqb, leb, ltb, ℤ, nat_abs}

-- "some extent is 0"
unfoldable pub has_zero : List ℕ → Bool
has_zero [] = false
has_zero (d ∷ ds) = eqb d 0 || has_zero ds

-- "extents of 1 left out": of each other axis the magnitude of its stride, with its extent
unfoldable pub long_axes : List ℕ → List ℤ → List (ℕ × ℕ)
long_axes [] ss = []
long_axes (d ∷ ds) [] = []
long_axes (d ∷ ds) (s ∷ ss) = cond (eqb d 1) (long_axes ds ss) ((nat_abs s, d) ∷ long_axes ds ss)

-- "the rest ordered by magnitude of stride"
unfoldable pub insert : ℕ × ℕ → List (ℕ × ℕ) → List (ℕ × ℕ)
insert x [] = x ∷ []
insert x (y ∷ ys) = cond (leb x.0 y.0) (x ∷ y ∷ ys) (y ∷ insert x ys)

unfoldable pub ordered : List (ℕ × ℕ) → List (ℕ × ℕ)
ordered [] = []
ordered (x ∷ xs) = insert x (ordered xs)

-- "each magnitude exceeds the sum of magnitude × (extent − 1) over those before it"
unfoldable pub exceeds : ℕ → List (ℕ × ℕ) → Bool
exceeds sum [] = true
exceeds sum (x ∷ xs) = ltb sum x.0 && exceeds (sum + x.0 * (x.1 - 1)) xs

unfoldable pub nested : List ℕ → List ℤ → Bool
nested ds ss = has_zero ds || exceeds 0 (ordered (long_axes ds ss))
