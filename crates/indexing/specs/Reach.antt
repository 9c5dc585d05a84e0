-- To be believed. The least and the greatest sum that strides make over extents, and that every coordinate's offset lies between them. Assumes nothing.
use Rattle.std.specs.Prelude.{List, [], ◌∷◌, ℕ, ◌-◌, ℤ, pos, negsuc, ◌+ℤ◌, ◌*ℤ◌}

-- the part of a number below zero, and the part above
abbrev pub below_zero : ℤ → ℤ
below_zero (pos n) = pos 0
below_zero (negsuc n) = negsuc n

abbrev pub above_zero : ℤ → ℤ
above_zero (pos n) = pos n
above_zero (negsuc n) = pos 0

-- the least and the greatest sum that strides make over extents
unfoldable pub lowest : List ℤ → List ℕ → ℤ
lowest [] ds = pos 0
lowest (s ∷ ss) [] = pos 0
lowest (s ∷ ss) (d ∷ ds) = below_zero (s *ℤ pos (d - 1)) +ℤ lowest ss ds

unfoldable pub highest : List ℤ → List ℕ → ℤ
highest [] ds = pos 0
highest (s ∷ ss) [] = pos 0
highest (s ∷ ss) (d ∷ ds) = above_zero (s *ℤ pos (d - 1)) +ℤ highest ss ds
