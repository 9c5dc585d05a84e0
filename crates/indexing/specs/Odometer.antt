-- The odometer, first axis fastest: the coordinate after a linear index, and the step of its offset as sums of strides and resets. Assumes nothing.
use Rattle.std.specs.Prelude.{cond, List, [], ◌∷◌, ℕ, ◌+◌, ◌-◌, ◌<◌, ltb, ℤ, pos, neg_ℤ, ◌+ℤ◌, ◌*ℤ◌}
use Rattle.indexing.specs.Coordinates.{unravel, dot}

-- no extent is 0
unfoldable pub AllPos : List ℕ → Type 0
AllPos [] = Unit {0}
AllPos (d ∷ ds) = (0 < d) × AllPos ds

-- one step; what stands past the axes stays
unfoldable pub next : List ℕ → List ℕ → List ℕ
next [] cs = cs
next (d ∷ ds) [] = []
next (d ∷ ds) (c ∷ cs) = cond (ltb (c + 1) d) ((c + 1) ∷ cs) (0 ∷ next ds cs)

-- the offset of the linear index k
unfoldable pub offset_at : ℤ → List ℕ → List ℤ → ℕ → ℤ
offset_at base ds ss k = base +ℤ dot ss (unravel ds k)

-- ---- the step, as sums

-- a stride where the axis moves on, a reset where it wraps
unfoldable pub advance : List ℕ → List ℤ → List ℕ → ℤ → ℤ
advance [] ss cs z = z
advance (d ∷ ds) [] cs z = z
advance (d ∷ ds) (s ∷ ss) [] z = z
advance (d ∷ ds) (s ∷ ss) (c ∷ cs) z = cond (ltb (c + 1) d) (z +ℤ s) (advance ds ss cs (z +ℤ neg_ℤ (s *ℤ pos (d - 1))))
