-- A linear index and its coordinate are one and the same: `unravel` has an inverse. Assumes nothing.
use Rattle.std.specs.Prelude.{List, [], ◌∷◌, ℕ, ◌+◌, ◌*◌}

-- the linear index of a coordinate
unfoldable pub ravel : List ℕ → List ℕ → ℕ
ravel [] cs = 0
ravel (d ∷ ds) [] = 0
ravel (d ∷ ds) (c ∷ cs) = c + d * ravel ds cs
