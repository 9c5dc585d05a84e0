-- The views of a copy as its arrays hold them, and what the copy over axes asks. Definitions only.
use Rattle.std.specs.Prelude.{List, ℕ, ◌<◌, take, ℤ}
use Rattle.indexing.specs.Coordinates.{View}
use Rattle.indexing.specs.Odometer.{AllPos}
use Rattle.windows.specs.Windows.{Window}

-- the view of the first `rank` extents and strides
abbrev pub held_view : List ℕ → List ℤ → ℕ → ℤ → View
held_view shape strides rank at = record { extents = take rank shape; strides = take rank strides; offset = at }

-- a window that has axes and cells
pub record Cells (s d : ℤ) (shape : List ℕ) (ss ds : List ℤ) (rank sn dn : ℕ) : Type 0 where
  pub some : 0 < rank
  pub positive : AllPos (take rank shape)
  pub window : Window s d shape ss ds rank sn dn
