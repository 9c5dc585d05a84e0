-- What a window over two strided slices does, cell by cell, and where its cells lie. Definitions only.
use Rattle.std.specs.Prelude.{◌≡◌, cond, List, ℕ, suc, ◌<◌, ◌≤◌, ◌^◌, eqb, length, get_or, take, ℤ}
use Rattle.indexing.specs.Coordinates.{product, InSlice}
use Rattle.indexing.specs.Odometer.{AllPos, offset_at}
use Rattle.indexing.specs.Loops.{in_order}
use Rattle.layout.specs.Layouts.{rank_limit}
use Rattle.runs.specs.Runs.{cell_at}

-- the place of cell k over the first `rank` axes
abbrev pub place_at : ℤ → List ℕ → List ℤ → ℕ → ℕ → ℤ
place_at base shape strides rank k = offset_at base (take rank shape) (take rank strides) k

-- every cell in turn, first axis fastest
abbrev pub windowed : {A : Type 0} → A → (A → A → A) → List A → ℤ → ℤ → List ℕ → List ℤ → List ℤ → ℕ → List A → List A
windowed z rule src s d shape ss ds rank dst = in_order (cell_at z rule src (place_at s shape ss rank) (place_at d shape ds rank)) (product (take rank shape)) dst

-- the cells of the first `rank` axes lie inside a slice of m elements
pub record Region (base : ℤ) (shape : List ℕ) (strides : List ℤ) (rank m : ℕ) : Type 0 where
  pub extents : rank ≤ length shape
  pub strided : rank ≤ length strides
  pub few : (i : ℕ) → i < rank → get_or shape i 0 ≤ 2 ^ 63
  pub inside : (k : ℕ) → k < product (take rank shape) → InSlice m (place_at base shape strides rank k)

-- those of both sides
pub record Window (s d : ℤ) (shape : List ℕ) (ss ds : List ℤ) (rank sn dn : ℕ) : Type 0 where
  pub small : rank ≤ rank_limit
  pub source : Region s shape ss rank sn
  pub dest : Region d shape ds rank dn

-- the axes before `low` have one place each
abbrev pub Units : ℕ → List ℕ → Type 0
Units low shape = (i : ℕ) → i < low → get_or shape i 0 ≡ 1

-- the axis that runs go along: the first whose extent is not 1, or the last
pub record RunAxis (low : ℕ) (shape : List ℕ) (rank : ℕ) : Type 0 where
  pub below : low < rank
  pub units : Units low shape
  pub long : suc low < rank → get_or shape low 0 ≡ 1 → ⊥

-- the rows along the axis `low` and the last axis, `top`, of extent n
abbrev pub row_count : ℕ → ℕ → ℕ → ℕ
row_count top low n = cond (eqb top low) 1 n

-- a window that has cells, and an axis before which no axis has more than one place
pub record Level (s d : ℤ) (shape : List ℕ) (ss ds : List ℤ) (low rank sn dn : ℕ) : Type 0 where
  pub below : low < rank
  pub units : Units low shape
  pub positive : AllPos (take rank shape)
  pub window : Window s d shape ss ds rank sn dn
