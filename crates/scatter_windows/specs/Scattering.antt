-- What is done at the cells of a scatter, in order, and where they lie. Definitions only.
use Rattle.std.specs.Prelude.{◌≡◌, Bool, true, false, List, ℕ, ◌-◌, ◌<◌, ◌≤◌, ◌^◌, length, take, ℤ, ◌+ℤ◌}
use Rattle.indexing.specs.Coordinates.{product}
use Rattle.indexing.specs.Odometer.{AllPos}
use Rattle.indexing.specs.Loops.{in_order}
use Rattle.layout.specs.Layouts.{rank_limit}
use Rattle.runs.specs.Runs.{cell_at}
use Rattle.windows.specs.Windows.{place_at, windowed, Region, Units, Level}
use Rattle.indexed_runs.specs.IndexedRuns.{start_at, Starting, moved_at}

-- batch by batch, first axis fastest: the batch's updates are a window, put on the destination from its base d, moved by the start that is read at the batch's place
abbrev pub scattered_by : {A : Type 0} → A → (A → A → A) → List A → List ℤ → List ℤ → List ℤ → List ℕ → ℕ → ℤ → ℤ → ℤ → List ℕ → List ℤ → List ℤ → ℕ → List ℕ → List ℤ → List ℤ → ℕ → List A → List A
scattered_by z rule src starts offsets strides limits count t u d bshape ts us brank wshape ws ds wrank dst =
    in_order (λ b. windowed z rule src (place_at u bshape us brank b) (d +ℤ start_at starts offsets strides limits (place_at t bshape ts brank b) count) wshape ws ds wrank) (product (take brank bshape)) dst

-- where the windows have one cell: each batch's update in turn
abbrev pub put_by : {A : Type 0} → A → (A → A → A) → List A → List ℤ → List ℤ → List ℤ → List ℕ → ℕ → ℤ → ℤ → ℤ → List ℕ → List ℤ → List ℤ → ℕ → List A → List A
put_by z rule src starts offsets strides limits count t u d shape ts us rank dst =
    in_order (cell_at z rule src (place_at u shape us rank) (moved_at starts offsets strides limits count (λ _. d) (place_at t shape ts rank))) (product (take rank shape)) dst

-- inside their slices lie the starts of the batches and the cells of their windows, on both sides
pub record Batches (starts offsets strides : List ℤ) (limits : List ℕ) (count : ℕ) (t u d : ℤ) (bshape : List ℕ) (ts us : List ℤ) (brank : ℕ) (wshape : List ℕ) (ws ds : List ℤ) (wrank sn dn : ℕ) : Type 0 where
  pub index : Region t bshape ts brank (2 ^ 63 - 1)
  pub strided : brank ≤ length us
  pub starting : (b : ℕ) → b < product (take brank bshape) → Starting starts offsets strides limits d (place_at t bshape ts brank b) count dn
  pub source : (b : ℕ) → b < product (take brank bshape) → Region (place_at u bshape us brank b) wshape ws wrank sn
  pub dest : (b : ℕ) → b < product (take brank bshape) → Region (d +ℤ start_at starts offsets strides limits (place_at t bshape ts brank b) count) wshape ds wrank dn

-- which is asked where there are batches and their windows have cells
pub record Scattering (starts offsets strides : List ℤ) (limits : List ℕ) (count : ℕ) (t u d : ℤ) (bshape : List ℕ) (ts us : List ℤ) (brank : ℕ) (wshape : List ℕ) (ws ds : List ℤ) (wrank sn dn : ℕ) : Type 0 where
  pub small : brank ≤ rank_limit
  pub window-small : wrank ≤ rank_limit
  pub batches : 0 < product (take brank bshape) → 0 < product (take wrank wshape) → Batches starts offsets strides limits count t u d bshape ts us brank wshape ws ds wrank sn dn

-- whether the axes have one place each
pub record OneCell (r : Bool) (shape : List ℕ) (rank : ℕ) : Type 0 where
  pub yes : r ≡ true → Units rank shape
  pub no : r ≡ false → Units rank shape → ⊥

-- batches, of which there are some and no more than a u64 counts, with their places of starts and updates; P is asked of both places of each
pub record BatchPlaces (P : ℤ → ℤ → Type 0) (t u : ℤ) (shape : List ℕ) (ts us : List ℤ) (rank sn : ℕ) : Type 0 where
  pub small : rank ≤ rank_limit
  pub few-batches : product (take rank shape) < 2 ^ 64
  pub positive : AllPos (take rank shape)
  pub index : Region t shape ts rank (2 ^ 63 - 1)
  pub updates : Region u shape us rank sn
  pub each : (b : ℕ) → b < product (take rank shape) → P (place_at t shape ts rank b) (place_at u shape us rank b)

-- a window with cells: y is the place of its first update, and its start is read at x
pub record Landing (starts offsets strides : List ℤ) (limits : List ℕ) (count : ℕ) (d : ℤ) (shape : List ℕ) (ws ds : List ℤ) (low rank sn dn : ℕ) (x y : ℤ) : Type 0 where
  pub starting : Starting starts offsets strides limits d x count dn
  pub window : Level y (d +ℤ start_at starts offsets strides limits x count) shape ws ds low rank sn dn

-- batches whose windows have one cell, and an axis before which no axis has more than one place
pub record PutLevel (starts offsets strides : List ℤ) (limits : List ℕ) (count : ℕ) (t u d : ℤ) (shape : List ℕ) (ts us : List ℤ) (low rank sn dn : ℕ) : Type 0 where
  pub below : low < rank
  pub units : Units low shape
  pub places : BatchPlaces (λ x y. Starting starts offsets strides limits d x count dn) t u shape ts us rank sn
