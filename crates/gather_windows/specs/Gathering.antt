-- What is done at the cells of a gather, in order, and where they lie. Definitions only.
use Rattle.std.specs.Prelude.{◌≡◌, ◌≢◌, ◌⊎◌, List, ℕ, ◌-◌, ◌<◌, ◌≤◌, ◌^◌, length, get_or, take, ℤ, pos, ◌*ℤ◌}
use Rattle.indexing.specs.Coordinates.{product}
use Rattle.indexing.specs.Odometer.{AllPos}
use Rattle.indexing.specs.Loops.{in_order}
use Rattle.layout.specs.Layouts.{rank_limit}
use Rattle.runs.specs.Runs.{cell_at}
use Rattle.windows.specs.Windows.{place_at, Region, Units}
use Rattle.indexed_runs.specs.IndexedRuns.{Starting, moved_at}

-- every cell in turn, first axis fastest: its element is the source's at a place that the start moves, and the start is read at a place of its own
abbrev pub gathered_by : {A : Type 0} → A → (A → A → A) → List A → List ℤ → List ℤ → List ℤ → List ℕ → ℕ → ℤ → ℤ → ℤ → List ℕ → List ℤ → List ℤ → List ℤ → ℕ → List A → List A
gathered_by z rule src starts offsets strides limits count s t d shape ss ts ds rank dst =
    in_order (cell_at z rule src (moved_at starts offsets strides limits count (place_at s shape ss rank) (place_at t shape ts rank)) (place_at d shape ds rank)) (product (take rank shape)) dst

-- inside their slices lie the cells of the first `rank` axes: of the source, of the starts and of the destination
pub record Gathering (starts offsets strides : List ℤ) (limits : List ℕ) (count : ℕ) (s t d : ℤ) (shape : List ℕ) (ss ts ds : List ℤ) (rank sn dn : ℕ) : Type 0 where
  pub small : rank ≤ rank_limit
  pub source : Region s shape ss rank sn
  pub index : Region t shape ts rank (2 ^ 63 - 1)
  pub dest : Region d shape ds rank dn
  pub starting : (k : ℕ) → k < product (take rank shape) → Starting starts offsets strides limits (place_at s shape ss rank k) (place_at t shape ts rank k) count sn

-- an axis that does not move the place that the start is read at: no coordinate of it adds anything
abbrev pub StillAxis : ℕ → ℤ → Type 0
StillAxis extent step = (c : ℕ) → c < extent → step *ℤ pos c ≡ pos 0

-- nor do the first axes, as many as that
abbrev pub Still : ℕ → List ℕ → List ℤ → Type 0
Still wide shape ts = (i : ℕ) → i < wide → StillAxis (get_or shape i 0) (get_or ts i (pos 0))

-- an axis has a batch coordinate for each place, or one for all, and then no place of it moves the start
abbrev pub BatchAxis : ℕ → ℕ → ℤ → Type 0
BatchAxis extent batches step = (batches ≡ extent) ⊎ ((batches ≡ 1) × (step ≡ pos 0))

-- the first axes with their batch coordinates, whose number fits a u64 where there are cells
pub record Batched (shape batches : List ℕ) (ts : List ℤ) (rank : ℕ) : Type 0 where
  pub room : rank ≤ length batches
  pub each : (i : ℕ) → i < rank → BatchAxis (get_or shape i 0) (get_or batches i 0) (get_or ts i (pos 0))
  pub fits : AllPos (take rank shape) → product (take rank batches) < 2 ^ 64

-- the first axes that have one batch coordinate, as many as there are
pub record WindowAxes (wide : ℕ) (batches : List ℕ) (rank : ℕ) : Type 0 where
  pub within : wide ≤ rank
  pub ones : Units wide batches
  pub stops : wide < rank → get_or batches wide 0 ≢ 1

-- cells, an axis before which no axis has more than one place, and axes that move no start
pub record GatherLevel (starts offsets strides : List ℤ) (limits : List ℕ) (count : ℕ) (s t d : ℤ) (shape : List ℕ) (ss ts ds : List ℤ) (low wide rank sn dn : ℕ) : Type 0 where
  pub below : low < rank
  pub units : Units low shape
  pub positive : AllPos (take rank shape)
  pub still : Still wide shape ts
  pub walk : Gathering starts offsets strides limits count s t d shape ss ts ds rank sn dn

-- batch coordinates, axes before `wide` that have one each, and an axis `low` that runs go along
pub record BatchLevel (shape batches : List ℕ) (ts : List ℤ) (low wide rank : ℕ) : Type 0 where
  pub ones : Units wide batches
  pub run : wide ≤ low → get_or batches low 0 ≡ get_or shape low 0
  pub batched : Batched shape batches ts rank
