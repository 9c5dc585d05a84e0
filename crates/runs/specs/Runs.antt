-- What runs over two strided slices do, cell by cell, and where their cells lie. Definitions only.
use Rattle.std.specs.Prelude.{List, ℕ, ◌<◌, ◌≤◌, ◌^◌, ℤ, pos, ◌+ℤ◌, ◌*ℤ◌}
use Rattle.indexing.specs.Coordinates.{InSlice, element_at, store}
use Rattle.indexing.specs.Loops.{in_order}

-- the turn of cell k: what the rule makes of the destination's element at `g k` and the source's at `f k` is stored at `g k`
abbrev pub cell_at : {A : Type 0} → A → (A → A → A) → List A → (ℕ → ℤ) → (ℕ → ℤ) → ℕ → List A → List A
cell_at z rule src f g k dst = store dst (g k) (rule (element_at z dst (g k)) (element_at z src (f k)))

-- places at even steps
abbrev pub line : ℤ → ℤ → ℕ → ℤ
line base stride i = base +ℤ stride *ℤ pos i

-- n places at even steps lie inside a slice of m elements
pub record Line (base stride : ℤ) (n m : ℕ) : Type 0 where
  pub few : n ≤ 2 ^ 63
  pub inside : (i : ℕ) → i < n → InSlice m (line base stride i)

-- those of both sides of a run
pub record Run (s d ss ds : ℤ) (n sn dn : ℕ) : Type 0 where
  pub source : Line s ss n sn
  pub dest : Line d ds n dn

-- the turn of run j: n cells, from places moved by j times st and dt
abbrev pub run_at : {A : Type 0} → A → (A → A → A) → List A → ℤ → ℤ → ℤ → ℤ → ℤ → ℤ → ℕ → ℕ → List A → List A
run_at z rule src s d ss ds st dt n j = in_order (cell_at z rule src (line (line s st j) ss) (line (line d dt j) ds)) n

-- m runs of n cells each lie inside their slices
pub record Plane (s d ss ds st dt : ℤ) (n m sn dn : ℕ) : Type 0 where
  pub some : 0 < n
  pub few : m ≤ 2 ^ 63
  pub runs : (j : ℕ) → j < m → Run (line s st j) (line d dt j) ss ds n sn dn
