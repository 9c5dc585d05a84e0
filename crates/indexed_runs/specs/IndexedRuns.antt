-- Places by clamped starts. Definitions only.
use Rattle.std.specs.Prelude.{◌≡◌, Bool, List, ℕ, ◌-◌, ◌<◌, ◌≤◌, ◌^◌, length, get_or, ℤ, pos, nat_abs, ◌+ℤ◌, ◌*ℤ◌, ◌≤ℤ◌}
use Rattle.indexing.specs.Coordinates.{InSlice, element_at}
use Rattle.indexing.specs.Start.{clamp}
use Rattle.indexing.specs.Slid.{moved, one_of, how_many}
use Rattle.indexing.specs.Axes.{sum_of}
use Rattle.layout.specs.Layouts.{rank_limit}
use Rattle.runs.specs.Runs.{line, Line}

-- an update that replaces what was there
abbrev pub replaced : {A : Type 0} → A → A → A
replaced x u = u

-- what component j of the start read at t adds to a place: its stride times the component, clamped to 0 .. limit
abbrev pub component_at : List ℤ → List ℤ → List ℤ → List ℕ → ℤ → ℕ → ℤ
component_at starts offsets strides limits t j = get_or strides j (pos 0) *ℤ clamp (element_at (pos 0) starts (t +ℤ get_or offsets j (pos 0))) (get_or limits j 0) 0

-- and what the first c components add
abbrev pub start_at : List ℤ → List ℤ → List ℤ → List ℕ → ℤ → ℕ → ℤ
start_at starts offsets strides limits t c = sum_of c (component_at starts offsets strides limits t)

-- whether the clamp moves component j of the start read at t, and whether it moves one of the first c
abbrev pub component_moved : List ℤ → List ℤ → List ℕ → ℤ → ℕ → Bool
component_moved starts offsets limits t j = moved (element_at (pos 0) starts (t +ℤ get_or offsets j (pos 0))) (get_or limits j 0) 0

abbrev pub start_moved : List ℤ → List ℤ → List ℕ → ℤ → ℕ → Bool
start_moved starts offsets limits t c = one_of c (component_moved starts offsets limits t)

-- of the starts read at n places, how many have a component that the clamp moves
abbrev pub starts_moved : List ℤ → List ℤ → List ℕ → ℕ → ℕ → (ℕ → ℤ) → ℕ
starts_moved starts offsets limits count n at = how_many n (λ k. start_moved starts offsets limits (at k) count)

-- the components of the start at t lie inside their slice, and s moved by the first of them, whatever their number, inside one of m elements
pub record Starting (starts offsets strides : List ℤ) (limits : List ℕ) (s t : ℤ) (count m : ℕ) : Type 0 where
  pub few : count ≤ rank_limit
  pub small : (c : ℕ) → c < count → get_or limits c 0 < 2 ^ 63
  pub reads : (c : ℕ) → c < count → InSlice (length starts) (t +ℤ get_or offsets c (pos 0))
  pub partly : (c : ℕ) → c ≤ count → InSlice m (s +ℤ start_at starts offsets strides limits t c)

-- the place f k, moved by the start that is read at g k
abbrev pub moved_at : List ℤ → List ℤ → List ℤ → List ℕ → ℕ → (ℕ → ℤ) → (ℕ → ℤ) → ℕ → ℤ
moved_at starts offsets strides limits count f g k = f k +ℤ start_at starts offsets strides limits (g k) count

-- inside their slices lie the places of n cells: of the source, of the starts and of the destination. Places of starts are below 2 ^ 63 - 1 where none is read
pub record Taking (starts offsets strides : List ℤ) (limits : List ℕ) (count : ℕ) (s t d ss ts ds : ℤ) (n sn dn : ℕ) : Type 0 where
  pub source : Line s ss n sn
  pub index : Line t ts n (2 ^ 63 - 1)
  pub dest : Line d ds n dn
  pub starting : (k : ℕ) → k < n → Starting starts offsets strides limits (line s ss k) (line t ts k) count sn

-- the same where the destination's place is moved, from one base d
pub record Putting (starts offsets strides : List ℤ) (limits : List ℕ) (count : ℕ) (s t d ss ts : ℤ) (n sn dn : ℕ) : Type 0 where
  pub source : Line s ss n sn
  pub index : Line t ts n (2 ^ 63 - 1)
  pub starting : (k : ℕ) → k < n → Starting starts offsets strides limits d (line t ts k) count dn

-- the place of cell k where there is one component: the start at `at k`, clamped, times the stride
abbrev pub clamped_at : List ℤ → (ℕ → ℤ) → ℤ → ℤ → ℕ → ℕ → ℤ
clamped_at starts at base stride limit k = base +ℤ stride *ℤ clamp (element_at (pos 0) starts (at k)) limit 0

-- and whether the clamp moves that start
abbrev pub moves_at : List ℤ → (ℕ → ℤ) → ℕ → ℕ → Bool
moves_at starts at limit k = moved (element_at (pos 0) starts (at k)) limit 0

-- inside their slices lie the n starts, the base and the places that the starts give, and the n places of the other side
pub record Clamped (starts : List ℤ) (t ts base stride other step : ℤ) (limit n cn pn : ℕ) : Type 0 where
  pub small : limit < 2 ^ 63
  pub starting : Line t ts n (length starts)
  pub first : InSlice cn base
  pub clamped : (k : ℕ) → k < n → InSlice cn (clamped_at starts (line t ts) base stride limit k)
  pub plain : Line other step n pn

-- the same in a slice that begins at the base, where every step is 1: the start itself, clamped
abbrev pub one_at : List ℤ → ℤ → ℕ → ℤ
one_at starts limit k = clamp (element_at (pos 0) starts (pos k)) (nat_abs limit) 0

-- one start for each of n cells, and inside a slice of cn elements the places that they give
pub record Ones (starts : List ℤ) (limit : ℤ) (n cn : ℕ) : Type 0 where
  pub low : pos 0 ≤ℤ limit
  pub each : length starts ≡ n
  pub clamped : (k : ℕ) → k < n → InSlice cn (one_at starts limit k)
