-- The batches of a prepared scatter, from the place `at` in the part of the destination that is lent on. Definitions only.
use Rattle.std.specs.Prelude.{List, ℕ, take, ℤ}
use Rattle.indexing.specs.Coordinates.{product}
use Rattle.indexing.specs.Slid.{slid_of}
use Rattle.windows.specs.Windows.{place_at}
use Rattle.indexed_runs.specs.IndexedRuns.{starts_moved}
use Rattle.scatter_windows.specs.Scattering.{scattered_by, Scattering}
use Rattle.driven.specs.Driving.{Rowed}
use Rattle.scatter_move.specs.declared.PreparedScatter.{PreparedScatter}

-- what they ask, of updates of sn elements and a part of dn
abbrev pub BatchesFrom : PreparedScatter → List (List ℤ) → List ℤ → ℤ → ℕ → ℕ → Type 0
BatchesFrom p rows starts at sn dn =
    let w = p.numbers in
    Scattering starts w.offsets w.strides w.limits w.count p.index p.updates at w.batch_extents w.index_steps w.update_steps w.batch_rank w.window_extents w.window_steps w.dest_steps w.window_rank sn dn
    × Rowed p.index p.updates w.batch_extents w.index_steps w.update_steps rows w.batch_rank w.batches w.count w.window_extents w.window_rank

-- what they leave of the part
abbrev pub after_batches : {A : Type 0} → A → (A → A → A) → PreparedScatter → List A → List ℤ → ℤ → List A → List A
after_batches z rule p src starts at dst =
    let w = p.numbers in
    scattered_by z rule src starts w.offsets w.strides w.limits w.count p.index p.updates at w.batch_extents w.index_steps w.update_steps w.batch_rank w.window_extents w.window_steps w.dest_steps w.window_rank dst

-- and how many of them have a start that the clamp moves; none where windows have no cells
abbrev pub batches_moved : PreparedScatter → List ℤ → ℕ
batches_moved p starts =
    let w = p.numbers in
    slid_of (product (take w.window_rank w.window_extents))
    (starts_moved starts w.offsets w.limits w.count (product (take w.batch_rank w.batch_extents)) (place_at p.index w.batch_extents w.index_steps w.batch_rank))
