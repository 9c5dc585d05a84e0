-- How many cells a compiled walk has. The rule for callers: a walk is stepped only from cell to cell, so a window without cells, which is one with an extent of 0, is compiled and never walked, and nothing of it is read. For lists of any length. Assumes nothing.
use Rattle.std.specs.Prelude.{◌≡◌, refl, Bool, true, false, List, ℕ, ◌<◌, ℤ}
use Rattle.std.proofs.Common.{arith}
use Rattle.indexing.specs.Coordinates.{product}
use Rattle.indexing.specs.Odometer.{AllPos}
use Rattle.layout.specs.Laws.{no_cells, some-cells}
use Rattle.layout.specs.Nested.{has_zero}
use Rattle.replay.specs.declared.WindowReplayAxis.{WindowReplayAxis}
use Rattle.replay.specs.Replays.{extents}
use Rattle.replay.specs.Merging.{Meets}

pub cells-pos : (ds : List ℕ) → 0 < product ds → AllPos ds
cells-pos ds h = some-cells ds (go (has_zero ds) refl)
  where
    go : (t : Bool) → has_zero ds ≡ t → t ≡ false
    go true k = absurd (omega (arith, no_cells ds k))
    go false k = refl

-- the merged walk has as many cells as the walk over the axes as they were given
module _ (ds : List ℕ) (ss ts : List ℤ) (l : List WindowReplayAxis) (m : Meets ds ss ts l) where
  pub cells-kept : product (extents l) ≡ product ds
  cells-kept = m.total
