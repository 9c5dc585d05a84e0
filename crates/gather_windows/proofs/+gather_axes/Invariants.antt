use Rattle.std.proofs.Common.{◌≡◌}
use Rattle.indexing.specs.Loops.{in_order}
use Rattle.indexed_runs.specs.IndexedRuns.{replaced}
use Rattle.gather_windows.proofs.Levels.{below}
use Rattle.gather_windows.proofs.Batches.{so_far}
use Rattle.gather_windows.proofs.+gather_axes.Given as goal

-- the last axis goes with each call
abbrev pub decreases-gather_axes : goal.decreases-gather_axes
decreases-gather_axes g l = l.rank

abbrev pub invariant-loop-j : goal.invariant-loop-j
invariant-loop-j g l =
    (l.dst ≡ in_order (below l.starts l.components.offsets l.components.strides l.components.limits l.components.count l.extents l.ss l.ts l.ds g.E.Element.absent replaced l.src l.s l.t l.d l.x l.y l.z l.top) l.j l.fn.dst)
    × so_far l.starts l.components.offsets l.components.limits l.components.count l.batches l.ts l.counts l.t l.top l.j l.slid
