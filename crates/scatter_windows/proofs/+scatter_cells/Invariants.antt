use Rattle.std.proofs.Common.{◌≡◌, ◌*◌, take}
use Rattle.indexing.specs.Coordinates.{product}
use Rattle.indexing.specs.Loops.{in_order}
use Rattle.windows.specs.Windows.{place_at}
use Rattle.indexed_runs.specs.IndexedRuns.{starts_moved}
use Rattle.scatter_windows.proofs.Batches.{below}
use Rattle.scatter_windows.proofs.Levels.{put}
use Rattle.scatter_windows.proofs.+scatter_cells.Given as goal

abbrev pub decreases-scatter_cells : goal.decreases-scatter_cells
decreases-scatter_cells g l = l.rank

abbrev pub invariant-loop-j : goal.invariant-loop-j
invariant-loop-j g l =
    (l.dst ≡ in_order (below (put g.E.Element.absent (g.R.Combine.combined l.rule) l.src l.starts l.components.offsets l.components.strides l.components.limits l.components.count l.d) l.extents l.ts l.us l.t l.u l.x l.y l.top) l.j l.fn.dst)
    × (l.slid ≡ starts_moved l.starts l.components.offsets l.components.limits l.components.count (product (take l.top l.extents) * l.j) (place_at l.t l.extents l.ts l.rank))
