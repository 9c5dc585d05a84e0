use Rattle.std.proofs.Common.{◌≡◌, ◌&&◌, not, nat_eq}
use Rattle.indexing.specs.Loops.{in_order}
use Rattle.indexing.specs.Slid.{how_many}
use Rattle.runs.specs.Runs.{cell_at, line}
use Rattle.indexed_runs.specs.IndexedRuns.{replaced, start_moved, moved_at}
use Rattle.indexed_runs.proofs.take_cells_by.Given as goal

abbrev pub invariant-loop-i : goal.invariant-loop-i
invariant-loop-i g l =
    (l.dst ≡ in_order (cell_at g.E.Element.absent replaced l.src (moved_at l.starts l.components.offsets l.components.strides l.components.limits l.count (line l.s l.ss) (line l.t l.ts)) (line l.d l.ds)) l.i l.fn.dst)
    × (l.slid ≡ how_many l.i (λ k. not (nat_eq g.row.COUNTS 0) && start_moved l.starts l.components.offsets l.components.limits (line l.t l.ts k) l.count))
