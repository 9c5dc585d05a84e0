use Rattle.std.proofs.Common.{◌≡◌}
use Rattle.indexing.specs.Loops.{in_order}
use Rattle.runs.specs.Runs.{cell_at, line}
use Rattle.indexed_runs.specs.IndexedRuns.{starts_moved, moved_at}
use Rattle.indexed_runs.proofs.put_cells_by.Given as goal

abbrev pub invariant-loop-i : goal.invariant-loop-i
invariant-loop-i g l =
    (l.dst ≡ in_order (cell_at g.E.Element.absent (g.R.Combine.combined l.rule) l.src (line l.s l.ss) (moved_at l.starts l.components.offsets l.components.strides l.components.limits l.count (λ _. l.d) (line l.t l.ts))) l.i l.fn.dst)
    × (l.slid ≡ starts_moved l.starts l.components.offsets l.components.limits l.count l.i (line l.t l.ts))
