use Rattle.std.proofs.Common.{◌≡◌}
use Rattle.indexing.specs.Loops.{in_order}
use Rattle.indexing.specs.Slid.{how_many}
use Rattle.runs.specs.Runs.{cell_at, line}
use Rattle.indexed_runs.specs.IndexedRuns.{clamped_at, moves_at}
use Rattle.indexed_runs.proofs.put_strided.Given as goal

abbrev pub invariant-loop-i : goal.invariant-loop-i
invariant-loop-i g l =
    (l.dst ≡ in_order (cell_at g.E.Element.absent (g.R.Combine.combined l.rule) l.src (line l.s l.ss) (clamped_at l.starts (line l.t l.ts) l.base l.stride l.limit)) l.i l.fn.dst)
    × (l.slid ≡ how_many l.i (moves_at l.starts (line l.t l.ts) l.limit))
