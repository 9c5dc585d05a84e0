use Rattle.std.proofs.Common.{◌≡◌, ◌&&◌, not, nat_eq}
use Rattle.indexing.specs.Loops.{in_order}
use Rattle.indexing.specs.Slid.{how_many}
use Rattle.runs.specs.Runs.{cell_at, line}
use Rattle.indexed_runs.specs.IndexedRuns.{replaced, clamped_at, moves_at}
use Rattle.indexed_runs.proofs.take_strided.Given as goal

abbrev pub invariant-loop-i : goal.invariant-loop-i
invariant-loop-i g l =
    (l.dst ≡ in_order (cell_at g.E.Element.absent replaced l.src (clamped_at l.starts (line l.t l.ts) l.base l.stride l.limit) (line l.d l.ds)) l.i l.fn.dst)
    × (l.slid ≡ how_many l.i (λ k. not (nat_eq g.row.COUNTS 0) && moves_at l.starts (line l.t l.ts) l.limit k))
