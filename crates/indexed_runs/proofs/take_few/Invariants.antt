use Rattle.std.proofs.Common.{◌≡◌, ◌&&◌, not, nat_eq, ◌+◌, ◌-◌, pos, nat_abs}
use Rattle.indexing.specs.Loops.{in_order}
use Rattle.indexing.specs.Slid.{how_many}
use Rattle.runs.specs.Runs.{cell_at}
use Rattle.indexed_runs.specs.IndexedRuns.{replaced, one_at, moves_at}
use Rattle.indexed_runs.proofs.take_few.Given as goal

abbrev pub invariant-loop-i : goal.invariant-loop-i
invariant-loop-i g l =
    (l.dst ≡ in_order (λ k. cell_at g.E.Element.absent replaced l.src (one_at l.starts l.limit) pos (k + l.from)) (l.i - l.from) l.fn.dst)
    × (l.slid ≡ how_many (l.i - l.from) (λ k. not (nat_eq g.row.COUNTS 0) && moves_at l.starts pos (nat_abs l.limit) (k + l.from)))
