use Rattle.std.proofs.Common.{◌≡◌, ◌+◌, ◌-◌, pos, nat_abs}
use Rattle.indexing.specs.Loops.{in_order}
use Rattle.indexing.specs.Slid.{how_many}
use Rattle.runs.specs.Runs.{cell_at}
use Rattle.indexed_runs.specs.IndexedRuns.{one_at, moves_at}
use Rattle.indexed_runs.proofs.put_few.Given as goal

abbrev pub invariant-loop-i : goal.invariant-loop-i
invariant-loop-i g l =
    (l.dst ≡ in_order (λ k. cell_at g.E.Element.absent (g.R.Combine.combined l.rule) l.src pos (one_at l.starts l.limit) (k + l.from)) (l.i - l.from) l.fn.dst)
    × (l.slid ≡ how_many (l.i - l.from) (λ k. moves_at l.starts pos (nat_abs l.limit) (k + l.from)))
