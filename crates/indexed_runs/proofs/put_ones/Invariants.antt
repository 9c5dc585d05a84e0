use Rattle.std.proofs.Common.{◌≡◌, ◌+◌, ◌*◌, pos, nat_abs}
use Rattle.indexing.specs.Loops.{in_order}
use Rattle.indexing.specs.Slid.{how_many}
use Rattle.runs.specs.Runs.{cell_at}
use Rattle.indexed_runs.specs.IndexedRuns.{one_at, moves_at}
use Rattle.indexed_runs.proofs.put_ones.Given as goal

abbrev pub invariant-loop-turn : goal.invariant-loop-turn
invariant-loop-turn g l =
    (l.dst ≡ in_order (cell_at g.E.Element.absent (g.R.Combine.combined l.rule) l.src pos (one_at l.starts l.limit)) (l.over + 4 * l.turn) l.fn.dst)
    × (l.slid ≡ how_many (l.over + 4 * l.turn) (moves_at l.starts pos (nat_abs l.limit)))
