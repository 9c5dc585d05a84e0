use Rattle.std.proofs.Common.{◌≡◌, ◌&&◌, not, nat_eq, ◌+◌, ◌*◌, pos, nat_abs}
use Rattle.indexing.specs.Loops.{in_order}
use Rattle.indexing.specs.Slid.{how_many}
use Rattle.runs.specs.Runs.{cell_at}
use Rattle.indexed_runs.specs.IndexedRuns.{replaced, one_at, moves_at}
use Rattle.indexed_runs.proofs.take_ones.Given as goal

abbrev pub invariant-loop-turn : goal.invariant-loop-turn
invariant-loop-turn g l =
    (l.dst ≡ in_order (cell_at g.E.Element.absent replaced l.src (one_at l.starts l.limit) pos) (l.over + 4 * l.turn) l.fn.dst)
    × (l.slid ≡ how_many (l.over + 4 * l.turn) ((λ k. not (nat_eq g.row.COUNTS 0) && moves_at l.starts pos (nat_abs l.limit) k)))
