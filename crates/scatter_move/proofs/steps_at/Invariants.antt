use Rattle.std.proofs.Common.{◌≡◌, pos}
use Rattle.axis_lists.proofs.Filling.{written}
use Rattle.scatter_move.specs.Prepared.{steps_at}
use Rattle.scatter_move.proofs.steps_at.Given as goal

abbrev pub invariant-loop-i : goal.invariant-loop-i
invariant-loop-i l = l.out ≡ written (pos 0) (steps_at l.side l.rows) l.i
