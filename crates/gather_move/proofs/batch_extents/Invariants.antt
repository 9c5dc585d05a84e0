use Rattle.std.proofs.Common.{◌≡◌, cond, get_or}
use Rattle.indexing.specs.Coordinates.{tabulate, has}
use Rattle.layout.specs.Layouts.{rank_limit}
use Rattle.axis_lists.proofs.Filling.{written}
use Rattle.gather_move.proofs.batch_extents.Given as goal

abbrev pub invariant-loop-a : goal.invariant-loop-a
invariant-loop-a l = l.out ≡ written 1 (tabulate rank_limit (λ a. cond (has l.offset_dims a) 1 (get_or l.extents a 0))) l.a
