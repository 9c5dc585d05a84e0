use Rattle.std.proofs.Common.{◌≡◌}
use Rattle.indexing.specs.Coordinates.{pick}
use Rattle.axis_lists.proofs.Filling.{written}
use Rattle.axis_lists.proofs.pick.Given as goal

abbrev pub invariant-loop-i : goal.invariant-loop-i
invariant-loop-i g l = l.entries ≡ written l.rest (pick l.rest l.axes l.list) l.i
