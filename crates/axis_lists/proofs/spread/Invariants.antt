use Rattle.std.proofs.Common.{◌≡◌, min}
use lib.ListN.{drop}
use Rattle.layout.specs.Layouts.{rank_limit}
use Rattle.axis_lists.proofs.Filling.{spread_in}
use Rattle.axis_lists.proofs.spread.Given as goal

abbrev pub invariant-loop-i : goal.invariant-loop-i
invariant-loop-i g l = l.entries ≡ spread_in l.fn.rest l.fn.other (min l.n rank_limit) (drop l.i l.axes) (drop l.i l.list)
