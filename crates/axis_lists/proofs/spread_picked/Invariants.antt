use Rattle.std.proofs.Common.{◌≡◌, min, pos}
use lib.ListN.{drop}
use Rattle.indexing.specs.Coordinates.{pick}
use Rattle.layout.specs.Layouts.{rank_limit}
use Rattle.axis_lists.proofs.Filling.{spread_in}
use Rattle.axis_lists.proofs.spread_picked.Given as goal

abbrev pub invariant-loop-i : goal.invariant-loop-i
invariant-loop-i l = l.out ≡ spread_in (pos 0) (pos 0) (min l.n rank_limit) (drop l.i l.places) (drop l.i (pick (pos 0) l.axes l.list))
