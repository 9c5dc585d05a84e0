use Rattle.std.proofs.Common.{◌≡◌, min}
use lib.ListN.{drop}
use Rattle.indexing.specs.Coordinates.{pick}
use Rattle.layout.specs.Layouts.{rank_limit}
use Rattle.axis_lists.proofs.Filling.{spread_in}
use Rattle.scatter_checks.proofs.spread_windows.Given as goal

abbrev pub invariant-loop-i : goal.invariant-loop-i
invariant-loop-i l = l.out ≡ spread_in 1 1 (min l.n rank_limit) (drop l.i l.kept) (drop l.i (pick 0 l.window l.updates))
