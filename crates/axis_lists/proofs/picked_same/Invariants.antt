use Rattle.std.proofs.Common.{◌≡◌}
use lib.ListN.{drop}
use Rattle.indexing.specs.Coordinates.{pick}
use Rattle.axis_lists.specs.Held.{same_list}
use Rattle.axis_lists.proofs.picked_same.Given as goal

abbrev pub invariant-loop-i : goal.invariant-loop-i
invariant-loop-i l = same_list (drop l.i (pick 0 l.axes l.list)) (drop l.i (pick 0 l.others l.sizes)) ≡ same_list (pick 0 l.axes l.list) (pick 0 l.others l.sizes)
