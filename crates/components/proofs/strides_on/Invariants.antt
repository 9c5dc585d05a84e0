use Rattle.std.proofs.Common.{◌≡◌, pos, take}
use Rattle.indexing.specs.Coordinates.{pick}
use Rattle.layout.specs.Layouts.{rank_limit}
use Rattle.axis_lists.proofs.Filling.{written}
use Rattle.components.proofs.strides_on.Given as goal

abbrev pub invariant-loop-i : goal.invariant-loop-i
invariant-loop-i l = l.out ≡ written (pos 0) (pick (pos 0) (take rank_limit l.map) l.strides) l.i
