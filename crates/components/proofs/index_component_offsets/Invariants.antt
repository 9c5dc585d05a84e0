use Rattle.std.proofs.Common.{◌≡◌, pos}
use Rattle.indexing.specs.Coordinates.{tabulate}
use Rattle.axis_lists.proofs.Filling.{written}
use Rattle.checks.specs.Values.{offset_or}
use Rattle.components.proofs.index_component_offsets.Given as goal

abbrev pub invariant-loop-i : goal.invariant-loop-i
invariant-loop-i l = l.out ≡ written (pos 0) (tabulate l.n (offset_or l.stride)) l.i
