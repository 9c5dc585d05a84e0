use Rattle.std.proofs.Common.{◌≡◌, length}
use Rattle.indexing.specs.Coordinates.{tabulate}
use Rattle.axis_lists.specs.Held.{numbers_of, steps_of}
use Rattle.axis_lists.proofs.Filling.{written}
use Rattle.gather_plan.specs.Plan.{no_axis}
use Rattle.gather_plan.specs.Made.{axis_from}
use Rattle.gather_plan.proofs.axes_of.Given as goal

abbrev pub invariant-loop-i : goal.invariant-loop-i
invariant-loop-i l = l.out ≡ written no_axis (tabulate (length l.extents) (axis_from l.extents l.dest (steps_of l.window) (steps_of l.batch) l.offset_dims (numbers_of l.shown))) l.i
