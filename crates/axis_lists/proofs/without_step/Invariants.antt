use Rattle.std.proofs.Common.{◌≡◌, pos}
use Rattle.indexing.specs.Start.{without}
use Rattle.axis_lists.specs.Held.{steps_of}
use Rattle.axis_lists.proofs.Filling.{written}
use Rattle.axis_lists.proofs.without_step.Given as goal

abbrev pub invariant-loop-i : goal.invariant-loop-i
invariant-loop-i l = l.entries ≡ written (pos 0) (without l.axis (steps_of l.list)) l.i
