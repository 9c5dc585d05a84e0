use Rattle.windows.specs.Windows.{Units}
use Rattle.windows.proofs.run_axis.Given as goal

abbrev pub invariant-loop-low : goal.invariant-loop-low
invariant-loop-low l = Units l.low l.extents
