use Rattle.windows.specs.Windows.{Units}
use Rattle.gather_windows.proofs.window_axes.Given as goal

abbrev pub invariant-loop-i : goal.invariant-loop-i
invariant-loop-i l = Units l.i l.batches
