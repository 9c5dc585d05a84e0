use Rattle.windows.specs.Windows.{Units}
use Rattle.scatter_windows.proofs.one_cell.Given as goal

abbrev pub invariant-loop-i : goal.invariant-loop-i
invariant-loop-i l = Units l.i l.extents
