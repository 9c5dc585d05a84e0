use Rattle.std.proofs.Common.{◌≡◌, length}
use Rattle.checks.proofs.Windows.{left}
use Rattle.checks.proofs.check_windows.Given as goal

abbrev pub invariant-loop-i : goal.invariant-loop-i
invariant-loop-i l = left (length l.extents) l.windows l.extents l.i ≡ left (length l.extents) l.windows l.extents 0
