use Rattle.std.proofs.Common.{◌≡◌, [], take, false}
use Rattle.indexing.specs.Coordinates.{has}
use Rattle.layout.specs.Lists.{unique_axes}
use Rattle.layout.proofs.Unique.{rest_at}
use Rattle.layout.proofs.validate_unique_axes.Given as goal

abbrev pub invariant-loop-i : goal.invariant-loop-i
invariant-loop-i l = rest_at l.rank l.axes l.i ≡ unique_axes l.rank [] l.axes

abbrev pub invariant-loop-j : goal.invariant-loop-j
invariant-loop-j l = has (take l.j l.axes) l.axis ≡ false
