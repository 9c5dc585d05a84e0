use Rattle.std.proofs.Common.{◌≡◌}
use Rattle.layout.specs.Layouts.{rank_limit}
use Rattle.layout.proofs.Fill.{filled}
use Rattle.replay.specs.Replays.{no_axis, axes_from}
use Rattle.replay.proofs.axes_from.Given as goal

abbrev pub invariant-loop-i : goal.invariant-loop-i
invariant-loop-i l = l.out ≡ filled rank_limit no_axis (axes_from l.extents l.rows) l.i
