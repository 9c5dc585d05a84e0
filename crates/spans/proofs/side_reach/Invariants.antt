use Rattle.std.proofs.Common.{◌≡◌, ◌+◌, ◌<◌, ◌^◌, drop}
use Rattle.layout.specs.Sums.{sum_axes, side_at, side_reach}
use Rattle.spans.proofs.side_reach.Given as goal

abbrev pub invariant-loop-i : goal.invariant-loop-i
invariant-loop-i l = (l.sum < 2 ^ 64) × (l.sum + sum_axes (side_at l.below) l.i (drop l.i l.extents) (drop l.i l.strides) ≡ side_reach l.below l.extents l.strides)
