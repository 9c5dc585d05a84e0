use Rattle.std.proofs.Common.{◌≡◌, ◌+◌, ◌<◌, ◌^◌, drop}
use Rattle.layout.specs.Sums.{sum_axes, other_at, others_weight}
use Rattle.spans.proofs.others_weight.Given as goal

abbrev pub invariant-loop-i : goal.invariant-loop-i
invariant-loop-i l = (l.sum < 2 ^ 64) × (l.sum + sum_axes (other_at l.limit l.axis) l.i (drop l.i l.extents) (drop l.i l.strides) ≡ others_weight l.limit l.axis l.extents l.strides)
