use Rattle.std.proofs.Common.{◌≡◌, ◌-◌, length}
use Rattle.layout.specs.Nested.{nested}
use Rattle.spans.proofs.Apart.{exceeds_from}
use Rattle.spans.proofs.nested_in.Given as goal

abbrev pub invariant-loop-axis : goal.invariant-loop-axis
invariant-loop-axis l = exceeds_from (length l.extents - l.axis) l.axis l.extents l.strides ≡ nested l.extents l.strides
