use Rattle.std.proofs.Common.{◌≡◌, drop}
use Rattle.layout.specs.Spans.{span_from, spanned}
use Rattle.spans.proofs.validate_layout_span.Given as goal

abbrev pub invariant-loop-i : goal.invariant-loop-i
invariant-loop-i l = span_from l.span (drop l.i l.extents) (drop l.i l.strides) ≡ spanned l.extents l.strides
