use Rattle.std.specs.Prelude.{pos, get_or}
use Rattle.std.proofs.Common.{ap, ◌∙◌, arith, rules, SFits}
use Rattle.std.specs.Int.{w64}
use Rattle.integer.specs.Z.{back}
use Rattle.layout.specs.Spans.{widened}
use Rattle.spans.proofs.Turns.{span-over, span-next, span-done}
use Rattle.spans.proofs.validate_layout_span.Goals as goal

pub returns-in_err-span : goal.returns-in_err-span
returns-in_err-span c =
    let f : SFits w64 (get_or c.args.strides.now c.loop-i.i (pos 0)) = search rules in
    c.from_residual.ensures
    ∙ span-over c.loop-i.span c.args.extents.now c.args.strides.now c.loop-i.i (omega arith) (omega arith) c.widen.result
    (c.widen.ensures ∙ ap (widened c.loop-i.span (get_or c.args.extents.now c.loop-i.i 0)) (back f)) c.in_err-span.was
    ∙ c.loop-i.invariant

pub loop-i-preserved : goal.loop-i-preserved
loop-i-preserved c =
    let f : SFits w64 (get_or c.args.strides.now c.loop-i.i (pos 0)) = search rules in
    span-next c.loop-i.span c.args.extents.now c.args.strides.now c.loop-i.i (omega arith) (omega arith) c.widen.result
    (c.widen.ensures ∙ ap (widened c.loop-i.span (get_or c.args.extents.now c.loop-i.i 0)) (back f)) c.in_ok-span.span c.in_ok-span.was
    ∙ c.loop-i.invariant

pub returns : goal.returns
returns c = span-done c.loop-i.span c.args.extents.now c.args.strides.now c.loop-i.i (omega arith) ∙ c.loop-i.invariant
