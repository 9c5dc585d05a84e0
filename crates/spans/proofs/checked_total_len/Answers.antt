use Rattle.std.proofs.Common.{◌∙◌, arith}
use Rattle.spans.proofs.Turns.{total-over, total-next, total-done}
use Rattle.spans.proofs.checked_total_len.Goals as goal

pub returns-in_err-total : goal.returns-in_err-total
returns-in_err-total c =
    c.from_residual.ensures
    ∙ total-over c.loop-extent.total c.args.extents.now c.loop-extent.extent-index (omega arith) c.checked_mul_u64.result c.checked_mul_u64.ensures c.in_err-total.was
    ∙ c.loop-extent.invariant

pub loop-extent-preserved : goal.loop-extent-preserved
loop-extent-preserved c =
    total-next c.loop-extent.total c.args.extents.now c.loop-extent.extent-index (omega arith) c.checked_mul_u64.result c.checked_mul_u64.ensures c.in_ok-total.total c.in_ok-total.was
    ∙ c.loop-extent.invariant

pub returns : goal.returns
returns c = total-done c.loop-extent.total c.args.extents.now c.loop-extent.extent-index (omega arith) ∙ c.loop-extent.invariant
