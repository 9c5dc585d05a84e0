use Rattle.std.specs.Prelude.{ℤ, pos, get_or}
use Rattle.std.proofs.Common.{sym, ap, ◌∙◌, arith, rules, SFits}
use Rattle.std.specs.Int.{w64}
use Rattle.integer.specs.Defs.{checked_u}
use Rattle.integer.specs.Machine.{checked_u-is, checked_u-below, checked_u-fits}
use Rattle.integer.specs.Z.{back}
use Rattle.layout.specs.Sums.{other_at}
use Rattle.spans.proofs.Turns.{weight-over, sum_over, sum-next, sum_done}
use Rattle.spans.proofs.others_weight.Goals as goal

pub returns-in_err-weight : goal.returns-in_err-weight
returns-in_err-weight c =
    let f : SFits w64 (get_or c.args.strides.now c.loop-i.i (pos 0)) = search rules in
    c.from_residual.ensures
    ∙ weight-over (other_at c.args.limit c.args.axis) c.loop-i.sum c.args.extents.now c.args.strides.now c.loop-i.i (omega arith) (omega arith) c.other_weight.result
    (c.other_weight.ensures ∙ ap (λ (z : ℤ). checked_u ((other_at c.args.limit c.args.axis) c.loop-i.i (get_or c.args.extents.now c.loop-i.i 0) z)) (back f)) c.in_err-weight.was
    ∙ ap checked_u c.loop-i.invariant.1

pub returns-in_err-sum : goal.returns-in_err-sum
returns-in_err-sum c =
    let f : SFits w64 (get_or c.args.strides.now c.loop-i.i (pos 0)) = search rules in
    c.from_residual-in_err-sum.ensures
    ∙ sum_over (other_at c.args.limit c.args.axis) c.loop-i.sum c.args.extents.now c.args.strides.now c.loop-i.i (omega arith) (omega arith) c.other_weight.result
    (c.other_weight.ensures ∙ ap (λ (z : ℤ). checked_u ((other_at c.args.limit c.args.axis) c.loop-i.i (get_or c.args.extents.now c.loop-i.i 0) z)) (back f)) c.in_ok-weight.weight c.in_ok-weight.was c.checked_add_u64.result c.checked_add_u64.ensures c.in_err-sum.was
    ∙ ap checked_u c.loop-i.invariant.1

pub loop-i-preserved : goal.loop-i-preserved
loop-i-preserved c =
    let f : SFits w64 (get_or c.args.strides.now c.loop-i.i (pos 0)) = search rules in (
      omega (arith, checked_u-below _ _ (sym c.checked_add_u64.ensures ∙ c.in_ok-sum.was), checked_u-fits _ _ (sym c.checked_add_u64.ensures ∙ c.in_ok-sum.was)),
      sum-next (other_at c.args.limit c.args.axis) c.loop-i.sum c.args.extents.now c.args.strides.now c.loop-i.i (omega arith) (omega arith) c.other_weight.result
          (c.other_weight.ensures ∙ ap (λ (z : ℤ). checked_u ((other_at c.args.limit c.args.axis) c.loop-i.i (get_or c.args.extents.now c.loop-i.i 0) z)) (back f)) c.in_ok-weight.weight c.in_ok-weight.was c.checked_add_u64.result c.checked_add_u64.ensures c.in_ok-sum.sum c.in_ok-sum.was
          ∙ c.loop-i.invariant.1,
    )

pub returns : goal.returns
returns c = checked_u-is c.loop-i.sum _ c.loop-i.invariant.0 (sum_done (other_at c.args.limit c.args.axis) c.loop-i.sum c.args.extents.now c.args.strides.now c.loop-i.i (omega arith) ∙ c.loop-i.invariant.1)
