use Rattle.std.proofs.Common.{sym, arith, ◌∙◌}
use Rattle.gather_checks.proofs.Collapsed.{collapsed-no, collapsed-next, collapsed-end}
use Rattle.gather_checks.proofs.check_collapsed.Goals as goal

pub returns-then-entry_at-ne1 : goal.returns-then-entry_at-ne1
returns-then-entry_at-ne1 c =
    collapsed-no c.args.rank c.args.sizes.now c.args.collapsed.now c.loop-axis.axis-index (omega arith) (λ e. c.if-entry_at-ne1.true (c.entry_at.ensures ∙ e))
    ∙ c.loop-axis.invariant

pub loop-axis-preserved : goal.loop-axis-preserved
loop-axis-preserved c =
    collapsed-next c.args.rank c.args.sizes.now c.args.collapsed.now c.loop-axis.axis-index (omega arith) (sym c.entry_at.ensures ∙ c.if-entry_at-ne1.false)
    ∙ c.loop-axis.invariant

pub returns : goal.returns
returns c = collapsed-end c.args.rank c.args.sizes.now c.args.collapsed.now c.loop-axis.axis-index (omega arith) ∙ c.loop-axis.invariant
