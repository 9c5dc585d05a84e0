use mathlib.Core.Path.{sym, ap, ◌∙◌}
use Rattle.layout.specs.Answers.{is_done}
use Rattle.checks.proofs.Held.{never}
use Rattle.calls.specs.Calls.{view_of}
use Rattle.scatter.specs.Calls.{scatter_of}
use Rattle.operand_scatter.proofs.Planned.{answer-is, compiled, prepared}
use Rattle.operand_scatter.proofs.prepare.Statement.{statement}
use Rattle.operand_scatter.proofs.prepare.Tie as tie

returns : tie.Need-returns-then-not-is_done
returns c =
    let s = c in
    let a = answer-is s.args.plan s.args.batch_rows s.args.window_rows (view_of s.args.operand) (scatter_of s.args.plan.scatter s.args.index s.args.updates s.args.dest) s.args.operand_len s.args.starts_len s.args.updates_len s.args.dest_len c.plan_fits-fits.ensures c.check_plan-eight.ensures c.view_reach-w.ensures c.view_reach-x.ensures c.view_reach-y.ensures c.view_reach-z.ensures c.check_bounds-nine.ensures c.or_else-answer.ensures in
    let e = c.refused.ensures in
    record { answered = e ∙ a; ready = λ d. never (sym d ∙ ap is_done (sym a) ∙ sym c.is_done.ensures ∙ c.if-not-is_done.true) }

prepared-by-requires : tie.Need-prepared_by-requires
prepared-by-requires c κs =
    let i = c in
    let s = i in
    let a = answer-is s.args.plan s.args.batch_rows s.args.window_rows (view_of s.args.operand) (scatter_of s.args.plan.scatter s.args.index s.args.updates s.args.dest) s.args.operand_len s.args.starts_len s.args.updates_len s.args.dest_len i.plan_fits-fits.ensures i.check_plan-eight.ensures i.view_reach-w.ensures i.view_reach-x.ensures i.view_reach-y.ensures i.view_reach-z.ensures i.check_bounds-nine.ensures i.or_else-answer.ensures in
    compiled s.args.plan s.args.batch_rows s.args.window_rows s.args.operand s.args.index s.args.updates s.args.dest s.args.operand_len s.args.starts_len s.args.updates_len s.args.dest_len (ap is_done (sym a) ∙ sym i.is_done.ensures ∙ i.if-not-is_done.false)

returns-2 : tie.Need-returns
returns-2 c =
    let p = c in
    let i = c in
    let s = c in
    let a = answer-is s.args.plan s.args.batch_rows s.args.window_rows (view_of s.args.operand) (scatter_of s.args.plan.scatter s.args.index s.args.updates s.args.dest) s.args.operand_len s.args.starts_len s.args.updates_len s.args.dest_len i.plan_fits-fits.ensures i.check_plan-eight.ensures i.view_reach-w.ensures i.view_reach-x.ensures i.view_reach-y.ensures i.view_reach-z.ensures i.check_bounds-nine.ensures i.or_else-answer.ensures in
    prepared s.args.plan s.args.batch_rows s.args.window_rows s.args.operand s.args.index s.args.updates s.args.dest s.args.operand_len s.args.starts_len s.args.updates_len s.args.dest_len (ap is_done (sym a) ∙ sym i.is_done.ensures ∙ i.if-not-is_done.false) _ _ p.prepared_by.ensures i.view_reach-z.ensures

pub prepare_spec : {M : Type 1} → statement M
prepare_spec =
    tie.close
    (tie.spec
    (λ c κs. tt)
    (λ c κs. tt)
    (λ c κs. tt)
    (λ c κs. tt)
    (λ c κs. tt)
    (λ c κs. tt)
    (λ c κs. tt)
    (λ c κs. tt)
    (λ c κs. tt)
    (λ c κs. tt)
    returns
    prepared-by-requires
    returns-2)
