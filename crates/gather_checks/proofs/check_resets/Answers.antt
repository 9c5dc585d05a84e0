use Rattle.std.specs.Prelude.{◌≡◌, Err}
use Rattle.std.proofs.Common.{rules, length, ap, ◌∙◌}
use Rattle.std.proofs.lemmas.Result.{err_from_is_err_and}
use Rattle.checks.proofs.FirstOf.{first_over, first_past, first_ends}
use Rattle.gather_checks.specs.Refusals.{resets_at}
use Rattle.gather_checks.proofs.check_resets.Goals as goal

pub returns-in_err-check_axis : goal.returns-in_err-check_axis
returns-in_err-check_axis c =
    let e : c.check_axis.result ≡ resets_at c.args.de.now c.args.ds.now c.args.window.now c.args.batch.now c.loop-i.i = search rules in
    let p = err_from_is_err_and c.from_residual.result c.from_residual.ensures.1 in
    p.1 ∙ ap Err p.2
    ∙ first_over (resets_at c.args.de.now c.args.ds.now c.args.window.now c.args.batch.now) (length c.args.de.now) c.loop-i.i c.check_axis.result _ c.loop-i-test.true e c.in_err-check_axis.was
    ∙ c.loop-i.invariant

pub loop-i-preserved : goal.loop-i-preserved
loop-i-preserved c =
    let e : c.check_axis.result ≡ resets_at c.args.de.now c.args.ds.now c.args.window.now c.args.batch.now c.loop-i.i = search rules in
    first_past (resets_at c.args.de.now c.args.ds.now c.args.window.now c.args.batch.now) (length c.args.de.now) c.loop-i.i c.check_axis.result c.loop-i-test.true e c.in_ok-check_axis.was
    ∙ c.loop-i.invariant

pub returns : goal.returns
returns c =
    first_ends (resets_at c.args.de.now c.args.ds.now c.args.window.now c.args.batch.now) (length c.args.de.now) c.loop-i.i c.loop-i-test.false
    ∙ c.loop-i.invariant
