use Rattle.std.specs.Prelude.{ℤ, Err}
use Rattle.std.proofs.Common.{ap, ◌∙◌}
use Rattle.std.specs.Int.{w64}
use Rattle.std.proofs.lemmas.Result.{err_from_is_err_and}
use mir.Val.{to_z, of_z}
use Rattle.integer.specs.Z.{back}
use Rattle.checks.specs.Checks.{first_of, offset_fits}
use Rattle.checks.proofs.FirstOf.{first_over, first_past, first_ends}
use Rattle.components.proofs.check_components.Goals as goal

pub returns-in_err-check_offset : goal.returns-in_err-check_offset
returns-in_err-check_offset c =
    let p = err_from_is_err_and c.from_residual.result c.from_residual.ensures.1 in
    p.1 ∙ ap Err p.2
    ∙ first_over (offset_fits (to_z w64 (of_z w64 c.args.stride))) c.args.count c.loop-component.component c.check_offset.result _ c.loop-component-test.true c.check_offset.ensures c.in_err-check_offset.was
    ∙ c.loop-component.invariant ∙ ap (λ (z : ℤ). first_of (offset_fits z) c.args.count 0) (back c.ranges.stride)

pub loop-component-preserved : goal.loop-component-preserved
loop-component-preserved c =
    first_past (offset_fits (to_z w64 (of_z w64 c.args.stride))) c.args.count c.loop-component.component c.check_offset.result c.loop-component-test.true c.check_offset.ensures c.in_ok-check_offset.was
    ∙ c.loop-component.invariant

pub returns : goal.returns
returns c =
    first_ends (offset_fits (to_z w64 (of_z w64 c.args.stride))) c.args.count c.loop-component.component c.loop-component-test.false
    ∙ c.loop-component.invariant ∙ ap (λ (z : ℤ). first_of (offset_fits z) c.args.count 0) (back c.ranges.stride)
