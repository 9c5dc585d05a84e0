use Rattle.std.specs.Prelude.{List, ℕ}
use Rattle.std.proofs.Common.{ap, arith, ◌∙◌}
use Rattle.gather_plan.specs.Plan.{role_of}
use Rattle.gather_plan.proofs.Roles.{role-here, role-next, role-done}
use Rattle.gather_plan.proofs.role_at.Goals as goal

pub returns-then-offset_dims-i : goal.returns-then-offset_dims-i
returns-then-offset_dims-i c =
    let s = c.args in
    let e = c.as_slice-entries.result.now in
    role-here s.offset_dims.now e s.axis c.loop-i.i (omega (arith, c.min-i-end.ensures)) (omega (arith, c.min-i-end.ensures)) c.if-offset_dims-i.true
    ∙ c.loop-i.invariant ∙ ap (λ (xs : List ℕ). role_of s.offset_dims.now xs s.axis) c.as_slice-entries.ensures

pub loop-i-preserved : goal.loop-i-preserved
loop-i-preserved c =
    let s = c.args in
    let e = c.as_slice-entries.result.now in
    role-next s.offset_dims.now e s.axis c.loop-i.i (omega (arith, c.min-i-end.ensures)) (omega (arith, c.min-i-end.ensures)) c.if-offset_dims-i.false
    ∙ c.loop-i.invariant

pub returns : goal.returns
returns c =
    let s = c.args in
    let e = c.as_slice-entries.result.now in
    role-done s.offset_dims.now e s.axis c.loop-i.i (omega (arith, c.min-i-end.ensures))
    ∙ c.loop-i.invariant ∙ ap (λ (xs : List ℕ). role_of s.offset_dims.now xs s.axis) c.as_slice-entries.ensures
