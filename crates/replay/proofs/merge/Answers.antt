use Rattle.std.specs.Prelude.{ℕ, ◌*◌, ℤ}
use Rattle.std.proofs.Common.{sym, ap, ap₂, ◌∙◌}
use Rattle.integer.specs.Z.{back}
use Rattle.integer.specs.Machine.{checked_u-fits, checked_u-over}
use Rattle.replay.specs.Replays.{axis_of}
use Rattle.replay.specs.Parts.{checked_axis, as_merged}
use Rattle.replay.proofs.Joins.{axis-large}
use Rattle.replay.proofs.merge.Goals as goal

pub returns-in_err-size : goal.returns-in_err-size
returns-in_err-size c =
    c.from_residual.ensures
    ∙ ap as_merged (axis-large (c.args.before * c.args.extent) c.args.source c.args.dest (checked_u-over (c.args.before * c.args.extent) (sym c.checked_mul_u64.ensures ∙ c.in_err-size.was)))

pub returns-in_err-axis : goal.returns-in_err-axis
returns-in_err-axis c =
    let e = checked_u-fits (c.args.before * c.args.extent) c.in_ok-size.size (sym c.checked_mul_u64.ensures ∙ c.in_ok-size.was) in
    c.from_residual-in_err-axis.ensures
    ∙ ap as_merged (sym c.in_err-axis.was ∙ c.make_axis.ensures ∙ ap₂ (λ (x y : ℤ). checked_axis (axis_of c.in_ok-size.size x y)) (back c.ranges.source) (back c.ranges.dest) ∙ ap (λ (l : ℕ). checked_axis (axis_of l c.args.source c.args.dest)) (sym e))

pub returns : goal.returns
returns c =
    let e = checked_u-fits (c.args.before * c.args.extent) c.in_ok-size.size (sym c.checked_mul_u64.ensures ∙ c.in_ok-size.was) in
    ap as_merged (sym c.in_ok-axis.was ∙ c.make_axis.ensures ∙ ap₂ (λ (x y : ℤ). checked_axis (axis_of c.in_ok-size.size x y)) (back c.ranges.source) (back c.ranges.dest) ∙ ap (λ (l : ℕ). checked_axis (axis_of l c.args.source c.args.dest)) (sym e))
