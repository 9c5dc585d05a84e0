use Rattle.std.specs.Prelude.{length}
use Rattle.std.proofs.Common.{◌∙◌, arith}
use Rattle.checks.proofs.Windows.{windows-no, windows-next, windows-done}
use Rattle.checks.proofs.check_windows.Goals as goal

pub returns-then-windows-i : goal.returns-then-windows-i
returns-then-windows-i c =
    windows-no (length c.args.extents.now) c.args.windows.now c.args.extents.now c.loop-i.i (omega (arith, c.min-i-end.ensures)) (omega (arith, c.min-i-end.ensures)) c.if-windows-i.true
    ∙ c.loop-i.invariant

pub loop-i-preserved : goal.loop-i-preserved
loop-i-preserved c =
    windows-next (length c.args.extents.now) c.args.windows.now c.args.extents.now c.loop-i.i (omega (arith, c.min-i-end.ensures)) (omega (arith, c.min-i-end.ensures)) c.if-windows-i.false
    ∙ c.loop-i.invariant

pub returns : goal.returns
returns c = windows-done (length c.args.extents.now) c.args.windows.now c.args.extents.now c.loop-i.i (omega (arith, c.min-i-end.ensures)) ∙ c.loop-i.invariant
