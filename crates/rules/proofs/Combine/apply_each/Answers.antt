use Rattle.std.proofs.Common.{arith}
use Rattle.rules.proofs.Each.{before, after}
use Rattle.rules.proofs.Combine.apply_each.Goals as goal

pub loop-i-init : goal.loop-i-init
loop-i-init g c = before g.E.Element.absent (g.Self.Combine.combined c.args.self) c.args.updates.now c.args.cells.now

pub loop-i-preserved : goal.loop-i-preserved
loop-i-preserved g c =
    after g.E.Element.absent (g.Self.Combine.combined c.args.self) c.args.updates.now c.args.cells.now c.loop-i.cells c.loop-i.i _ _ c.apply.result c.loop-i.invariant (omega arith) (omega arith) c.index-cells-i.is c.index-updates-i.is c.apply.ensures
