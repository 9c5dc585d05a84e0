use Rattle.std.proofs.Common.{◌≡◌}
use Rattle.indexing.specs.Loops.{in_order}
use Rattle.rules.proofs.Each.{beside}
use Rattle.rules.proofs.Combine.apply_each.Given as goal

abbrev pub invariant-loop-i : goal.invariant-loop-i
invariant-loop-i g l = l.cells ≡ in_order (beside g.E.Element.absent (g.Self.Combine.combined l.self) l.updates) l.i l.fn.cells
