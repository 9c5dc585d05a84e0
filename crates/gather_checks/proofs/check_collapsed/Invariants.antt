use Rattle.std.proofs.Common.{◌≡◌, drop}
use Rattle.gather_checks.specs.Refusals.{collapsed_one}
use Rattle.gather_checks.proofs.check_collapsed.Given as goal

abbrev pub invariant-loop-axis : goal.invariant-loop-axis
invariant-loop-axis l = collapsed_one l.rank l.sizes (drop l.axis-index l.collapsed) ≡ collapsed_one l.rank l.sizes l.collapsed
