use Rattle.std.proofs.Common.{◌≡◌}
use Rattle.gather_plan.specs.Plan.{role_of}
use Rattle.gather_plan.proofs.Roles.{left}
use Rattle.gather_plan.proofs.role_at.Given as goal

abbrev pub invariant-loop-i : goal.invariant-loop-i
invariant-loop-i l = left l.offset_dims l.entries l.axis l.i ≡ role_of l.offset_dims l.entries l.axis
