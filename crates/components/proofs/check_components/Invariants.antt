use Rattle.std.proofs.Common.{◌≡◌, ◌-◌}
use Rattle.checks.specs.Checks.{first_of, offset_fits}
use Rattle.components.proofs.check_components.Given as goal

abbrev pub invariant-loop-component : goal.invariant-loop-component
invariant-loop-component l = first_of (offset_fits l.stride) (l.count - l.component) l.component ≡ first_of (offset_fits l.stride) l.count 0
