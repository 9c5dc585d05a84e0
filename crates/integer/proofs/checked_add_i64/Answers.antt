use Rattle.std.proofs.Common.{ap, ap₂, ◌∙◌, ◌+ℤ◌}
use Rattle.integer.specs.Defs.{checked}
use Rattle.integer.specs.Machine.{checked-from}
use Rattle.integer.specs.Z.{back}
use Rattle.integer.proofs.checked_add_i64.Goals as goal

pub returns : goal.returns
returns c = checked-from _ _ c.checked_add.ensures ∙ ap checked (ap₂ ◌+ℤ◌ (back c.ranges.a) (back c.ranges.b))
