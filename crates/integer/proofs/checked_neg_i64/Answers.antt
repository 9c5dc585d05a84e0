use Rattle.std.proofs.Common.{ap, ◌∙◌, neg_ℤ}
use Rattle.integer.specs.Defs.{checked}
use Rattle.integer.specs.Machine.{checked-from}
use Rattle.integer.specs.Z.{back}
use Rattle.integer.proofs.checked_neg_i64.Goals as goal

pub returns : goal.returns
returns c = checked-from _ _ c.checked_neg.ensures ∙ ap checked (ap neg_ℤ (back c.ranges.a))
