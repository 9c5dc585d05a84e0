use Rattle.std.proofs.Common.{◌∙◌}
use Rattle.integer.specs.Machine.{checked-ok}
use Rattle.integer.proofs.u64_to_i64.Goals as goal

pub returns : goal.returns
returns c = c.ok.ensures.value ∙ checked-ok _ _ c.try_from.ensures
