use Rattle.integer.specs.Machine.{checked_u-from}
use Rattle.integer.proofs.checked_mul_u64.Goals as goal

pub returns : goal.returns
returns c = checked_u-from _ _ c.checked_mul.ensures
