use Rattle.integer.specs.Wrap.{wrapped-sum}
use Rattle.integer.proofs.wrapping_add_i32.Goals as goal

pub returns : goal.returns
returns c = wrapped-sum _ _ c.ranges.a c.ranges.b
