use lib.Ieee.{nan_bits}
use Rattle.std.proofs.Common.{rules}
use Rattle.stored_reader.proofs.elements.is_nan.Goals as goal

pub returns-then-exponent-eq2047 : goal.returns-then-exponent-eq2047
unfolding nan_bits
returns-then-exponent-eq2047 c = search rules

pub returns-else-exponent-eq2047 : goal.returns-else-exponent-eq2047
unfolding nan_bits
returns-else-exponent-eq2047 c = search rules
