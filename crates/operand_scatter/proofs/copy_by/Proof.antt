use mathlib.Core.Path.{ap}
use Rattle.integer.specs.Z.{back}
use Rattle.operand_scatter.specs.Copies.{copy_by}
use Rattle.operand_scatter.proofs.copy_by.Statement.{statement}
use Rattle.operand_scatter.proofs.copy_by.Tie as tie

returns : tie.Need-returns
returns c = let s = c in ap (copy_by s.args.plan) (back s.ranges.offset)

pub copy_by_spec : {M : Type 1} → statement M
copy_by_spec = tie.close (tie.spec returns)
