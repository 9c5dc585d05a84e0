-- What a call with a plan copies. Definitions only.
use Rattle.std.specs.Prelude.{ℤ}
use Rattle.operand_plan.specs.declared.OperandPlan.{OperandPlan}
use Rattle.operand_calls.specs.declared.PreparedCopy.{PreparedCopy}

-- the plan's layout of the operand, its destination's strides, and where the operand begins
abbrev pub copy_by : OperandPlan → ℤ → PreparedCopy
copy_by p at = record { layout = p.operand; strides = p.scatter.dest.strides; offset = at }
