-- To be believed. The plan of a scatter with an operand by value, what compile gives, and whether a plan is compiled: "the plan .. holds the operand's layout too". Definitions only.
use Rattle.std.specs.Prelude.{Bool, cond, ◌&&◌, List, ℤ, Ok}
use Rattle.indexing.specs.Coordinates.{View}
use Rattle.indexing.specs.Scatter.{Scatter}
use Rattle.layout.specs.Answers.{is_done, Answer}
use Rattle.layout.specs.Layouts.{layout_of, extents_of, strides_of}
use Rattle.equality.specs.Same.{same_layout}
use Rattle.checks.specs.Checks.{view_from}
use Rattle.checks.specs.Nothing.{no_layout}
use Rattle.operand_checks.specs.Refusals.{refusal_of, compile_refusal}
use Rattle.scatter_plan.specs.Plan as scatters
use Rattle.scatter_same.specs.Same.{same_plan, has_rows}
use Rattle.operand_plan.specs.declared.OperandPlan.{OperandPlan}
use Rattle.operand_plan.specs.declared.CompiledOperand.{CompiledOperand}

-- what compile gives, by its refusal: the scatter's plan with that as its answer, and where there is none the operand's layout
unfoldable pub compiled_by : Answer → View → Scatter → CompiledOperand
compiled_by x o s = record { operand = cond (is_done x) (layout_of o.extents o.strides) no_layout; scatter = scatters.compiled_by x s }

abbrev pub compiled_operand : View → Scatter → CompiledOperand
compiled_operand o s = compiled_by (compile_refusal o s) o s

-- "4 not tried again"
abbrev pub compiled_again : View → Scatter → CompiledOperand
compiled_again o s = compiled_by (refusal_of (Ok tt) o s) o s

-- the operand and the scatter that the layouts and the spec in a plan describe
abbrev pub held_operand : OperandPlan → View
held_operand p = view_from (extents_of p.operand) (strides_of p.operand)

abbrev pub held_scatter : OperandPlan → Scatter
held_scatter p = scatters.held_scatter p.scatter

-- "the plan is .. what compile gives for the layouts and spec in it, 4 not tried again", and the rows are those that it gives beside it
unfoldable pub is_compiled : OperandPlan → List (List ℤ) → List (List ℤ) → Bool
is_compiled p b w =
    is_done (compiled_again (held_operand p) (held_scatter p)).scatter.answer && (same_layout p.operand (compiled_again (held_operand p) (held_scatter p)).operand
    && (same_plan p.scatter (compiled_again (held_operand p) (held_scatter p)).scatter.plan && has_rows (compiled_again (held_operand p) (held_scatter p)).scatter b w))
