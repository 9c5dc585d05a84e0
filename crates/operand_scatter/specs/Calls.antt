-- To be believed. A call of a scatter with an operand by a plan and the rows of its walks. Definitions only.
use Rattle.std.specs.Prelude.{Bool, ◌&&◌, List, ℕ, length, ℤ}
use Rattle.indexing.specs.Coordinates as C
use Rattle.indexing.specs.Scatter.{Scatter}
use Rattle.layout.specs.declared.View.{View}
use Rattle.layout.specs.Answers.{or_else, Answer}
use Rattle.calls.specs.Calls.{view_of, plan_refusal, ScatterCall}
use Rattle.operand_calls.specs.Calls.{same_four, bounds_refusal}
use Rattle.operand_plan.specs.declared.OperandPlan.{OperandPlan}
use Rattle.operand_plan.specs.Plan.{held_operand, held_scatter, is_compiled}
use Rattle.scatter.specs.Calls.{scatter_of}

-- "a call's layout is not the plan's; or the plan is not what compile gives for the layouts and spec in it, 4 not tried again"
abbrev pub plan_fits : OperandPlan → List (List ℤ) → List (List ℤ) → C.View → Scatter → Bool
plan_fits p batch window v s = same_four v s (held_operand p) (held_scatter p) && is_compiled p batch window

-- "A call: 8, then 9 for views in turn", the operand's first, given the lengths of their slices
abbrev pub call_answer : OperandPlan → List (List ℤ) → List (List ℤ) → C.View → Scatter → ℕ → ℕ → ℕ → ℕ → Answer
call_answer p batch window v s on sn un dn = or_else (plan_refusal (plan_fits p batch window v s)) (bounds_refusal v s on sn un dn)

-- A SCATTER WITH AN OPERAND CALLED WITH A PLAN; the operand's slice has n elements
abbrev pub by_plan : {A : Type 0} → OperandPlan → List (List ℤ) → List (List ℤ) → View → View → View → View → ℕ → List ℤ → List A → ScatterCall A
by_plan p batch window o i u d n starts updates =
    record {
      answer = λ m. call_answer p batch window (view_of o) (scatter_of p.scatter i u d) n (length starts) (length updates) m;
      scatter = scatter_of p.scatter i u d;
      starts = starts;
      updates = updates;
    }
