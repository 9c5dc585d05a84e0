-- To be believed. A call of a gather with a plan. Definitions only.
use Rattle.std.specs.Prelude.{Bool, ◌&&◌, List, ℕ, length, get_or, ℤ, pos}
use Rattle.indexing.specs.Coordinates.{tabulate}
use Rattle.indexing.specs.Gather.{Gather}
use Rattle.layout.specs.declared.View.{View}
use Rattle.layout.specs.Answers.{or_else, Answer}
use Rattle.layout.specs.Layouts.{rank_limit}
use Rattle.calls.specs.Calls.{view_of, same_views, plan_refusal, bounds_refusal, GatherCall}
use Rattle.gather_plan.specs.declared.Role.{Role}
use Rattle.gather_plan.specs.declared.Role.TheVariants.{Batch, Window}
use Rattle.gather_plan.specs.declared.GatherReplayAxis.{GatherReplayAxis}
use Rattle.gather_plan.specs.declared.GatherPlan.{GatherPlan}
use Rattle.gather_plan.specs.Plan.{no_axis, held_gather}
use Rattle.gather_same.specs.Same.{is_compiled}
use Rattle.gather.specs.declared.AxisMove.{AxisMove}
use Rattle.gather.specs.declared.Moves.{Moves}

-- the gather of a call: the plan's spec on the call's operand, index and destination
abbrev pub gather_of : GatherPlan → View → View → View → Gather
gather_of p o i d = record { spec = (held_gather p).spec; operand = view_of o; indices = view_of i; result = view_of d }

-- "a call's layout is not the plan's; or the plan is not what compile gives for the layouts and spec in it, 4 not tried again"
abbrev pub plan_fits : GatherPlan → Gather → Bool
plan_fits p g = same_views g.operand g.indices g.result (held_gather p).operand (held_gather p).indices (held_gather p).result && is_compiled p

-- "A call: 8, then 9 for views in turn (gather: operand 1, index 2, destination 3)", given the lengths of their slices
abbrev pub call_answer : GatherPlan → Gather → ℕ → ℕ → ℕ → Answer
call_answer p g on sn dn = or_else (plan_refusal (plan_fits p g)) (bounds_refusal g.operand g.indices g.result on sn dn)

-- A GATHER CALLED WITH A PLAN
abbrev pub by_plan : GatherPlan → View → View → View → List ℤ → GatherCall
by_plan p o i d starts = record { answer = λ on dn. call_answer p (gather_of p o i d) on (length starts) dn; gather = gather_of p o i d; starts = starts }

-- how an axis moves, by its role: a window axis goes along the operand and stands still in the index view, a batch axis the other way round
abbrev pub move_by : Role → ℤ → ℤ → AxisMove
move_by (Window k) window batch = record { window = window; batch = pos 0 }
move_by Batch window batch = record { window = pos 0; batch = batch }

abbrev pub move_of : GatherReplayAxis → AxisMove
move_of axis = move_by axis.role axis.window_step axis.index_batch_step

-- and how all axes of a plan do
unfoldable pub moves_of : List GatherReplayAxis → Moves
moves_of axes = record { window = tabulate rank_limit (λ a. (move_of (get_or axes a no_axis)).window); batch = tabulate rank_limit (λ a. (move_of (get_or axes a no_axis)).batch) }
