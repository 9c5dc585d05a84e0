-- To be believed. A call of a scatter with a plan and the rows of its walks. Definitions only.
use Rattle.std.specs.Prelude.{Bool, ◌&&◌, List, ℕ, length, ℤ}
use Rattle.indexing.specs.Scatter.{Scatter}
use Rattle.layout.specs.declared.View.{View}
use Rattle.layout.specs.Answers.{or_else, Answer}
use Rattle.calls.specs.Calls.{view_of, same_views, plan_refusal, bounds_refusal, ScatterCall}
use Rattle.scatter_plan.specs.declared.ScatterPlan.{ScatterPlan}
use Rattle.scatter_plan.specs.Plan.{held_scatter}
use Rattle.scatter_same.specs.Same.{is_compiled}

-- the scatter of a call: the plan's spec on the call's index, updates and destination
abbrev pub scatter_of : ScatterPlan → View → View → View → Scatter
scatter_of p i u d = record { spec = (held_scatter p).spec; indices = view_of i; updates = view_of u; result = view_of d }

-- "a call's layout is not the plan's; or the plan is not what compile gives for the layouts and spec in it, 4 not tried again"; the rows of its walks are held beside it
abbrev pub plan_fits : ScatterPlan → List (List ℤ) → List (List ℤ) → Scatter → Bool
plan_fits p batch window s = same_views s.indices s.updates s.result (held_scatter p).indices (held_scatter p).updates (held_scatter p).result && is_compiled p batch window

-- "A call: 8, then 9 for views in turn (.. scatter: index 1, updates 2, destination 3)", given the lengths of their slices
abbrev pub call_answer : ScatterPlan → List (List ℤ) → List (List ℤ) → Scatter → ℕ → ℕ → ℕ → Answer
call_answer p batch window s sn un dn = or_else (plan_refusal (plan_fits p batch window s)) (bounds_refusal s.indices s.updates s.result sn un dn)

-- A SCATTER CALLED WITH A PLAN
abbrev pub by_plan : {A : Type 0} → ScatterPlan → List (List ℤ) → List (List ℤ) → View → View → View → List ℤ → List A → ScatterCall A
by_plan p batch window i u d starts updates =
    record { answer = λ n. call_answer p batch window (scatter_of p i u d) (length starts) (length updates) n; scatter = scatter_of p i u d; starts = starts; updates = updates }
