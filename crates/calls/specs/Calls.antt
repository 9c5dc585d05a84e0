-- To be believed. A call: what it answers, and what it leaves in the destination's slice. Definitions only.
use Rattle.std.specs.Prelude.{◌≡◌, Bool, cond, ◌&&◌, List, ℕ, eqb, length, ℤ, Ok, Err}
use Rattle.integer.specs.Defs.{eq_z}
use Rattle.indexing.specs.Coordinates as C
use Rattle.indexing.specs.Gather.{Gather, gathered}
use Rattle.indexing.specs.Scatter.{Scatter, scattered}
use Rattle.indexing.specs.Slid.{slid_gather, slid_scatter}
use Rattle.layout.specs.declared.CallAnswer.{CallAnswer}
use Rattle.layout.specs.declared.Reach.{Reach}
use Rattle.layout.specs.declared.View.{View}
use Rattle.layout.specs.Answers.{is_done, or_else, Answer}
use Rattle.layout.specs.Layouts.{extents_of, strides_of}
use Rattle.layout.specs.Reach.{view_reach, buffer_bounds}
use Rattle.equality.specs.Same.{same_by}
use Rattle.layout.specs.declared.Refusal.TheVariants as F

-- a view by value as the view that it is
abbrev pub view_of : View → C.View
view_of v = record { extents = extents_of v.layout; strides = strides_of v.layout; offset = v.offset }

-- a view by its extents, strides and offset
abbrev pub view_with : List ℕ → List ℤ → ℤ → C.View
view_with es ss at = record { extents = es; strides = ss; offset = at }

-- whether two views have the same layout: "a layout is extents with strides"
abbrev pub same_view : C.View → C.View → Bool
same_view v w = same_by eqb v.extents w.extents && same_by eq_z v.strides w.strides

-- and three views with three others, in turn
abbrev pub same_views : C.View → C.View → C.View → C.View → C.View → C.View → Bool
same_views x y z u v w = same_view x u && (same_view y v && same_view z w)

-- 8: "a call's layout is not the plan's; or (added) the plan is not what compile gives"
abbrev pub plan_refusal : Bool → Answer
plan_refusal fits = cond fits (Ok tt) (Err F.PlanLayoutMismatch)

-- where a view's cells lie in a slice of so many elements
abbrev pub reach_in : C.View → ℕ → Reach
reach_in v len = view_reach v.extents v.strides v.offset len

-- "then 9 for views in turn", given the lengths of their slices
abbrev pub bounds_refusal : C.View → C.View → C.View → ℕ → ℕ → ℕ → Answer
bounds_refusal x y z l m n = or_else (buffer_bounds 1 (reach_in x l)) (or_else (buffer_bounds 2 (reach_in y m)) (buffer_bounds 3 (reach_in z n)))

-- a gather as it is called: what it is answered, given how many elements the operand's and the destination's slices have; the gather, its starts
pub record GatherCall : Type 0 where
  pub answer : ℕ → ℕ → Answer
  pub gather : Gather
  pub starts : List ℤ

-- a scatter as it is called: what it is answered, given how many elements the destination's slice has; the scatter, its starts, its updates
pub record ScatterCall (A : Type 0) : Type 0 where
  pub answer : ℕ → Answer
  pub scatter : Scatter
  pub starts : List ℤ
  pub updates : List A

-- the answer of a call, with the number that it reports where it is done; 0 where it is refused
abbrev pub answer_with : Answer → ℕ → CallAnswer
answer_with x number = record { answer = x; reported = cond (is_done x) number 0 }

-- WHAT A CALL DOES, by its answer, by the number that it reports where it is done and by what it then leaves: it hands back the answer with the number, as
-- `says` puts them, and the destination's slice holds that; a refusal changes no element
pub record Does {A B : Type 0} (says : CallAnswer → B) (answer : Answer) (number : ℕ) (leaves before after : List A) (handed : B) : Type 0 where
  pub answered : handed ≡ says (answer_with answer number)
  pub left : after ≡ cond (is_done answer) leaves before

-- the answer and the number themselves
abbrev pub as_is : CallAnswer → CallAnswer
as_is x = x

-- what a gather does with an operand, and what a scatter does by a rule; z stands for an element outside a slice
abbrev pub Gathers : {A B : Type 0} → A → (CallAnswer → B) → GatherCall → List A → List A → List A → B → Type 0
Gathers z says c operand before after handed =
    Does says (c.answer (length operand) (length before)) (slid_gather c.gather c.starts) (gathered z c.gather c.starts operand before) before after handed

abbrev pub Scatters : {A B : Type 0} → A → (A → A → A) → (CallAnswer → B) → ScatterCall A → List A → List A → B → Type 0
Scatters z rule says c before after handed =
    Does says (c.answer (length before)) (slid_scatter c.scatter c.starts) (scattered rule z c.scatter c.starts c.updates before) before after handed
