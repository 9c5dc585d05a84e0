-- To be believed. A call of a scatter with an operand: what it leaves in the destination's slice. Definitions only.
use Rattle.std.specs.Prelude.{Bool, ◌&&◌, List, ℕ, length}
use Rattle.indexing.specs.Coordinates.{View}
use Rattle.indexing.specs.Scatter.{Scatter, scattered}
use Rattle.indexing.specs.Operand.{operand_copied}
use Rattle.indexing.specs.Slid.{slid_scatter}
use Rattle.layout.specs.declared.CallAnswer.{CallAnswer}
use Rattle.layout.specs.Answers.{or_else, Answer}
use Rattle.layout.specs.Reach.{buffer_bounds}
use Rattle.calls.specs.Calls.{same_view, same_views, reach_in, ScatterCall, Does}

-- an operand as it is lent to a call: its view, and the elements of its slice
pub record Operand (A : Type 0) : Type 0 where
  pub view : View
  pub elements : List A

-- 8: whether the four views of a call have the layouts of the operand and of the scatter that were compiled for
abbrev pub same_four : View → Scatter → View → Scatter → Bool
same_four v h o s = same_view v o && same_views h.indices h.updates h.result s.indices s.updates s.result

-- 9: the operand "becomes view 1, ahead of the others": operand 1, index 2, updates 3, destination 4, given the lengths of their slices
abbrev pub bounds_refusal : View → Scatter → ℕ → ℕ → ℕ → ℕ → Answer
bounds_refusal o s on sn un dn =
    or_else (buffer_bounds 1 (reach_in o on)) (or_else (buffer_bounds 2 (reach_in s.indices sn)) (or_else (buffer_bounds 3 (reach_in s.updates un)) (buffer_bounds 4 (reach_in s.result dn))))

-- WHAT A SCATTER WITH AN OPERAND DOES by a rule: "the chart's value" is copied into each cell that the destination names, and the updates are put on that; z stands for an element
-- outside a slice
abbrev pub ScattersOn : {A B : Type 0} → A → (A → A → A) → (CallAnswer → B) → Operand A → ScatterCall A → List A → List A → B → Type 0
ScattersOn z rule says o c before after handed =
    Does says (c.answer (length before)) (slid_scatter c.scatter c.starts)
    (scattered rule z c.scatter c.starts c.updates (operand_copied z o.view c.scatter.result o.elements before)) before after handed
