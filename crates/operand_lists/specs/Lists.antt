-- To be believed. A call by lists of a scatter with an operand: what compile is given, and apart from it the views of the call. Definitions only.
use Rattle.std.specs.Prelude.{List, ℕ, length, ℤ}
use Rattle.indexing.specs.Coordinates.{View}
use Rattle.indexing.specs.Scatter.{Scatter}
use Rattle.layout.specs.Answers.{or_else, Answer}
use Rattle.calls.specs.Calls.{plan_refusal, ScatterCall}
use Rattle.operand_checks.specs.Refusals.{compile_refusal}
use Rattle.scatter_move.specs.declared.PreparedScatter.{PreparedScatter}
use Rattle.scatter_lists.specs.Lists.{on_views}
use Rattle.operand_calls.specs.Calls.{same_four, bounds_refusal}
use Rattle.operand_calls.specs.Prepared.{Prepares}

-- compile's refusal; then 8 where a view has another layout than was compiled for; then 9 for the views in turn, given the lengths of their slices
abbrev pub lists_answer : View → Scatter → View → Scatter → ℕ → ℕ → ℕ → ℕ → Answer
lists_answer o s v h on sn un dn = or_else (compile_refusal o s) (or_else (plan_refusal (same_four v h o s)) (bounds_refusal v h on sn un dn))

-- A SCATTER WITH AN OPERAND CALLED BY LISTS: compiled for the layout o and as s, and called on these views; the operand's slice has n elements
abbrev pub by_lists : {A : Type 0} → View → Scatter → View → View → View → View → ℕ → List ℤ → List A → ScatterCall A
by_lists o s v x y z n starts updates =
    record { answer = λ m. lists_answer o s v (on_views s x y z) n (length starts) (length updates) m; scatter = on_views s x y z; starts = starts; updates = updates }

-- what is prepared for such a call
abbrev pub ListedOn : PreparedScatter → View → Scatter → View → View → View → View → ℕ → ℕ → ℕ → ℕ → Type 0
ListedOn r o s v x y z on sn un dn = Prepares r (lists_answer o s v (on_views s x y z) on sn un dn) v (on_views s x y z) on sn un dn
