-- To be believed. A call of a gather by lists: what compile is given, and apart from it the views of the call. Definitions only.
use Rattle.std.specs.Prelude.{List, ℕ, length, ℤ}
use Rattle.indexing.specs.Coordinates.{View}
use Rattle.indexing.specs.Gather.{Gather}
use Rattle.layout.specs.Answers.{or_else, Answer}
use Rattle.calls.specs.Calls.{view_with, same_views, plan_refusal, bounds_refusal, GatherCall}
use Rattle.gather_checks.specs.Refusals.{compile_refusal}
use Rattle.gather_move.specs.Prepared.{Prepares}
use Rattle.gather_move.specs.declared.PreparedGather.{PreparedGather}

-- the gather of a call: the spec on the call's operand, index and destination
abbrev pub on_views : Gather → View → View → View → Gather
on_views g x y z = record { spec = g.spec; operand = x; indices = y; result = z }

-- on views that have the layouts compiled for, and begin at a, b and c
abbrev pub placed : Gather → ℤ → ℤ → ℤ → Gather
placed g a b c = on_views g (view_with g.operand.extents g.operand.strides a) (view_with g.indices.extents g.indices.strides b) (view_with g.result.extents g.result.strides c)

-- compile's refusal; then 8 where a view has another layout than was compiled for; then 9 for the views in turn, given the lengths of their slices
abbrev pub lists_answer : Gather → Gather → ℕ → ℕ → ℕ → Answer
lists_answer g h on sn dn =
    or_else (compile_refusal g) (or_else (plan_refusal (same_views h.operand h.indices h.result g.operand g.indices g.result))
    (bounds_refusal h.operand h.indices h.result on sn dn))

-- A GATHER CALLED BY LISTS: compiled as g, and called on these views
abbrev pub by_lists : Gather → View → View → View → List ℤ → GatherCall
by_lists g x y z starts = record { answer = λ on dn. lists_answer g (on_views g x y z) on (length starts) dn; gather = on_views g x y z; starts = starts }

-- what is prepared for such a call: on any views, and on views that begin at a, b and c
abbrev pub ListedOn : PreparedGather → Gather → View → View → View → ℕ → ℕ → ℕ → Type 0
ListedOn r g x y z on sn dn = Prepares r (lists_answer g (on_views g x y z) on sn dn) (on_views g x y z) on sn dn

abbrev pub ListedAt : PreparedGather → Gather → ℤ → ℤ → ℤ → ℕ → ℕ → ℕ → Type 0
ListedAt r g a b c on sn dn = Prepares r (lists_answer g (placed g a b c) on sn dn) (placed g a b c) on sn dn
