-- To be believed. A call of a scatter by lists: what compile is given, and apart from it the views of the call. Definitions only.
use Rattle.std.specs.Prelude.{List, ℕ, length, ℤ, Ok}
use Rattle.indexing.specs.Coordinates.{View}
use Rattle.indexing.specs.Scatter.{Scatter}
use Rattle.layout.specs.declared.Reach.{Reach}
use Rattle.layout.specs.Answers.{or_else, Answer}
use Rattle.calls.specs.Calls.{view_with, same_views, plan_refusal, bounds_refusal, ScatterCall}
use Rattle.scatter_checks.specs.Refusals.{batch_walk, compile_refusal}
use Rattle.scatter_move.specs.Prepared.{scatter_numbers, start_base, Prepares}
use Rattle.scatter_move.specs.declared.PreparedScatter.{PreparedScatter}

-- the scatter of a call: the spec on the call's index, updates and destination
abbrev pub on_views : Scatter → View → View → View → Scatter
on_views s x y z = record { spec = s.spec; indices = x; updates = y; result = z }

-- on views that have the layouts compiled for, and begin at a, b and c
abbrev pub placed : Scatter → ℤ → ℤ → ℤ → Scatter
placed s a b c = on_views s (view_with s.indices.extents s.indices.strides a) (view_with s.updates.extents s.updates.strides b) (view_with s.result.extents s.result.strides c)

-- compile's refusal; then 8 where a view has another layout than was compiled for; then 9 for the views in turn, given the lengths of their slices
abbrev pub lists_answer : Scatter → Scatter → ℕ → ℕ → ℕ → Answer
lists_answer s h sn un dn =
    or_else (compile_refusal s) (or_else (plan_refusal (same_views h.indices h.updates h.result s.indices s.updates s.result))
    (bounds_refusal h.indices h.updates h.result sn un dn))

-- A SCATTER CALLED BY LISTS: compiled as s, and called on these views
abbrev pub by_lists : {A : Type 0} → Scatter → View → View → View → List ℤ → List A → ScatterCall A
by_lists s x y z starts updates = record { answer = λ n. lists_answer s (on_views s x y z) (length starts) (length updates) n; scatter = on_views s x y z; starts = starts; updates = updates }

-- what is prepared for such a call: on any views, and on views that begin at a, b and c
abbrev pub ListedOn : PreparedScatter → Scatter → View → View → View → ℕ → ℕ → ℕ → Type 0
ListedOn r s x y z sn un dn = Prepares r (lists_answer s (on_views s x y z) sn un dn) (on_views s x y z) sn un dn

abbrev pub ListedAt : PreparedScatter → Scatter → ℤ → ℤ → ℤ → ℕ → ℕ → ℕ → Type 0
ListedAt r s a b c sn un dn = Prepares r (lists_answer s (placed s a b c) sn un dn) (placed s a b c) sn un dn

-- what is ready to be moved: the numbers of a scatter that is not refused, and where its views begin
abbrev pub prepared_at : Scatter → ℤ → ℤ → ℤ → Reach → PreparedScatter
prepared_at s a b c reach =
    record { answer = Ok tt; reach = reach; numbers = scatter_numbers s; batch_axes = (batch_walk s).axes; index = start_base (placed s a b c); updates = b; dest = c }
