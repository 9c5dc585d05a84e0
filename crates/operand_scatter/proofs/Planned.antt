-- What a plan with an operand that fits a call holds. Assumes nothing.
use mathlib.Core.Path.{◌≡◌, sym, ap, ap₂, subst, ◌∙◌}
use mathlib.Core.Bool.{Bool, true}
use mathlib.Core.List.{List}
use Prim.Native.Nat.{ℕ}
use lib.IntN.{ℤ, pos}
use Rattle.integer.specs.Tests.{and-true, and_both}
use Rattle.indexing.specs.Coordinates as C
use Rattle.indexing.specs.Scatter.{Scatter}
use Rattle.layout.specs.declared.Reach.{Reach}
use Rattle.layout.specs.declared.View.{View}
use Rattle.layout.specs.Answers.{is_done, or_else, Answer}
use Rattle.layout.specs.Layouts.{rank_limit, padded, layout_of}
use Rattle.layout.specs.Reach.{buffer_bounds}
use Rattle.layout.proofs.First.{done-is}
use Rattle.checks.proofs.Made.{or-done}
use Rattle.calls.specs.Calls.{view_of, same_view, same_views, plan_refusal, reach_in}
use Rattle.calls.specs.Calls as calls
use Rattle.calls.proofs.Same.{same-view-is}
use Rattle.calls.proofs.Does.{plan-done}
use Rattle.scatter_plan.specs.declared.ScatterPlan.{ScatterPlan}
use Rattle.scatter_same.specs.Same as scatter-same
use Rattle.scatter_same.proofs.Compiled as scatter-compiled
use Rattle.scatter_move.specs.Prepared as scatters
use Rattle.scatter_move.specs.declared.PreparedScatter.{PreparedScatter}
use Rattle.scatter.specs.Calls.{scatter_of}
use Rattle.scatter.specs.Calls as scatter-calls
use Rattle.scatter.specs.Ready.{prepared_by}
use Rattle.scatter.proofs.Planned as scatter-planned
use Rattle.operand_checks.specs.Refusals.{sizes_refusal, sizes_of}
use Rattle.operand_plan.specs.declared.OperandPlan.{OperandPlan}
use Rattle.operand_plan.specs.Plan.{held_operand, held_scatter, is_compiled}
use Rattle.operand_plan.proofs.Compiled.{parts_are}
use Rattle.operand_calls.specs.Calls.{same_four, bounds_refusal}
use Rattle.operand_calls.specs.Prepared.{copy_of, Prepares}
use Rattle.operand_calls.proofs.Four.{operand-bounds, scatter-bounds}
use Rattle.operand_scatter.specs.Calls.{plan_fits, call_answer}
use Rattle.operand_scatter.specs.Copies.{copy_by}

-- ---- the answer of a call
pub answer-is : (p : OperandPlan) (b w : List (List ℤ)) (v : C.View) (s : Scatter) (on sn un dn : ℕ) {fits : Bool} {k x y z : Reach} {eight nine answer : Answer} → fits ≡ plan_fits p b w v s → eight ≡ plan_refusal fits
    → k ≡ reach_in v on → x ≡ reach_in s.indices sn → y ≡ reach_in s.updates un → z ≡ reach_in s.result dn
    → nine ≡ or_else (buffer_bounds 1 k) (or_else (buffer_bounds 2 x) (or_else (buffer_bounds 3 y) (buffer_bounds 4 z))) → answer ≡ or_else eight nine → answer ≡ call_answer p b w v s on sn un dn
answer-is p b w v s on sn un dn ef e8 ek ex ey ez e9 e =
    e ∙ ap₂ or_else (e8 ∙ ap plan_refusal ef) (e9 ∙ λ i. or_else (buffer_bounds 1 (ek i)) (or_else (buffer_bounds 2 (ex i)) (or_else (buffer_bounds 3 (ey i)) (buffer_bounds 4 (ez i)))))

-- ---- a call that is not refused
module _ (p : OperandPlan) (b w : List (List ℤ)) (o i u d : View) (on sn un dn : ℕ) (ok : is_done (call_answer p b w (view_of o) (scatter_of p.scatter i u d) on sn un dn) ≡ true) where
  abbrev v : C.View
  v = view_of o

  abbrev h : Scatter
  h = scatter_of p.scatter i u d

  abbrev four : Bool
  four = same_four v h (held_operand p) (held_scatter p)

  tests : (plan_fits p b w v h ≡ true) × (is_done (bounds_refusal v h on sn un dn) ≡ true)
  tests = let t = or-done (plan_refusal (plan_fits p b w v h)) _ ok in (plan-done (plan_fits p b w v h) t.0, t.1)

  views : (same_view v (held_operand p) ≡ true) × (same_views h.indices h.updates h.result (held_scatter p).indices (held_scatter p).updates (held_scatter p).result ≡ true)
  views = and-true (same_view v (held_operand p)) _ (and-true four (is_compiled p b w) tests.0).0

  parts : (is_done (sizes_of (held_operand p) (held_scatter p)) ≡ true) × (p.operand ≡ layout_of (held_operand p).extents (held_operand p).strides) × (scatter-same.is_compiled p.scatter b w ≡ true)
  parts = parts_are p b w (and-true four (is_compiled p b w) tests.0).1

  pub compiled : scatter-same.is_compiled p.scatter b w ≡ true
  compiled = parts.2

  -- the scatter without its operand is not refused either
  scatter-done : is_done (scatter-calls.call_answer p.scatter b w h sn un dn) ≡ true
  scatter-done =
      let f : scatter-calls.plan_fits p.scatter b w h ≡ true = and_both (same_views h.indices h.updates h.result (held_scatter p).indices (held_scatter p).updates (held_scatter p).result) _ views.1 compiled in
      ap (λ (t : Bool). is_done (or_else (plan_refusal t) (calls.bounds_refusal h.indices h.updates h.result sn un dn))) f ∙ scatter-bounds v h on sn un dn tests.1

  operand_same : (v.extents ≡ (held_operand p).extents) × (v.strides ≡ (held_operand p).strides)
  operand_same = same-view-is v (held_operand p) views.0

  result-same : (h.result.extents ≡ (held_scatter p).result.extents) × (h.result.strides ≡ (held_scatter p).result.strides)
  result-same =
      let t = and-true (same_view h.indices (held_scatter p).indices) _ views.1 in
      let k = and-true (same_view h.updates (held_scatter p).updates) _ t.1 in
      same-view-is h.result (held_scatter p).result k.1

  sizes : is_done (sizes_of v h) ≡ true
  sizes =
      let t = and-true (same_view h.indices (held_scatter p).indices) _ views.1 in
      let k = and-true (same_view h.updates (held_scatter p).updates) _ t.1 in
      let a = same-view-is h.indices (held_scatter p).indices t.0 in
      let c = same-view-is h.updates (held_scatter p).updates k.0 in
      let (eo, so) = operand_same in
      let (ed, sd) = result-same in
      (λ j. is_done (sizes_refusal (eo j) (so j) (a.0 j) (a.1 j) (c.0 j) (c.1 j) (ed j) (sd j))) ∙ parts.0

  pub prepared : (r : PreparedScatter) (reach : Reach) → r ≡ prepared_by p.scatter b i u d reach → reach ≡ reach_in h.result dn → Prepares r (call_answer p b w v h on sn un dn) v h on sn un dn
  prepared r reach e g =
      record {
        answered = ap (λ (q : PreparedScatter). q.answer) e ∙ sym (done-is (call_answer p b w v h on sn un dn) ok);
        ready = λ t. record {
          scatter = subst (λ (q : PreparedScatter). scatters.Ready q h sn un dn) (sym e) (scatter-planned.ready p.scatter b w i u d sn un dn scatter-done reach g);
          sizes = sizes;
          bounds = operand-bounds v h on sn un dn tests.1;
        };
      }

  -- the plan's layouts are those of the copy
  pub copy_is : copy_by p o.offset ≡ copy_of v h
  copy_is j =
      record {
        layout = (parts.1 ∙ ap₂ layout_of (sym operand_same.0) (sym operand_same.1)) j;
        strides = (ap (λ (q : ScatterPlan). q.dest.strides) (scatter-compiled.compiled-is p.scatter b w compiled).1 ∙ ap (λ (l : List ℤ). padded rank_limit (pos 0) l) (sym result-same.1)) j;
        offset = o.offset;
      }
