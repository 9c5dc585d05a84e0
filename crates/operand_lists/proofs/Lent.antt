-- What a call by lists of a scatter with an operand decides. Assumes nothing.
use mathlib.Core.Path.{◌≡◌, refl, sym, ap, subst, ◌∙◌}
use mathlib.Core.Bool.{Bool, true, false, cond}
use Prim.Native.Nat.{ℕ}
use lib.IntN.{ℤ}
use Rattle.integer.specs.Tests.{and-true, and_both}
use Rattle.indexing.specs.Coordinates.{View}
use Rattle.indexing.specs.Scatter.{Scatter}
use Rattle.layout.specs.declared.Reach.{Reach}
use Rattle.layout.specs.Answers.{is_done, or_else, Answer}
use Rattle.layout.specs.Reach.{buffer_bounds}
use Rattle.layout.proofs.First.{done-is}
use Rattle.replay.specs.declared.CompiledReplay.{CompiledReplay}
use Rattle.checks.specs.Checks.{nested_refusal}
use Rattle.checks.proofs.Held.{never}
use Rattle.checks.proofs.Made.{or-done}
use Rattle.calls.specs.Calls.{view_with, same_view, same_views, plan_refusal, reach_in}
use Rattle.calls.specs.Calls as calls
use Rattle.calls.proofs.Same.{same-view-is, view-same}
use Rattle.calls.proofs.Does.{plan-done}
use Rattle.scatter_checks.specs.Refusals as scatter-refusals
use Rattle.operand_checks.specs.Refusals.{compile_refusal}
use Rattle.operand_checks.specs.Examine.{FoundOn}
use Rattle.operand_checks.proofs.Sizes.{both-done, or_assoc, without-operand}
use Rattle.scatter_move.specs.Prepared as scatters
use Rattle.scatter_move.specs.declared.PreparedScatter.{PreparedScatter}
use Rattle.scatter_lists.specs.Lists.{on_views, placed, prepared_at}
use Rattle.scatter_lists.specs.Lists as scatter-lists
use Rattle.scatter_lists.proofs.Lent.{ready_at, same-placed, views-are, refuses}
use Rattle.operand_calls.specs.Calls.{same_four, bounds_refusal}
use Rattle.operand_calls.specs.Prepared.{Prepares}
use Rattle.operand_calls.proofs.Four.{operand-bounds, scatter-bounds}
use Rattle.operand_lists.specs.Lists.{lists_answer}

-- where one of two answers refuses, those after it are not asked
first_two : (x y w : Answer) → is_done (or_else x y) ≡ false → or_else x (or_else y w) ≡ or_else x y
first_two x y w n = sym (or_assoc x y w) ∙ ap (λ (t : Bool). cond t w (or_else x y)) n

-- ---- views that have the layouts compiled for
module _ (o : View) (s : Scatter) (e a b c : ℤ) where
  abbrev v : View
  v = view_with o.extents o.strides e

  abbrev h : Scatter
  h = placed s a b c

  same-four : same_four v h o s ≡ true
  same-four = and_both (same_view v o) _ (view-same v o refl refl) (same-placed s a b c)

  module _ (on sn un dn : ℕ) where
    answer-placed : or_else (compile_refusal o s) (bounds_refusal v h on sn un dn) ≡ lists_answer o s v h on sn un dn
    answer-placed = sym (ap (λ (t : Bool). or_else (compile_refusal o s) (or_else (plan_refusal t) (bounds_refusal v h on sn un dn))) same-four)

    -- compile does not, and the four views have these reaches
    module _ {first nine : Answer} {w x y z : Reach} (ef : first ≡ compile_refusal o s) (td : is_done first ≡ true) (ew : w ≡ reach_in v on) (ex : x ≡ reach_in h.indices sn) (ey : y ≡ reach_in h.updates un) (ez : z ≡ reach_in h.result dn)
        (en : nine ≡ or_else (buffer_bounds 1 w) (or_else (buffer_bounds 2 x) (or_else (buffer_bounds 3 y) (buffer_bounds 4 z)))) where
      bounds-are : nine ≡ bounds_refusal v h on sn un dn
      bounds-are = en ∙ λ i. or_else (buffer_bounds 1 (ew i)) (or_else (buffer_bounds 2 (ex i)) (or_else (buffer_bounds 3 (ey i)) (buffer_bounds 4 (ez i))))

      answer-is : nine ≡ lists_answer o s v h on sn un dn
      answer-is = bounds-are ∙ sym (ap (λ (t : Bool). cond t (bounds_refusal v h on sn un dn) (compile_refusal o s)) (ap is_done (sym ef) ∙ td)) ∙ answer-placed

      pub second-refusal : (r : PreparedScatter) → r.answer ≡ nine → is_done nine ≡ false → Prepares r (lists_answer o s v h on sn un dn) v h on sn un dn
      second-refusal r q n = record { answered = q ∙ answer-is; ready = λ d. never (sym d ∙ ap is_done (sym answer-is) ∙ n) }

      pub prepared : {batch window : CompiledReplay} → FoundOn o s batch window → is_done nine ≡ true → (r : PreparedScatter) → r ≡ prepared_at s a b c z → Prepares r (lists_answer o s v h on sn un dn) v h on sn un dn
      prepared q d r es =
          let p = ap is_done (sym bounds-are) ∙ d in
          record {
            answered = ap (λ (x : PreparedScatter). x.answer) es ∙ sym (done-is nine d) ∙ answer-is;
            ready = λ t. record {
              scatter = subst (λ (x : PreparedScatter). scatters.Ready x h sn un dn) (sym es) (ready_at s a b c q.scatter.accepted sn un dn z ez (scatter-bounds v h on sn un dn p));
              sizes = q.sizes;
              bounds = operand-bounds v h on sn un dn p;
            };
          }

-- ---- any views
module _ (o : View) (s : Scatter) (v x y z : View) (on sn un dn : ℕ) where
  pub same-views : (r : PreparedScatter) {t : Bool} → t ≡ same_four v (on_views s x y z) o s → t ≡ true
      → Prepares r (lists_answer o s (view_with o.extents o.strides v.offset) (placed s x.offset y.offset z.offset) on sn un dn) (view_with o.extents o.strides v.offset) (placed s x.offset y.offset z.offset) on sn un dn
      → Prepares r (lists_answer o s v (on_views s x y z) on sn un dn) v (on_views s x y z) on sn un dn
  same-views r e d p =
      let t = and-true (same_view v o) (same_views x y z s.indices s.updates s.result) (sym e ∙ d) in
      let q = same-view-is v o t.0 in
      let k : view_with o.extents o.strides v.offset ≡ v = λ i. view_with (sym q.0 i) (sym q.1 i) v.offset in
      subst (λ (u : View). Prepares r (lists_answer o s u (on_views s x y z) on sn un dn) u (on_views s x y z) on sn un dn) k
      (subst (λ (h : Scatter). Prepares r (lists_answer o s (view_with o.extents o.strides v.offset) h on sn un dn) (view_with o.extents o.strides v.offset) h on sn un dn) (views-are s x y z sn un dn t.1) p)

  -- whether they have the layouts, what compile answers, 8, and the first of the two that refuses
  module _ {t : Bool} {first eight answer : Answer} (e : t ≡ same_four v (on_views s x y z) o s) (ef : first ≡ compile_refusal o s) (ee : eight ≡ plan_refusal t) (ea : answer ≡ or_else first eight) where
    answer-is-first : answer ≡ or_else (compile_refusal o s) (plan_refusal (same_four v (on_views s x y z) o s))
    answer-is-first = ea ∙ λ i. or_else (ef i) ((ee ∙ ap plan_refusal e) i)

    pub refused-first : (r : PreparedScatter) → r.answer ≡ answer → is_done answer ≡ false → Prepares r (lists_answer o s v (on_views s x y z) on sn un dn) v (on_views s x y z) on sn un dn
    refused-first r q n =
        let l : lists_answer o s v (on_views s x y z) on sn un dn ≡ answer = first_two (compile_refusal o s) (plan_refusal (same_four v (on_views s x y z) o s)) _ (ap is_done (sym answer-is-first) ∙ n) ∙ sym answer-is-first in
        record { answered = q ∙ sym l; ready = λ d. never (sym d ∙ ap is_done l ∙ n) }

    pub passed_first : is_done answer ≡ true → (is_done first ≡ true) × (t ≡ true)
    passed_first d = let p = or-done first eight (ap is_done (sym ea) ∙ d) in (p.0, plan-done t (ap is_done (sym ee) ∙ p.1))

-- ---- a call that is accepted with the operand is accepted without it
pub alone-done : (o : View) (s : Scatter) (v : View) (h : Scatter) (on sn un dn : ℕ) → is_done (lists_answer o s v h on sn un dn) ≡ true → is_done (scatter-lists.lists_answer s h sn un dn) ≡ true
alone-done o s v h on sn un dn e =
    let t = or-done (compile_refusal o s) _ e in
    let u = or-done (plan_refusal (same_four v h o s)) _ t.1 in
    let views = same_views h.indices h.updates h.result s.indices s.updates s.result in
    let w : views ≡ true = (and-true (same_view v o) views (plan-done (same_four v h o s) u.0)).1 in
    both-done (scatter-refusals.compile_refusal s) _ (without-operand (nested_refusal s.result.extents s.result.strides) o s t.0)
    (both-done (plan_refusal views) (calls.bounds_refusal h.indices h.updates h.result sn un dn) (ap (λ (b : Bool). is_done (plan_refusal b)) w) (scatter-bounds v h on sn un dn u.1))
