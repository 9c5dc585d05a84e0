-- What a call by lists decides. Assumes nothing.
use Rattle.std.specs.Prelude.{Ok, Err}
use mathlib.Core.Path.{◌≡◌, refl, sym, ap, subst, ◌∙◌}
use mathlib.Core.Bool.{Bool, true, false, cond}
use mathlib.Core.List.{List}
use Prim.Native.Nat.{ℕ, min}
use lib.ListN.{length, take, replicate}
use lib.IntN.{ℤ, pos}
use Rattle.integer.specs.Tests.{and-true, and_both}
use Rattle.indexing.specs.Coordinates.{View, rank, pick, spread, others, tabulate}
use Rattle.indexing.specs.Scatter.{Scatter, scatter_dims, window_dims, batch_shape, window_shape, windows}
use Rattle.indexing.specs.Steps.{vector_stride, update_batch_steps, update_window_steps, land_steps}
use Rattle.layout.specs.declared.Reach.{Reach}
use Rattle.layout.specs.Answers.{is_done, or_else, Answer}
use Rattle.layout.specs.Layouts.{rank_limit, padded}
use Rattle.layout.specs.Reach.{buffer_bounds}
use Rattle.layout.proofs.First.{done-is}
use Rattle.axis_lists.specs.Held.{held_steps, Steps}
use Rattle.replay.specs.Replays.{rows_of}
use Rattle.replay.specs.declared.CompiledReplay.{CompiledReplay}
use Rattle.checks.specs.Values.{value_of_u, offset_or, total_or}
use Rattle.checks.proofs.Held.{never}
use Rattle.components.specs.Components.{limit_at, unless_none}
use Rattle.calls.specs.Calls.{view_with, same_view, same_views, plan_refusal, reach_in, bounds_refusal}
use Rattle.calls.proofs.Same.{same-view-is, view-same}
use Rattle.scatter_checks.specs.Refusals.{batch_walk, window_walk, spec_refusal, refusal_of, compile_refusal}
use Rattle.scatter_checks.specs.Examine.{Found}
use Rattle.scatter_plan.proofs.Accepted.{Accepted, accepted, offsets_are, map_is}
use Rattle.scatter_move.specs.Prepared.{steps_at, scatter_numbers, start_base, Ready, Prepares}
use Rattle.scatter_move.specs.declared.ScatterNumbers.{ScatterNumbers}
use Rattle.scatter_move.specs.declared.PreparedScatter.{PreparedScatter}
use Rattle.scatter_lists.specs.Lists.{on_views, placed, lists_answer, prepared_at}
use Rattle.layout.specs.declared.Refusal.TheVariants as F

-- ---- the numbers by what was found
module _ (s : Scatter) (batch window : CompiledReplay) (q : Found s batch window) where
  pub fits : Accepted s
  fits = accepted s (Ok tt) q.accepted

  -- as many window axes as the destination has axes that are not inserted
  pub counted : length s.spec.update-window-dims ≡ length (others (rank s.result) s.spec.inserted-window-dims)
  unfolding window_dims
  counted = fits.counts.window

  abbrev map : List ℕ
  map = s.spec.scatter-dims-to-operand-dims

  pub numbers-are : (br wr : List (List ℤ)) (is st us ws ds : List ℤ) (offsets : Steps) (strides : List ℤ) (limits : List ℕ) (batches : ℕ)
      → br ≡ rows_of batch.axes → wr ≡ rows_of window.axes → is ≡ steps_at 0 br
      → st ≡ unless_none (length map) (replicate rank_limit (pos 0)) is → us ≡ steps_at 2 br → ws ≡ steps_at 0 wr → ds ≡ steps_at 2 wr
      → offsets ≡ held_steps (tabulate (min (length map) rank_limit) (offset_or (vector_stride s.indices s.spec.index-vector-dim)))
      → strides ≡ padded rank_limit (pos 0) (pick (pos 0) (take rank_limit map) s.result.strides)
      → limits ≡ tabulate rank_limit (limit_at s.result.extents (spread 1 (rank s.result) (others (rank s.result) s.spec.inserted-window-dims) (pick 0 s.spec.update-window-dims s.updates.extents)) map)
      → batches ≡ total_or (pick 0 (others (rank s.updates) s.spec.update-window-dims) s.updates.extents)
      → ◌≡◌ {A = ScatterNumbers}
      (record { batch_rank = batch.replay.rank; batches = batches; batch_extents = batch.replay.extents; index_steps = st; update_steps = us; window_rank = window.replay.rank; window_extents = window.replay.extents; window_steps = ws; dest_steps = ds; count = length map; offsets = offsets.entries; strides = strides; limits = limits })
      (scatter_numbers s)
  unfolding scatter_numbers windows window_shape window_dims batch_shape scatter_dims
  numbers-are br wr is st us ws ds offsets strides limits batches ebr ewr eis est eus ews eds eo es el eb =
      let rb = ebr ∙ ap (λ (r : CompiledReplay). rows_of r.axes) q.batch-is in
      let rw' = ewr ∙ ap (λ (r : CompiledReplay). rows_of r.axes) q.window-is in
      λ i. record {
        batch_rank = (q.batch-is i).replay.rank;
        batches = (eb ∙ ap value_of_u fits.batches) i;
        batch_extents = (q.batch-is i).replay.extents;
        index_steps = (est ∙ ap (unless_none (length map) (replicate rank_limit (pos 0))) (eis ∙ ap (steps_at 0) rb)) i;
        update_steps = (eus ∙ ap (steps_at 2) rb) i;
        window_rank = (q.window-is i).replay.rank;
        window_extents = (q.window-is i).replay.extents;
        window_steps = (ews ∙ ap (steps_at 0) rw') i;
        dest_steps = (eds ∙ ap (steps_at 2) rw') i;
        count = length map;
        offsets = ap (λ (l : Steps). l.entries) (eo ∙ ap held_steps (offsets_are s fits)) i;
        strides = (es ∙ ap (λ (l : List ℕ). padded rank_limit (pos 0) (pick (pos 0) l s.result.strides)) (map_is s fits)) i;
        limits = el i;
      }

-- ---- views that have the layouts compiled for
module _ (s : Scatter) (a b c : ℤ) where
  abbrev h : Scatter
  h = placed s a b c

  pub same-placed : same_views h.indices h.updates h.result s.indices s.updates s.result ≡ true
  same-placed =
      and_both (same_view h.indices s.indices) _ (view-same h.indices s.indices refl refl)
      (and_both (same_view h.updates s.updates) _ (view-same h.updates s.updates refl refl) (view-same h.result s.result refl refl))

  pub placed-answer : (sn un dn : ℕ) → or_else (compile_refusal s) (bounds_refusal h.indices h.updates h.result sn un dn) ≡ lists_answer s h sn un dn
  placed-answer sn un dn = sym (ap (λ (t : Bool). or_else (compile_refusal s) (or_else (plan_refusal t) (bounds_refusal h.indices h.updates h.result sn un dn))) same-placed)

  done-placed : is_done (refusal_of (Ok tt) s) ≡ true → is_done (refusal_of (Ok tt) h) ≡ true
  unfolding spec_refusal batch_walk window_walk batch_shape window_shape windows scatter_dims window_dims update_batch_steps update_window_steps land_steps
  done-placed e = e

  numbers-placed : scatter_numbers s ≡ scatter_numbers h
  unfolding scatter_numbers batch_walk window_walk batch_shape window_shape windows scatter_dims window_dims update_batch_steps update_window_steps land_steps
  numbers-placed = refl

  batch-placed : (batch_walk s).axes ≡ (batch_walk h).axes
  unfolding batch_walk batch_shape scatter_dims update_batch_steps
  batch-placed = refl

  -- what is prepared for views that pass the test of 9 is ready
  pub ready_at : is_done (refusal_of (Ok tt) s) ≡ true → (sn un dn : ℕ) (reach : Reach) → reach ≡ reach_in h.result dn → is_done (bounds_refusal h.indices h.updates h.result sn un dn) ≡ true → Ready (prepared_at s a b c reach) h sn un dn
  ready_at q sn un dn reach er d =
      record {
        accepted = done-placed q;
        bounds = d;
        reach = er;
        numbers = numbers-placed;
        batch-axes = batch-placed;
        index = refl;
        updates = refl;
        dest = refl;
      }

  -- what was made of the numbers that were found
  pub prepared-is : {batch window : CompiledReplay} → Found s batch window → {reach : Reach} {n : ScatterNumbers} {i u d : ℤ} → n ≡ scatter_numbers s → i ≡ start_base h → u ≡ b → d ≡ c
      → ◌≡◌ {A = PreparedScatter} (record { answer = Ok tt; reach = reach; numbers = n; batch_axes = batch.axes; index = i; updates = u; dest = d }) (prepared_at s a b c reach)
  prepared-is q {reach = reach} en ei eu ed =
      λ j. record { answer = Ok tt; reach = reach; numbers = en j; batch_axes = (q.batch-is j).axes; index = ei j; updates = eu j; dest = ed j }

  module _ (sn un dn : ℕ) where
    -- compile refuses
    pub first-refusal : (r : PreparedScatter) (x : Answer) → r.answer ≡ x → x ≡ compile_refusal s → is_done x ≡ false → Prepares r (lists_answer s h sn un dn) h sn un dn
    first-refusal r x e f n =
        let k : is_done (compile_refusal s) ≡ false = ap is_done (sym f) ∙ n in
        let l : lists_answer s h sn un dn ≡ compile_refusal s = ap (λ (t : Bool). cond t (or_else (plan_refusal (same_views h.indices h.updates h.result s.indices s.updates s.result)) (bounds_refusal h.indices h.updates h.result sn un dn)) (compile_refusal s)) k in
        record { answered = e ∙ f ∙ sym l; ready = λ d. never (sym d ∙ ap is_done l ∙ k) }

    -- 9 for the views, given where their cells lie
    module _ {x y z : Reach} {first nine : Answer} (ef : first ≡ compile_refusal s) (td : is_done first ≡ true)
        (ex : x ≡ reach_in h.indices sn) (ey : y ≡ reach_in h.updates un) (ez : z ≡ reach_in h.result dn) (en : nine ≡ or_else (buffer_bounds 1 x) (or_else (buffer_bounds 2 y) (buffer_bounds 3 z))) where
      bounds-are : nine ≡ bounds_refusal h.indices h.updates h.result sn un dn
      bounds-are = en ∙ λ i. or_else (buffer_bounds 1 (ex i)) (or_else (buffer_bounds 2 (ey i)) (buffer_bounds 3 (ez i)))

      pub answer-is : nine ≡ lists_answer s h sn un dn
      answer-is = bounds-are ∙ sym (ap (λ (t : Bool). cond t (bounds_refusal h.indices h.updates h.result sn un dn) (compile_refusal s)) (ap is_done (sym ef) ∙ td)) ∙ placed-answer sn un dn

      pub second-refusal : (r : PreparedScatter) → r.answer ≡ nine → is_done nine ≡ false → Prepares r (lists_answer s h sn un dn) h sn un dn
      second-refusal r e n = record { answered = e ∙ answer-is; ready = λ d. never (sym d ∙ ap is_done (sym answer-is) ∙ n) }

      pub prepared : (batch window : CompiledReplay) → Found s batch window → is_done nine ≡ true → (r : PreparedScatter) → r ≡ prepared_at s a b c z → Prepares r (lists_answer s h sn un dn) h sn un dn
      prepared batch window q d r e =
          record {
            answered = ap (λ (x : PreparedScatter). x.answer) e ∙ sym (done-is nine d) ∙ answer-is;
            ready = λ t. subst (λ (x : PreparedScatter). Ready x h sn un dn) (sym e) (ready_at q.accepted sn un dn z ez (ap is_done (sym bounds-are) ∙ d));
          }

-- an answer, and 8 after it, refuse
pub refuses : (w : Answer) → is_done (or_else w (Err F.PlanLayoutMismatch)) ≡ false
refuses w = go (is_done w) refl
  where
    go : (b : Bool) → is_done w ≡ b → is_done (cond b (Err F.PlanLayoutMismatch) w) ≡ false
    go true e = refl
    go false e = e

-- ---- any views
module _ (s : Scatter) (x y z : View) (sn un dn : ℕ) where
  abbrev all : Bool
  all = same_views x y z s.indices s.updates s.result

  pub views-are : all ≡ true → placed s x.offset y.offset z.offset ≡ on_views s x y z
  views-are e =
      let t = and-true (same_view x s.indices) _ e in
      let u = and-true (same_view y s.updates) _ t.1 in
      let p = same-view-is x s.indices t.0 in
      let q = same-view-is y s.updates u.0 in
      let r = same-view-is z s.result u.1 in
      λ i. on_views s (view_with (sym p.0 i) (sym p.1 i) x.offset) (view_with (sym q.0 i) (sym q.1 i) y.offset) (view_with (sym r.0 i) (sym r.1 i) z.offset)

  pub same-views : (r : PreparedScatter) {t : Bool} → t ≡ all → t ≡ true
      → Prepares r (lists_answer s (placed s x.offset y.offset z.offset) sn un dn) (placed s x.offset y.offset z.offset) sn un dn → Prepares r (lists_answer s (on_views s x y z) sn un dn) (on_views s x y z) sn un dn
  same-views r e d p = subst (λ (h : Scatter). Prepares r (lists_answer s h sn un dn) h sn un dn) (views-are (sym e ∙ d)) p

  pub other-views : (r : PreparedScatter) {t : Bool} {first answer : Answer} → t ≡ all → t ≡ false → first ≡ compile_refusal s → answer ≡ or_else first (Err F.PlanLayoutMismatch) → r.answer ≡ answer → Prepares r (lists_answer s (on_views s x y z) sn un dn) (on_views s x y z) sn un dn
  other-views r {first = first} e d f k m =
      let l : lists_answer s (on_views s x y z) sn un dn ≡ or_else (compile_refusal s) (Err F.PlanLayoutMismatch) = ap (λ (b : Bool). or_else (compile_refusal s) (or_else (plan_refusal b) (bounds_refusal x y z sn un dn))) (sym e ∙ d) in
      record { answered = m ∙ k ∙ ap (λ (w : Answer). or_else w (Err F.PlanLayoutMismatch)) f ∙ sym l; ready = λ t. never (sym t ∙ ap is_done l ∙ refuses (compile_refusal s)) }
