-- What a plan that fits a call holds. Assumes nothing.
use Rattle.std.specs.Prelude.{Ok}
use mathlib.Core.Path.{◌≡◌, refl, sym, ap, ap₂, subst, ◌∙◌}
use mathlib.Core.Bool.{Bool, true}
use mathlib.Core.List.{List}
use Prim.Native.Nat.{ℕ}
use native.Mathlib.Omega.{arith}
use lib.ListN.{length, replicate}
use lib.IntN.{ℤ, pos}
use Rattle.integer.specs.Tests.{and-true}
use Rattle.indexing.specs.Coordinates.{rank, tabulate}
use Rattle.indexing.specs.Start.{without}
use Rattle.indexing.specs.Scatter.{Scatter, scatter_dims, window_dims, batch_shape, window_shape, windows}
use Rattle.indexing.specs.Axes.{length-spread}
use Rattle.indexing.specs.Steps.{update_batch_steps, update_window_steps, land_steps}
use Rattle.layout.specs.declared.Reach.{Reach}
use Rattle.layout.specs.declared.View.{View}
use Rattle.layout.specs.Answers.{is_done, or_else, Answer}
use Rattle.layout.specs.Layouts.{rank_limit, padded, extents_of}
use Rattle.layout.specs.Reach.{buffer_bounds}
use Rattle.layout.proofs.First.{done-is}
use Rattle.axis_lists.specs.Held.{numbers_of}
use Rattle.axis_lists.proofs.Filling.{read_back}
use Rattle.replay.specs.declared.CompiledReplay.{CompiledReplay}
use Rattle.replay.specs.Replays.{no_axis, rows_of, axes_from}
use Rattle.replay.specs.Merging.{IsDone}
use Rattle.replay.proofs.Merging.{compiled-done}
use Rattle.replay.proofs.Rows.{axes-back}
use Rattle.replay.specs.declared.WindowReplay.{WindowReplay}
use Rattle.checks.proofs.Made.{or-done}
use Rattle.checks.proofs.Held.{length-padded}
use Rattle.components.specs.Components.{limit_at, unless_none}
use Rattle.calls.specs.Calls.{same_view, same_views, plan_refusal, reach_in, bounds_refusal}
use Rattle.calls.proofs.Same.{same-view-is}
use Rattle.calls.proofs.Does.{plan-done}
use Rattle.scatter_checks.specs.Refusals.{batch_walk, window_walk, spec_refusal, refusal_of}
use Rattle.scatter_plan.specs.declared.ScatterPlan.{ScatterPlan}
use Rattle.scatter_plan.specs.Plan.{plan_of, held_scatter}
use Rattle.scatter_plan.proofs.Accepted.{Accepted, accepted}
use Rattle.scatter_same.specs.Same.{is_compiled}
use Rattle.scatter_same.proofs.Compiled.{compiled-is}
use Rattle.scatter_move.specs.Prepared.{steps_at, batch_rows, window_rows, scatter_numbers, Ready, Prepares}
use Rattle.scatter_move.specs.declared.ScatterNumbers.{ScatterNumbers}
use Rattle.scatter_move.specs.declared.PreparedScatter.{PreparedScatter}
use Rattle.scatter_move.proofs.Numbers.{dest-many}
use Rattle.scatter.specs.Calls.{scatter_of, plan_fits, call_answer}
use Rattle.scatter.specs.Ready.{prepared_by}

-- ---- a compiled plan's numbers are those of its scatter
module _ (p : ScatterPlan) (b w : List (List ℤ)) (ok : is_compiled p b w ≡ true) where
  abbrev s : Scatter
  s = held_scatter p

  done : is_done (refusal_of (Ok tt) s) ≡ true
  done = (compiled-is p b w ok).0

  is : p ≡ plan_of s
  is = (compiled-is p b w ok).1

  fits : Accepted s
  fits = accepted s (Ok tt) done

  batch-is : p.batch ≡ (batch_walk s).replay
  batch-is = ap (λ (q : ScatterPlan). q.batch) is

  window-is : p.window ≡ (window_walk s).replay
  window-is = ap (λ (q : ScatterPlan). q.window) is

  batch-rows : b ≡ batch_rows s
  batch-rows = (compiled-is p b w ok).2

  window-rows : w ≡ window_rows s
  window-rows = (compiled-is p b w ok).3

  -- the axes that the rows give
  pub batch-axes : axes_from p.batch.extents b ≡ (batch_walk s).axes
  unfolding batch_walk
  batch-axes =
      ap₂ (λ (r : WindowReplay) (l : List (List ℤ)). axes_from r.extents l) batch-is batch-rows
      ∙ ap (λ (c : CompiledReplay). axes_from c.replay.extents (rows_of c.axes)) walk.is
      ∙ axes-back (padded rank_limit no_axis walk.axes) (length-padded rank_limit no_axis walk.axes)
      ∙ sym (ap (λ (c : CompiledReplay). c.axes) walk.is)
    where
      walk : IsDone (batch_shape s) (without s.spec.index-vector-dim s.indices.strides) (update_batch_steps s)
      walk = unfold batch_walk in compiled-done (batch_shape s) (without s.spec.index-vector-dim s.indices.strides) (update_batch_steps s) fits.counts.batch (dest-many s done) fits.batch-done

  windows-are : numbers_of p.window_shape ≡ windows s
  windows-are =
      ap (λ (q : ScatterPlan). numbers_of q.window_shape) is
      ∙ read_back 0 (windows s) (omega (arith, fits.dest-rank, length-windows))
    where
      length-windows : length (windows s) ≡ rank s.result
      length-windows = unfold windows in length-spread 1 (rank s.result) (window_dims s) (window_shape s)

  pub numbers-are : (is0 st us ws ds : List ℤ) (limits : List ℕ)
      → is0 ≡ steps_at 0 b → st ≡ unless_none p.scatter_dims_to_operand_dims.count (replicate rank_limit (pos 0)) is0
      → us ≡ steps_at 2 b → ws ≡ steps_at 0 w → ds ≡ steps_at 2 w
      → limits ≡ tabulate rank_limit (limit_at (extents_of p.dest) (numbers_of p.window_shape) (numbers_of p.scatter_dims_to_operand_dims))
      → ◌≡◌ {A = ScatterNumbers}
      (record {
        batch_rank = p.batch.rank;
        batches = p.batch_elems;
        batch_extents = p.batch.extents;
        index_steps = st;
        update_steps = us;
        window_rank = p.window.rank;
        window_extents = p.window.extents;
        window_steps = ws;
        dest_steps = ds;
        count = p.scatter_dims_to_operand_dims.count;
        offsets = p.index_component_offsets.entries;
        strides = p.index_operand_strides.entries;
        limits = limits;
      })
      (scatter_numbers s)
  unfolding scatter_numbers
  numbers-are is0 st us ws ds limits eis est eus ews eds el =
      let n = ap (λ (q : ScatterPlan). q.scatter_dims_to_operand_dims.count) is in
      λ i. record {
        batch_rank = (batch-is i).rank;
        batches = (is i).batch_elems;
        batch_extents = (batch-is i).extents;
        index_steps = (est ∙ ap₂ (λ (m : ℕ) (l : List ℤ). unless_none m (replicate rank_limit (pos 0)) l) n (eis ∙ ap (steps_at 0) batch-rows)) i;
        update_steps = (eus ∙ ap (steps_at 2) batch-rows) i;
        window_rank = (window-is i).rank;
        window_extents = (window-is i).extents;
        window_steps = (ews ∙ ap (steps_at 0) window-rows) i;
        dest_steps = (eds ∙ ap (steps_at 2) window-rows) i;
        count = n i;
        offsets = (is i).index_component_offsets.entries;
        strides = (is i).index_operand_strides.entries;
        limits = (el ∙ ap (λ (l : List ℕ). tabulate rank_limit (limit_at s.result.extents l s.spec.scatter-dims-to-operand-dims)) windows-are) i;
      }

-- ---- the answer of a call
pub answer-is : (p : ScatterPlan) (b w : List (List ℤ)) (s : Scatter) (sn un dn : ℕ) {fits : Bool} {x y z : Reach} {eight nine answer : Answer} → fits ≡ plan_fits p b w s → eight ≡ plan_refusal fits
    → x ≡ reach_in s.indices sn → y ≡ reach_in s.updates un → z ≡ reach_in s.result dn → nine ≡ or_else (buffer_bounds 1 x) (or_else (buffer_bounds 2 y) (buffer_bounds 3 z)) → answer ≡ or_else eight nine → answer ≡ call_answer p b w s sn un dn
answer-is p b w s sn un dn ef e8 ex ey ez e9 e = e ∙ ap₂ or_else (e8 ∙ ap plan_refusal ef) (e9 ∙ λ i. or_else (buffer_bounds 1 (ex i)) (or_else (buffer_bounds 2 (ey i)) (buffer_bounds 3 (ez i))))

-- ---- a call that is not refused
module _ (p : ScatterPlan) (b w : List (List ℤ)) (i u d : View) (sn un dn : ℕ) (ok : is_done (call_answer p b w (scatter_of p i u d) sn un dn) ≡ true) where
  abbrev h : Scatter
  h = scatter_of p i u d

  abbrev held : Scatter
  held = held_scatter p

  abbrev views : Bool
  views = same_views h.indices h.updates h.result held.indices held.updates held.result

  tests : (plan_fits p b w h ≡ true) × (is_done (bounds_refusal h.indices h.updates h.result sn un dn) ≡ true)
  tests = let t = or-done (plan_refusal (plan_fits p b w h)) _ ok in (plan-done (plan_fits p b w h) t.0, t.1)

  pub compiled : is_compiled p b w ≡ true
  compiled = (and-true views (is_compiled p b w) tests.0).1

  same : (h.indices.extents ≡ held.indices.extents) × (h.indices.strides ≡ held.indices.strides) × (h.updates.extents ≡ held.updates.extents) × (h.updates.strides ≡ held.updates.strides) × (h.result.extents ≡ held.result.extents) × (h.result.strides ≡ held.result.strides)
  same =
      let a = (and-true views (is_compiled p b w) tests.0).0 in
      let t = and-true (same_view h.indices held.indices) _ a in
      let v = and-true (same_view h.updates held.updates) _ t.1 in
      let x = same-view-is h.indices held.indices t.0 in
      let y = same-view-is h.updates held.updates v.0 in
      let z = same-view-is h.result held.result v.1 in
      (x.0, x.1, y.0, y.1, z.0, z.1)

  -- the call's scatter is the plan's, but for where its views begin
  abbrev at : Scatter
  at =
      record {
        spec = held.spec;
        indices = record { extents = held.indices.extents; strides = held.indices.strides; offset = i.offset };
        updates = record { extents = held.updates.extents; strides = held.updates.strides; offset = u.offset };
        result = record { extents = held.result.extents; strides = held.result.strides; offset = d.offset };
      }

  scatter-is : h ≡ at
  scatter-is =
      let (ei, si, eu, su, ed, sd) = same in
      λ j. record {
        spec = held.spec;
        indices = record { extents = ei j; strides = si j; offset = i.offset };
        updates = record { extents = eu j; strides = su j; offset = u.offset };
        result = record { extents = ed j; strides = sd j; offset = d.offset };
      }

  at_done : is_done (refusal_of (Ok tt) at) ≡ true
  unfolding spec_refusal batch_walk window_walk batch_shape window_shape windows scatter_dims window_dims update_batch_steps update_window_steps land_steps
  at_done = (compiled-is p b w compiled).0

  at-numbers : scatter_numbers held ≡ scatter_numbers at
  unfolding scatter_numbers batch_walk window_walk batch_shape window_shape windows scatter_dims window_dims update_batch_steps update_window_steps land_steps
  at-numbers = refl

  at-batch : (batch_walk held).axes ≡ (batch_walk at).axes
  unfolding batch_walk batch_shape scatter_dims update_batch_steps
  at-batch = refl

  pub ready : (reach : Reach) → reach ≡ reach_in h.result dn → Ready (prepared_by p b i u d reach) h sn un dn
  ready reach er =
      record {
        accepted = subst (λ (x : Scatter). is_done (refusal_of (Ok tt) x) ≡ true) (sym scatter-is) at_done;
        bounds = tests.1;
        reach = er;
        numbers = at-numbers ∙ ap scatter_numbers (sym scatter-is);
        batch-axes = batch-axes p b w compiled ∙ at-batch ∙ ap (λ (x : Scatter). (batch_walk x).axes) (sym scatter-is);
        index = refl;
        updates = refl;
        dest = refl;
      }

  -- what is prepared of it
  pub prepared : (r : PreparedScatter) (x : Answer) (reach : Reach) → r ≡ prepared_by p b i u d reach → x ≡ call_answer p b w h sn un dn → reach ≡ reach_in h.result dn → Prepares r (call_answer p b w h sn un dn) h sn un dn
  prepared r x reach e f g =
      record {
        answered = ap (λ (q : PreparedScatter). q.answer) e ∙ sym (done-is (call_answer p b w h sn un dn) ok);
        ready = λ t. subst (λ (q : PreparedScatter). Ready q h sn un dn) (sym e) (ready reach g);
      }
