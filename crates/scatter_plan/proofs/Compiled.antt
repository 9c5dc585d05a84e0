-- What compile gives: the plan of an accepted scatter, which holds that scatter. Assumes nothing.
use mathlib.Core.Path.{◌≡◌, sym, ap, ◌∙◌}
use mathlib.Core.Bool.{Bool, true, false, cond}
use Rattle.indexing.specs.Scatter.{Scatter}
use Rattle.layout.specs.Answers.{is_done, Answer}
use Rattle.axis_lists.proofs.Filling.{read_back}
use Rattle.replay.specs.declared.CompiledReplay.{CompiledReplay}
use Rattle.replay.specs.Replays.{refused_replay}
use Rattle.scatter_checks.specs.Refusals.{scatter_from, batch_walk, window_walk}
use Rattle.scatter_checks.specs.Examine.{Found}
use Rattle.scatter_plan.specs.declared.ScatterPlan.{ScatterPlan}
use Rattle.scatter_plan.specs.Plan.{plan_of, refused_plan, refused_scatter, compiled_by, held_scatter}
use Rattle.scatter_plan.proofs.Accepted.{Accepted, index-extents-read, index-strides-read, updates-extents-read, updates-strides-read, dest-extents-read, dest-strides-read}

-- what compile gives for a scatter that it does not refuse
pub compiled-plan : (x : Answer) (s : Scatter) → is_done x ≡ true → (compiled_by x s).plan ≡ plan_of s
unfolding compiled_by
compiled-plan x s e = ap (λ (b : Bool). cond b (plan_of s) refused_plan) e

pub compiled-axes : (x : Answer) (s : Scatter) → is_done x ≡ true → ((compiled_by x s).batch_axes ≡ (batch_walk s).axes) × ((compiled_by x s).window_axes ≡ (window_walk s).axes)
unfolding compiled_by
compiled-axes x s e = (ap (λ (b : Bool). cond b (batch_walk s).axes refused_replay.axes) e, ap (λ (b : Bool). cond b (window_walk s).axes refused_replay.axes) e)

pub compiled-done : (x : Answer) (s : Scatter) (plan : ScatterPlan) (batch window : CompiledReplay) → is_done x ≡ true → plan ≡ plan_of s → Found s batch window → record { answer = x; plan = plan; batch_axes = batch.axes; window_axes = window.axes } ≡ compiled_by x s
unfolding compiled_by
compiled-done x s plan batch window e f q =
    let a = compiled-axes x s e in
    λ i. record {
      answer = x;
      plan = (f ∙ sym (compiled-plan x s e)) i;
      batch_axes = (ap (λ (c : CompiledReplay). c.axes) q.batch-is ∙ sym a.0) i;
      window_axes = (ap (λ (c : CompiledReplay). c.axes) q.window-is ∙ sym a.1) i;
    }

pub compiled-refused : (x : Answer) (s : Scatter) → is_done x ≡ false → refused_scatter x ≡ compiled_by x s
unfolding compiled_by
compiled-refused x s e =
    λ i. record {
      answer = x;
      plan = cond (sym e i) (plan_of s) refused_plan;
      batch_axes = cond (sym e i) (batch_walk s).axes refused_replay.axes;
      window_axes = cond (sym e i) (window_walk s).axes refused_replay.axes;
    }

-- a scatter without the places where its views begin
abbrev pub unplaced : Scatter → Scatter
unplaced s =
    scatter_from s.indices.extents s.indices.strides s.updates.extents s.updates.strides s.result.extents s.result.strides
    s.spec.update-window-dims s.spec.inserted-window-dims s.spec.scatter-dims-to-operand-dims s.spec.index-vector-dim

-- a plan that compile gives holds the scatter that it was compiled for
pub held-again : (s : Scatter) → Accepted s → held_scatter (plan_of s) ≡ unplaced s
held-again s p =
    let ei = index-extents-read s p in
    let si = index-strides-read s p in
    let eu = updates-extents-read s p in
    let su = updates-strides-read s p in
    let ed = dest-extents-read s p in
    let sd = dest-strides-read s p in
    let lw = read_back 0 s.spec.update-window-dims p.window-few in
    let li = read_back 0 s.spec.inserted-window-dims p.inserted-few in
    let lm = read_back 0 s.spec.scatter-dims-to-operand-dims p.map-few in
    λ i. scatter_from (ei i) (si i) (eu i) (su i) (ed i) (sd i) (lw i) (li i) (lm i) s.spec.index-vector-dim
