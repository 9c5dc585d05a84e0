-- A compiled plan is the plan of an accepted scatter with the rows of its walks, and what compile gives is compiled. Assumes nothing.
use Rattle.std.specs.Prelude.{Ok}
use mathlib.Core.Path.{◌≡◌, refl, sym, ap, ◌∙◌}
use mathlib.Core.Bool.{true, false}
use mathlib.Core.List.{List}
use lib.IntN.{ℤ}
use Rattle.integer.specs.Tests.{and-true, and_both}
use Rattle.indexing.specs.Scatter.{Scatter, scatter_dims, window_dims, batch_shape, window_shape, windows}
use Rattle.indexing.specs.Steps.{update_batch_steps, update_window_steps, land_steps}
use Rattle.layout.specs.Answers.{is_done, Answer}
use Rattle.layout.specs.Lists.{unique_axes}
use Rattle.layout.specs.Spans.{total_from, span_from}
use Rattle.replay.specs.Replays.{rows_of}
use Rattle.scatter_checks.specs.Refusals.{sizes_refusal, batch_walk, window_walk, spec_refusal, refusal_of}
use Rattle.scatter_checks.proofs.Found.{done-again}
use Rattle.scatter_plan.specs.declared.ScatterPlan.{ScatterPlan}
use Rattle.scatter_plan.specs.declared.CompiledScatter.{CompiledScatter}
use Rattle.scatter_plan.specs.Plan.{plan_of, refused_plan, compiled_by, compiled_again, held_scatter}
use Rattle.scatter_plan.proofs.Accepted.{accepted}
use Rattle.scatter_plan.proofs.Compiled.{compiled-plan, compiled-axes, held-again}
use Rattle.scatter_same.specs.Same.{same_plan, same_rows, has_rows, is_compiled}
use Rattle.scatter_same.proofs.Compare.{same-plan-decides, rows-decide}

-- A COMPILED PLAN is the plan of the scatter that it describes, which compile does not refuse, and its rows are those of that scatter's walks
pub compiled-is : (p : ScatterPlan) (b w : List (List ℤ)) → is_compiled p b w ≡ true
    → (is_done (refusal_of (Ok tt) (held_scatter p)) ≡ true) × (p ≡ plan_of (held_scatter p)) × (b ≡ rows_of (batch_walk (held_scatter p)).axes) × (w ≡ rows_of (window_walk (held_scatter p)).axes)
unfolding is_compiled has_rows compiled_by
compiled-is p b w e =
    let c : CompiledScatter = compiled_again (held_scatter p) in
    let t = and-true (is_done (refusal_of (Ok tt) (held_scatter p))) _ e in
    let u = and-true (same_plan p c.plan) _ t.1 in
    let v = and-true (same_rows b (rows_of c.batch_axes)) _ u.1 in
    let a = compiled-axes (refusal_of (Ok tt) (held_scatter p)) (held_scatter p) t.0 in (
      t.0,
      (same-plan-decides p c.plan).yes u.0 ∙ compiled-plan (refusal_of (Ok tt) (held_scatter p)) (held_scatter p) t.0,
      (rows-decide b (rows_of c.batch_axes)).yes v.0 ∙ ap rows_of a.0,
      (rows-decide w (rows_of c.window_axes)).yes v.1 ∙ ap rows_of a.1,
    )

pub is-compiled-by : (p : ScatterPlan) (b w : List (List ℤ)) → is_done (refusal_of (Ok tt) (held_scatter p)) ≡ true → p ≡ plan_of (held_scatter p) → b ≡ rows_of (batch_walk (held_scatter p)).axes → w ≡ rows_of (window_walk (held_scatter p)).axes → is_compiled p b w ≡ true
unfolding is_compiled has_rows compiled_by
is-compiled-by p b w e f g h =
    let c : CompiledScatter = compiled_again (held_scatter p) in
    let a = compiled-axes (refusal_of (Ok tt) (held_scatter p)) (held_scatter p) e in
    and_both (is_done (refusal_of (Ok tt) (held_scatter p))) _ e
    (and_both (same_plan p c.plan) _ ((same-plan-decides p c.plan).no (f ∙ sym (compiled-plan (refusal_of (Ok tt) (held_scatter p)) (held_scatter p) e)))
    (and_both (same_rows b (rows_of c.batch_axes)) _ ((rows-decide b (rows_of c.batch_axes)).no (g ∙ ap rows_of (sym a.0))) ((rows-decide w (rows_of c.window_axes)).no (h ∙ ap rows_of (sym a.1)))))

-- what stands in the place of a plan that is refused is not compiled, whatever the rows: its one component has no place in the map
pub refused-not-compiled : (b w : List (List ℤ)) → is_compiled refused_plan b w ≡ false
unfolding is_compiled compiled_by sizes_refusal spec_refusal total_from span_from unique_axes
refused-not-compiled b w = refl

-- WHAT COMPILE GIVES is compiled, with the rows of the axes that it gives beside the plan
pub compile-is-compiled : (four : Answer) (s : Scatter) → is_done (refusal_of four s) ≡ true
    → is_compiled (compiled_by (refusal_of four s) s).plan (rows_of (compiled_by (refusal_of four s) s).batch_axes) (rows_of (compiled_by (refusal_of four s) s).window_axes) ≡ true
unfolding spec_refusal batch_walk window_walk batch_shape window_shape windows scatter_dims window_dims update_batch_steps update_window_steps land_steps
compile-is-compiled four s e =
    let h = held-again s (accepted s four e) in
    let a = compiled-axes (refusal_of four s) s e in
    (λ i. is_compiled (compiled-plan (refusal_of four s) s e i) (rows_of (a.0 i)) (rows_of (a.1 i)))
    ∙ is-compiled-by (plan_of s) (rows_of (batch_walk s).axes) (rows_of (window_walk s).axes) (ap (λ (x : Scatter). is_done (refusal_of (Ok tt) x)) h ∙ done-again four s e) (sym (ap plan_of h)) (sym (ap (λ (x : Scatter). rows_of (batch_walk x).axes) h)) (sym (ap (λ (x : Scatter). rows_of (window_walk x).axes) h))
