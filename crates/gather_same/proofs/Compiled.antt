-- A compiled plan is the plan of an accepted gather, and what compile gives is compiled. Assumes nothing.
use Rattle.std.specs.Prelude.{Ok}
use mathlib.Core.Path.{◌≡◌, refl, sym, ap, ◌∙◌}
use mathlib.Core.Bool.{true, false}
use Rattle.integer.specs.Tests.{and-true, and_both}
use Rattle.indexing.specs.Coordinates.{others_from}
use Rattle.indexing.specs.Gather.{Gather, shown_dims, batch_dims}
use Rattle.indexing.specs.Steps.{window_steps, batch_steps}
use Rattle.layout.specs.Answers.{is_done, Answer}
use Rattle.layout.specs.Lists.{unique_axes}
use Rattle.layout.specs.Spans.{total_from, span_from}
use Rattle.checks.specs.Checks.{windows_from}
use Rattle.gather_checks.specs.Refusals.{collapsed_one, sizes_refusal, spec_refusal, refusal_of}
use Rattle.gather_checks.proofs.Found.{done-again}
use Rattle.gather_plan.specs.declared.GatherPlan.{GatherPlan}
use Rattle.gather_plan.specs.Plan.{plan_of, refused_plan, compiled_by, compiled_again, held_gather}
use Rattle.gather_plan.proofs.Accepted.{accepted}
use Rattle.gather_plan.proofs.Compiled.{compiled-plan, held-again}
use Rattle.gather_same.specs.Same.{is_compiled}
use Rattle.gather_same.proofs.Compare.{same-plan-decides}

-- A COMPILED PLAN is the plan of the gather that it describes, which compile does not refuse
pub compiled-is : (p : GatherPlan) → is_compiled p ≡ true → (is_done (refusal_of (Ok tt) (held_gather p)) ≡ true) × (p ≡ plan_of (held_gather p))
unfolding is_compiled compiled_by
compiled-is p e =
    let t = and-true (is_done (refusal_of (Ok tt) (held_gather p))) _ e in
    (t.0, (same-plan-decides p (compiled_again (held_gather p)).plan).yes t.1 ∙ compiled-plan (refusal_of (Ok tt) (held_gather p)) (held_gather p) t.0)

pub is-compiled-by : (p : GatherPlan) → is_done (refusal_of (Ok tt) (held_gather p)) ≡ true → p ≡ plan_of (held_gather p) → is_compiled p ≡ true
unfolding is_compiled compiled_by
is-compiled-by p e f =
    and_both (is_done (refusal_of (Ok tt) (held_gather p))) _ e ((same-plan-decides p (compiled_again (held_gather p)).plan).no (f ∙ sym (compiled-plan (refusal_of (Ok tt) (held_gather p)) (held_gather p) e)))

-- what stands in the place of a plan that is refused is not compiled: its one component has no place in the map
pub refused-not-compiled : is_compiled refused_plan ≡ false
unfolding is_compiled compiled_by sizes_refusal spec_refusal total_from span_from unique_axes windows_from collapsed_one others_from
refused-not-compiled = refl

-- WHAT COMPILE GIVES is compiled
pub compile-is-compiled : (four : Answer) (g : Gather) → is_done (refusal_of four g) ≡ true → is_compiled (compiled_by (refusal_of four g) g).plan ≡ true
unfolding spec_refusal window_steps batch_steps shown_dims batch_dims
compile-is-compiled four g e =
    let h = held-again g (accepted g four e) in
    ap is_compiled (compiled-plan (refusal_of four g) g e)
    ∙ is-compiled-by (plan_of g) (ap (λ (x : Gather). is_done (refusal_of (Ok tt) x)) h ∙ done-again four g e) (sym (ap plan_of h))
