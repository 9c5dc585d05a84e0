-- A compiled plan is what compile gives for the operand and the scatter that it describes. Assumes nothing.
use Rattle.std.specs.Prelude.{Ok}
use mathlib.Core.Path.{◌≡◌, refl, sym, ap, ap₂, ◌∙◌}
use mathlib.Core.Bool.{Bool, true, false, cond, ◌&&◌}
use mathlib.Core.List.{List}
use native.Mathlib.Omega.{arith}
use lib.ListN.{length}
use lib.IntN.{ℤ, pos}
use Rattle.integer.specs.Tests.{and-true, and_both}
use Rattle.indexing.specs.Coordinates.{View}
use Rattle.indexing.specs.Scatter.{Scatter}
use Rattle.layout.specs.declared.Layout.{Layout}
use Rattle.layout.specs.Answers.{is_done, or_else, Answer}
use Rattle.layout.specs.Layouts.{rank_limit, layout_of, extents_of, strides_of}
use Rattle.layout.proofs.Fill.{padded-back}
use Rattle.equality.specs.Same.{same_layout}
use Rattle.equality.proofs.Compare.{layouts-decide}
use Rattle.replay.specs.Replays.{rows_of}
use Rattle.checks.specs.Checks.{view_from}
use Rattle.checks.specs.Nothing.{no_layout}
use Rattle.checks.proofs.Made.{or-done}
use Rattle.scatter_checks.specs.Refusals as scatter-refusals
use Rattle.scatter_plan.specs.Plan as scatters
use Rattle.scatter_plan.specs.declared.CompiledScatter.{CompiledScatter}
use Rattle.scatter_plan.proofs.Accepted.{accepted}
use Rattle.scatter_plan.proofs.Compiled.{compiled-plan, unplaced, held-again}
use Rattle.scatter_same.specs.Same.{same_plan, has_rows}
use Rattle.scatter_same.specs.Same as scatter-same
use Rattle.scatter_same.proofs.Compiled as scatter-compiled
use Rattle.operand_checks.specs.Refusals.{sizes_of, refusal_of, compile_refusal}
use Rattle.operand_checks.proofs.Sizes.{sized_on, same_rest}
use Rattle.operand_plan.specs.declared.OperandPlan.{OperandPlan}
use Rattle.operand_plan.specs.declared.CompiledOperand.{CompiledOperand}
use Rattle.operand_plan.specs.Plan.{compiled_by, compiled_operand, held_operand, held_scatter, is_compiled}

pub compiled-is : (o : View) (s : Scatter) {x : Answer} {l : Layout} {c : CompiledScatter} → x ≡ compile_refusal o s → l ≡ cond (is_done x) (layout_of o.extents o.strides) no_layout → c ≡ scatters.compiled_by x s
    → ◌≡◌ {A = CompiledOperand} (record { operand = l; scatter = c }) (compiled_operand o s)
unfolding compiled_by
compiled-is o s e f g = ap₂ (λ (l : Layout) (c : CompiledScatter). record { operand = l; scatter = c }) f g ∙ ap (λ (x : Answer). compiled_by x o s) e

module _ (p : OperandPlan) (b w : List (List ℤ)) where
  abbrev o : View
  o = held_operand p

  abbrev s : Scatter
  s = held_scatter p

  -- what is asked of the plan, given the first refusal
  abbrev asked : Answer → Bool
  asked x = is_done x && (same_layout p.operand (cond (is_done x) (layout_of o.extents o.strides) no_layout) && (same_plan p.scatter (scatters.compiled_by x s).plan && has_rows (scatters.compiled_by x s) b w))

  abbrev rest : Answer → Bool
  rest x = is_done x && (same_plan p.scatter (scatters.compiled_by x s).plan && has_rows (scatters.compiled_by x s) b w)

  abbrev layouts : Bool
  layouts = same_layout p.operand (layout_of o.extents o.strides)

  asked_is : (x : Answer) → (layouts && rest x) ≡ asked x
  asked_is x = go (is_done x) (same_plan p.scatter (scatters.compiled_by x s).plan && has_rows (scatters.compiled_by x s) b w)
    where
      none : (t : Bool) → (t && false) ≡ false
      none true = refl
      none false = refl

      go : (t r : Bool) → (layouts && (t && r)) ≡ (t && (same_layout p.operand (cond t (layout_of o.extents o.strides) no_layout) && r))
      go true r = refl
      go false r = none layouts

  -- sizes, the operand's layout and the scatter's plan are asked apart
  pub tests-are : (is_done (sizes_of o s) && (layouts && scatter-same.is_compiled p.scatter b w)) ≡ is_compiled p b w
  unfolding is_compiled compiled_by scatter-same.is_compiled scatters.compiled_by
  tests-are = go (is_done (sizes_of o s)) refl
    where
      go : (t : Bool) → is_done (sizes_of o s) ≡ t → (t && (layouts && rest (scatter-refusals.refusal_of (Ok tt) s))) ≡ asked (refusal_of (Ok tt) o s)
      go true e = asked_is (scatter-refusals.refusal_of (Ok tt) s) ∙ ap asked (same_rest o s e (Ok tt))
      go false e =
          let n : is_done (refusal_of (Ok tt) o s) ≡ false = ap (λ (t : Bool). is_done (cond t (or_else (Ok tt) (scatter-refusals.spec_refusal s)) (sizes_of o s))) e ∙ e in
          sym (ap (λ (t : Bool). t && (same_layout p.operand (cond (is_done (refusal_of (Ok tt) o s)) (layout_of o.extents o.strides) no_layout) && (same_plan p.scatter (scatters.compiled_by (refusal_of (Ok tt) o s) s).plan && has_rows (scatters.compiled_by (refusal_of (Ok tt) o s) s) b w))) n)

  -- A COMPILED PLAN: sizes that are not refused, the operand's layout as it is held, and a scatter's plan that is compiled
  pub parts_are : is_compiled p b w ≡ true → (is_done (sizes_of o s) ≡ true) × (p.operand ≡ layout_of o.extents o.strides) × (scatter-same.is_compiled p.scatter b w ≡ true)
  parts_are e =
      let t = and-true (is_done (sizes_of o s)) _ (tests-are ∙ e) in
      let u = and-true layouts _ t.1 in
      (t.0, (layouts-decide p.operand (layout_of o.extents o.strides)).yes u.0, u.1)

  pub parts-make : is_done (sizes_of o s) ≡ true → p.operand ≡ layout_of o.extents o.strides → scatter-same.is_compiled p.scatter b w ≡ true → is_compiled p b w ≡ true
  parts-make d l e = sym tests-are ∙ and_both (is_done (sizes_of o s)) _ d (and_both layouts _ ((layouts-decide p.operand (layout_of o.extents o.strides)).no l) e)

-- what stands in the place of a plan that is refused is not compiled, whatever the rows
pub refused-not-compiled : (l : Layout) (b w : List (List ℤ)) → is_compiled (record { operand = l; scatter = scatters.refused_plan }) b w ≡ false
refused-not-compiled l b w =
    let p : OperandPlan = record { operand = l; scatter = scatters.refused_plan } in
    sym (tests-are p b w) ∙ ap (λ (t : Bool). is_done (sizes_of (held_operand p) (held_scatter p)) && (same_layout l (layout_of (extents_of l) (strides_of l)) && t)) (scatter-compiled.refused-not-compiled b w)
    ∙ none (is_done (sizes_of (held_operand p) (held_scatter p))) (same_layout l (layout_of (extents_of l) (strides_of l)))
  where
    none : (t u : Bool) → (t && (u && false)) ≡ false
    none true true = refl
    none true false = refl
    none false u = refl

-- WHAT COMPILE GIVES is compiled, with the rows of the axes that it gives beside the plan
module _ (four : Answer) (o : View) (s : Scatter) (e : is_done (refusal_of four o s) ≡ true) where
  abbrev given : CompiledOperand
  given = compiled_by (refusal_of four o s) o s

  abbrev plan : OperandPlan
  plan = record { operand = given.operand; scatter = given.scatter.plan }

  sizes : is_done (sizes_of o s) ≡ true
  sizes = (or-done (sizes_of o s) (or_else four (scatter-refusals.spec_refusal s)) e).0

  rest-done : is_done (scatter-refusals.refusal_of four s) ≡ true
  rest-done = ap is_done (same_rest o s sizes four) ∙ e

  operand-is : plan.operand ≡ layout_of o.extents o.strides
  unfolding compiled_by
  operand-is = ap (λ (t : Bool). cond t (layout_of o.extents o.strides) no_layout) e

  scatter-is : given.scatter ≡ scatters.compiled_by (scatter-refusals.refusal_of four s) s
  unfolding compiled_by
  scatter-is = ap (λ (x : Answer). scatters.compiled_by x s) (sym (same_rest o s sizes four))

  held-operand : held_operand plan ≡ view_from o.extents o.strides
  held-operand =
      let k = sized_on o s sizes in
      ap (λ (l : Layout). view_from (extents_of l) (strides_of l)) operand-is
      ∙ ap₂ view_from (padded-back rank_limit 1 (length o.extents) o.extents refl k.few) (padded-back rank_limit (pos 0) (length o.extents) o.strides (sym k.operand) (omega (arith, k.operand, k.few)))

  held-scatter : held_scatter plan ≡ unplaced s
  held-scatter =
      ap (λ (c : CompiledScatter). scatters.held_scatter c.plan) scatter-is
      ∙ ap scatters.held_scatter (compiled-plan (scatter-refusals.refusal_of four s) s rest-done) ∙ held-again s (accepted s four rest-done)

  pub compile-is-compiled : is_compiled plan (rows_of given.scatter.batch_axes) (rows_of given.scatter.window_axes) ≡ true
  compile-is-compiled =
      parts-make plan (rows_of given.scatter.batch_axes) (rows_of given.scatter.window_axes)
      (ap₂ (λ (v : View) (h : Scatter). is_done (sizes_of v h)) held-operand held-scatter ∙ sizes)
      (operand-is ∙ sym (ap (λ (v : View). layout_of v.extents v.strides) held-operand))
      (ap (λ (c : CompiledScatter). scatter-same.is_compiled c.plan (rows_of c.batch_axes) (rows_of c.window_axes)) scatter-is ∙ scatter-compiled.compile-is-compiled four s rest-done)
