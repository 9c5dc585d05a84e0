-- What the numbers of a scatter's plan are, for every scatter that compile does not refuse: its counts, and its components. Assumes nothing.
use Rattle.std.specs.Prelude.{Ok}
use mathlib.Core.Path.{◌≡◌, refl, ap, ◌∙◌}
use mathlib.Core.Bool.{true}
use mathlib.Core.List.{List}
use Prim.Native.Nat.{ℕ, ◌<◌}
use native.Mathlib.Omega.{arith}
use lib.ListN.{length, get_or}
use lib.IntN.{ℤ, pos, ◌*ℤ◌}
use Rattle.indexing.specs.Coordinates.{product, pick, element_at, tabulate}
use Rattle.indexing.specs.Start.{without}
use Rattle.indexing.specs.Scatter.{Scatter, joined, lands_at, update_at, placed_updates}
use Rattle.indexing.specs.Axes.{length-pick, get_or-pick}
use Rattle.indexing.specs.Steps.{vector_stride}
use Rattle.indexing.proofs.Updates.{length-tabulate, get_d_tabulate}
use Rattle.layout.specs.Answers.{is_done}
use Rattle.components.proofs.Padded.{padded-entry}
use Rattle.scatter_checks.specs.Refusals.{refusal_of}
use Rattle.scatter_plan.specs.Plan.{plan_of}
use Rattle.scatter_plan.proofs.Accepted.{accepted}
use Rattle.scatter_plan.proofs.Valid.{valid}

-- THE COUNTS: the updates are those of `batch_elems` batches, in each `window_elems` cells
pub counts-are : {A : Type 0} (d : A) (s : Scatter) (starts : List ℤ) (updates : List A)
    → placed_updates d s starts updates ≡ joined (tabulate (plan_of s).batch_elems (λ b. tabulate (plan_of s).window_elems (λ w. (lands_at s starts b w, element_at d updates (update_at s b w)))))
unfolding placed_updates
counts-are d s starts updates = refl

module _ (s : Scatter) (done : is_done (refusal_of (Ok tt) s) ≡ true) where
  abbrev map : List ℕ
  map = s.spec.scatter-dims-to-operand-dims

  -- and there are as many batches as the index view has coordinates without its vector axis
  pub batches-are : (plan_of s).batch_elems ≡ product (without s.spec.index-vector-dim s.indices.extents)
  batches-are = ap product (valid (Ok tt) s done).batch-shape

  -- THE COMPONENTS: component c lies the vector axis's stride times c on, and moves the window by the destination's stride of the axis that it is mapped to
  pub component-offset : (c : ℕ) → c < length map → get_or (plan_of s).index_component_offsets.entries c (pos 0) ≡ vector_stride s.indices s.spec.index-vector-dim *ℤ pos c
  component-offset c h =
      let f : ℕ → ℤ = λ c. vector_stride s.indices s.spec.index-vector-dim *ℤ pos c in
      let m : length (tabulate (length map) f) ≡ length map = length-tabulate (length map) f in
      padded-entry (pos 0) (tabulate (length map) f) c (omega (arith, m)) (omega (arith, m, (accepted s (Ok tt) done).map-few)) ∙ get_d_tabulate (length map) f c (pos 0) h

  pub component-stride : (c : ℕ) → c < length map → get_or (plan_of s).index_operand_strides.entries c (pos 0) ≡ get_or s.result.strides (get_or map c 0) (pos 0)
  component-stride c h =
      let m : length (pick (pos 0) map s.result.strides) ≡ length map = length-pick (pos 0) map s.result.strides in
      padded-entry (pos 0) (pick (pos 0) map s.result.strides) c (omega (arith, m)) (omega (arith, m, (accepted s (Ok tt) done).map-few)) ∙ get_or-pick (pos 0) map s.result.strides c h
