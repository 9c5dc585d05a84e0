-- What the code makes of a gather that is not refused is its plan. Assumes nothing.
use Rattle.std.specs.Prelude.{Ok}
use mathlib.Core.Path.{◌≡◌, sym, ap, ◌∙◌}
use mathlib.Core.List.{List}
use Prim.Native.Nat.{ℕ, min}
use lib.ListN.{length, take}
use lib.IntN.{ℤ, pos}
use Rattle.indexing.specs.Coordinates.{pick, others, tabulate}
use Rattle.indexing.specs.Gather.{Gather, shown_dims}
use Rattle.indexing.specs.Axes.{length-pick}
use Rattle.indexing.specs.Steps.{vector_stride}
use Rattle.layout.specs.declared.MadeLayout.{MadeLayout}
use Rattle.layout.specs.Layouts.{rank_limit, padded, layout_from}
use Rattle.axis_lists.specs.Held.{numbers_of, held_numbers, held_steps, Numbers, Steps}
use Rattle.axis_lists.proofs.Filling.{read_back}
use Rattle.checks.specs.Values.{offset_or, total_or}
use Rattle.checks.proofs.Made.{made}
use Rattle.checks.proofs.Held.{few-others, others-held}
use Rattle.checks.proofs.Fits.{strides-yes, rank-yes}
use Rattle.gather_checks.specs.Given.{Found}
use Rattle.gather_plan.specs.declared.GatherReplayAxis.{GatherReplayAxis}
use Rattle.gather_plan.specs.declared.GatherPlan.{GatherPlan}
use Rattle.gather_plan.specs.Plan.{plan_of}
use Rattle.gather_plan.specs.Made.{axes_from}
use Rattle.gather_plan.proofs.Accepted.{Accepted, accepted, axes-are, window-read, batch-read, offsets_are, map_is}

module _ (g : Gather) (window batch : List ℤ) (q : Found g window batch) where
  pub fits : Accepted g
  fits = accepted g (Ok tt) q.accepted

  shown-is : (shown : Numbers) → shown ≡ held_numbers (others (min (length g.operand.extents) rank_limit) g.spec.collapsed-slice-dims) → numbers_of shown ≡ shown_dims g
  unfolding shown_dims
  shown-is shown e =
      let n : ℕ = length g.operand.extents in
      ap numbers_of (others-held shown n g.spec.collapsed-slice-dims e fits.operand-rank) ∙ read_back 0 (others n g.spec.collapsed-slice-dims) (few-others n g.spec.collapsed-slice-dims fits.operand-rank)

  pub plan-is : (x y z : MadeLayout) (shown : Numbers) (axes : List GatherReplayAxis) (offsets : Steps) (entries : List ℤ) (a b c d : Numbers) (total : ℕ)
      → x ≡ layout_from g.operand.extents g.operand.strides → y ≡ layout_from g.indices.extents g.indices.strides → z ≡ layout_from g.result.extents g.result.strides
      → shown ≡ held_numbers (others (min (length g.operand.extents) rank_limit) g.spec.collapsed-slice-dims)
      → axes ≡ axes_from g.result.extents g.result.strides (take (length g.result.extents) window) (take (length g.result.extents) batch) g.spec.offset-dims (numbers_of shown)
      → offsets ≡ held_steps (tabulate (min (length g.spec.start-index-map) rank_limit) (offset_or (vector_stride g.indices g.spec.index-vector-dim)))
      → entries ≡ padded rank_limit (pos 0) (pick (pos 0) (take rank_limit g.spec.start-index-map) g.operand.strides)
      → a ≡ held_numbers g.spec.offset-dims → b ≡ held_numbers g.spec.collapsed-slice-dims → c ≡ held_numbers g.spec.start-index-map → d ≡ held_numbers g.spec.slice-sizes → total ≡ total_or g.result.extents
      → ◌≡◌ {A = GatherPlan}
      (record {
        operand = x.layout;
        index = y.layout;
        dest = z.layout;
        offset_dims = a;
        collapsed_slice_dims = b;
        start_index_map = c;
        index_vector_dim = g.spec.index-vector-dim;
        slice_sizes = d;
        axes = axes;
        index_component_offsets = offsets;
        index_operand_strides = record { count = length g.spec.start-index-map; entries = entries };
        total = total;
      })
      (plan_of g)
  plan-is x y z shown axes offsets entries a b c d total ex ey ez es ea eo ee e1 e2 e3 e4 et =
      let p = fits in
      let lx = made g.operand.extents g.operand.strides x ex (strides-yes _ _ p.operand-strides) (rank-yes _ p.operand-rank) in
      let ly = made g.indices.extents g.indices.strides y ey (strides-yes _ _ p.index-strides) (rank-yes _ p.index-rank) in
      let lz = made g.result.extents g.result.strides z ez (strides-yes _ _ p.dest-strides) (rank-yes _ p.dest-rank) in
      let ax = ea ∙ (λ i. axes_from g.result.extents g.result.strides (window-read g p window q.window-is i) (batch-read g p batch q.batch-is i) g.spec.offset-dims (shown-is shown es i)) ∙ axes-are g p in
      let of = eo ∙ ap held_steps (offsets_are g p) in
      let ct = sym (length-pick (pos 0) g.spec.start-index-map g.operand.strides) in
      let en = ee ∙ ap (λ (l : List ℕ). padded rank_limit (pos 0) (pick (pos 0) l g.operand.strides)) (map_is g p) in
      λ i. record {
        operand = lx i;
        index = ly i;
        dest = lz i;
        offset_dims = e1 i;
        collapsed_slice_dims = e2 i;
        start_index_map = e3 i;
        index_vector_dim = g.spec.index-vector-dim;
        slice_sizes = e4 i;
        axes = ax i;
        index_component_offsets = of i;
        index_operand_strides = record { count = ct i; entries = en i };
        total = (et ∙ p.total-fits) i;
      }
