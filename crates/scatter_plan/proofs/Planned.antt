-- What the code makes of a scatter that is not refused is its plan. Assumes nothing.
use Rattle.std.specs.Prelude.{Ok}
use mathlib.Core.Path.{◌≡◌, sym, ap, ◌∙◌}
use mathlib.Core.List.{List}
use Prim.Native.Nat.{ℕ, min}
use lib.ListN.{length, take}
use lib.IntN.{ℤ, pos}
use Rattle.indexing.specs.Coordinates.{pick, spread, others, tabulate}
use Rattle.indexing.specs.Scatter.{Scatter, scatter_dims, window_dims, batch_shape, window_shape, windows}
use Rattle.indexing.specs.Axes.{length-pick}
use Rattle.indexing.specs.Steps.{vector_stride}
use Rattle.layout.specs.declared.MadeLayout.{MadeLayout}
use Rattle.layout.specs.Layouts.{rank_limit, padded, layout_from}
use Rattle.axis_lists.specs.Held.{held_numbers, held_steps, Numbers, Steps}
use Rattle.checks.specs.Values.{value_of_u, offset_or, total_or}
use Rattle.checks.proofs.Made.{made}
use Rattle.checks.proofs.Fits.{strides-yes, rank-yes}
use Rattle.replay.specs.declared.CompiledReplay.{CompiledReplay}
use Rattle.scatter_checks.specs.Examine.{Found}
use Rattle.scatter_plan.specs.declared.ScatterPlan.{ScatterPlan}
use Rattle.scatter_plan.specs.Plan.{plan_of}
use Rattle.scatter_plan.proofs.Accepted.{Accepted, accepted, offsets_are, map_is}

module _ (s : Scatter) (batch window : CompiledReplay) (q : Found s batch window) where
  pub fits : Accepted s
  fits = accepted s (Ok tt) q.accepted

  pub plan-is : (x y z : MadeLayout) (sizes : Numbers) (offsets : Steps) (entries : List ℤ) (a b c : Numbers) (batches cells : ℕ)
      → x ≡ layout_from s.indices.extents s.indices.strides → y ≡ layout_from s.updates.extents s.updates.strides → z ≡ layout_from s.result.extents s.result.strides
      → sizes ≡ held_numbers (spread 1 (length s.result.extents) (others (length s.result.extents) s.spec.inserted-window-dims) (pick 0 s.spec.update-window-dims s.updates.extents))
      → offsets ≡ held_steps (tabulate (min (length s.spec.scatter-dims-to-operand-dims) rank_limit) (offset_or (vector_stride s.indices s.spec.index-vector-dim)))
      → entries ≡ padded rank_limit (pos 0) (pick (pos 0) (take rank_limit s.spec.scatter-dims-to-operand-dims) s.result.strides)
      → a ≡ held_numbers s.spec.update-window-dims → b ≡ held_numbers s.spec.inserted-window-dims → c ≡ held_numbers s.spec.scatter-dims-to-operand-dims
      → batches ≡ total_or (pick 0 (others (length s.updates.extents) s.spec.update-window-dims) s.updates.extents) → cells ≡ total_or (pick 0 s.spec.update-window-dims s.updates.extents)
      → ◌≡◌ {A = ScatterPlan}
      (record {
        index = x.layout;
        updates = y.layout;
        dest = z.layout;
        update_window_dims = a;
        inserted_window_dims = b;
        scatter_dims_to_operand_dims = c;
        index_vector_dim = s.spec.index-vector-dim;
        batch = batch.replay;
        window = window.replay;
        window_shape = sizes;
        index_component_offsets = offsets;
        index_operand_strides = record { count = length s.spec.scatter-dims-to-operand-dims; entries = entries };
        batch_elems = batches;
        window_elems = cells;
      })
      (plan_of s)
  unfolding batch_shape window_shape windows scatter_dims window_dims
  plan-is x y z sizes offsets entries a b c batches cells ex ey ez es eo ee ea eb ec en em =
      let p = fits in
      let lx = made s.indices.extents s.indices.strides x ex (strides-yes _ _ p.index-strides) (rank-yes _ p.index-rank) in
      let ly = made s.updates.extents s.updates.strides y ey (strides-yes _ _ p.updates-strides) (rank-yes _ p.updates-rank) in
      let lz = made s.result.extents s.result.strides z ez (strides-yes _ _ p.dest-strides) (rank-yes _ p.dest-rank) in
      let of = eo ∙ ap held_steps (offsets_are s p) in
      let ct = sym (length-pick (pos 0) s.spec.scatter-dims-to-operand-dims s.result.strides) in
      let st = ee ∙ ap (λ (l : List ℕ). padded rank_limit (pos 0) (pick (pos 0) l s.result.strides)) (map_is s p) in
      λ i. record {
        index = lx i;
        updates = ly i;
        dest = lz i;
        update_window_dims = ea i;
        inserted_window_dims = eb i;
        scatter_dims_to_operand_dims = ec i;
        index_vector_dim = s.spec.index-vector-dim;
        batch = (q.batch-is i).replay;
        window = (q.window-is i).replay;
        window_shape = es i;
        index_component_offsets = of i;
        index_operand_strides = record { count = ct i; entries = st i };
        batch_elems = (en ∙ ap value_of_u p.batches) i;
        window_elems = (em ∙ ap value_of_u p.cells) i;
      }
