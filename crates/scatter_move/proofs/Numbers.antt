-- The numbers of an accepted scatter, as they are read. Assumes nothing.
use Rattle.std.specs.Prelude.{Ok}
use mathlib.Core.Path.{◌≡◌, refl, sym, ◌∙◌}
use mathlib.Core.Bool.{true}
use mathlib.Core.List.{List}
use Prim.Native.Nat.{ℕ, ◌<◌, ◌≤◌, ◌^◌}
use native.Mathlib.Omega.{arith}
use lib.ListN.{length, get_or}
use lib.IntN.{ℤ, pos, ◌*ℤ◌}
use Rattle.indexing.specs.Coordinates.{rank, tabulate, pick}
use Rattle.indexing.specs.Start.{without}
use Rattle.indexing.specs.Scatter.{Scatter, scatter_dims, window_dims, batch_shape, window_shape, windows}
use Rattle.indexing.specs.Axes.{length-pick, get_or-pick}
use Rattle.indexing.specs.Steps.{vector_stride, update_batch_steps, update_window_steps, land_steps}
use Rattle.indexing.proofs.Updates.{length-tabulate, get_d_tabulate}
use Rattle.layout.specs.Answers.{is_done}
use Rattle.layout.specs.Layouts.{rank_limit, padded}
use Rattle.axis_lists.proofs.Filling.{length-others}
use Rattle.checks.proofs.Small.{spans-small}
use Rattle.components.specs.Components.{limit_at}
use Rattle.components.proofs.Padded.{padded-entry}
use Rattle.scatter_checks.specs.Refusals.{batch_walk, window_walk, refusal_of}
use Rattle.scatter_plan.proofs.Accepted.{Accepted, accepted}
use Rattle.scatter_move.specs.Prepared.{steps_at, batch_rows, window_rows}
use Rattle.scatter_move.proofs.Merged.{Walked, walked}

module _ (s : Scatter) (done : is_done (refusal_of (Ok tt) s) ≡ true) where
  pub given : Accepted s
  given = accepted s (Ok tt) done

  pub batch-few : length (batch_shape s) ≤ rank_limit
  unfolding batch_shape scatter_dims
  batch-few = omega (arith, length-pick 0 (scatter_dims s) s.updates.extents, length-others 0 (rank s.updates) s.spec.update-window-dims, given.updates-rank)

  pub dest-many : length (update_batch_steps s) ≡ length (batch_shape s)
  unfolding update_batch_steps batch_shape
  dest-many = length-pick (pos 0) (scatter_dims s) s.updates.strides ∙ sym (length-pick 0 (scatter_dims s) s.updates.extents)

  -- the walk from batch to batch
  pub batch-walked : Walked (batch_shape s) (without s.spec.index-vector-dim s.indices.strides) (update_batch_steps s) (batch_walk s).replay.extents (steps_at 0 (batch_rows s)) (steps_at 2 (batch_rows s)) (batch_walk s).replay.rank
  unfolding batch_walk
  batch-walked =
      walked (batch_shape s) (without s.spec.index-vector-dim s.indices.strides) (update_batch_steps s) given.counts.batch dest-many batch-few
      (batch_walk s) refl given.batch-done

  -- and from cell to cell of a window
  pub window-walked : Walked (window_shape s) (update_window_steps s) (land_steps s) (window_walk s).replay.extents (steps_at 0 (window_rows s)) (steps_at 2 (window_rows s)) (window_walk s).replay.rank
  unfolding window_walk
  window-walked =
      let k : length (window_shape s) ≡ length s.spec.update-window-dims = unfold window_shape in length-pick 0 s.spec.update-window-dims s.updates.extents in
      let m : length (update_window_steps s) ≡ length s.spec.update-window-dims = unfold update_window_steps in length-pick (pos 0) s.spec.update-window-dims s.updates.strides in
      let n : length (land_steps s) ≡ length (window_dims s) = unfold land_steps in length-pick (pos 0) (window_dims s) s.result.strides in
      walked (window_shape s) (update_window_steps s) (land_steps s) (m ∙ sym k) (n ∙ sym given.counts.window ∙ sym k)
      (omega (arith, k, given.window-few)) (window_walk s) refl given.window-done

  abbrev map : List ℕ
  map = s.spec.scatter-dims-to-operand-dims

  pub map-few : length map ≤ rank_limit
  map-few = given.map-few

  pub small_result : (a : ℕ) → a < rank s.result → get_or s.result.extents a 0 ≤ 2 ^ 63
  small_result = spans-small s.result.extents s.result.strides given.dest-strides given.dest-span

  module _ (c : ℕ) (h : c < length map) where
    abbrev stride : ℤ
    stride = vector_stride s.indices s.spec.index-vector-dim

    pub offset-at : get_or (padded rank_limit (pos 0) (tabulate (length map) (λ j. stride *ℤ pos j))) c (pos 0) ≡ stride *ℤ pos c
    offset-at =
        let f : ℕ → ℤ = λ j. stride *ℤ pos j in
        let k : length (tabulate (length map) f) ≡ length map = length-tabulate (length map) f in
        padded-entry (pos 0) (tabulate (length map) f) c (omega (arith, k)) (omega (arith, k, map-few)) ∙ get_d_tabulate (length map) f c (pos 0) h

    pub stride-at : get_or (padded rank_limit (pos 0) (pick (pos 0) map s.result.strides)) c (pos 0) ≡ get_or s.result.strides (get_or map c 0) (pos 0)
    stride-at =
        let k : length (pick (pos 0) map s.result.strides) ≡ length map = length-pick (pos 0) map s.result.strides in
        padded-entry (pos 0) (pick (pos 0) map s.result.strides) c (omega (arith, k)) (omega (arith, k, map-few)) ∙ get_or-pick (pos 0) map s.result.strides c h

    pub limit-at : get_or (tabulate rank_limit (limit_at s.result.extents (windows s) map)) c 0 ≡ limit_at s.result.extents (windows s) map c
    limit-at = get_d_tabulate rank_limit (limit_at s.result.extents (windows s) map) c 0 (omega (arith, map-few))
