-- What the checks of a scatter answered, taken together. Assumes nothing.
use Rattle.std.specs.Prelude.{Ok, Err}
use mathlib.Core.Path.{◌≡◌, sym, ap, ◌∙◌}
use mathlib.Core.Bool.{cond}
use mathlib.Core.List.{List, [], ◌∷◌}
use Prim.Native.Nat.{ℕ, ◌-◌, ◌≤◌}
use native.Mathlib.Omega.{arith}
use lib.ListN.{length}
use lib.IntN.{pos}
use Rattle.indexing.specs.Coordinates.{rank, pick, spread, others}
use Rattle.indexing.specs.Start.{without}
use Rattle.indexing.specs.Scatter.{Scatter, scatter_dims, window_dims, batch_shape, window_shape, windows}
use Rattle.indexing.specs.Steps.{vector_stride, update_batch_steps, update_window_steps, land_steps}
use Rattle.indexing.specs.Axes.{length-pick}
use Rattle.layout.specs.Answers.{or_else, Answer}
use Rattle.layout.specs.Layouts.{rank_limit}
use Rattle.layout.specs.Lists.{unique_axes}
use Rattle.layout.specs.Spans.{total_of}
use Rattle.axis_lists.specs.Held.{same_list}
use Rattle.axis_lists.proofs.Filling.{length-others}
use Rattle.axis_lists.proofs.Without.{pick-without}
use Rattle.checks.specs.Checks.{first_of, same_count, total_fits, windows_fit, offset_fits}
use Rattle.replay.specs.declared.CompiledReplay.{CompiledReplay}
use Rattle.replay.specs.Replays.{compiled_replay}
use Rattle.scatter_checks.specs.Refusals.{lists_refusal, count_at_most, axes_refusal, batch_walk, window_walk}
use Rattle.scatter_checks.specs.Examine.{Fitting, Listed, Counted, walks_of}
use Rattle.scatter_checks.proofs.Found.{fitting}
use Rattle.layout.specs.declared.Refusal.TheVariants as F

module _ (s : Scatter) (keep batch start : List ℕ) (l : Listed s keep batch start) where
  pub fits : Fitting s
  fits = fitting s l.sizes

  -- the strides of the starts and their extents
  start-strides : pick (pos 0) start s.indices.strides ≡ without s.spec.index-vector-dim s.indices.strides
  start-strides =
      ap (λ (axes : List ℕ). pick (pos 0) axes s.indices.strides) (l.starts ∙ ap (λ (n : ℕ). others n (s.spec.index-vector-dim ∷ [])) (sym fits.index))
      ∙ pick-without (pos 0) s.spec.index-vector-dim s.indices.strides

  pub start-extents : pick 0 start s.indices.extents ≡ without s.spec.index-vector-dim s.indices.extents
  start-extents = ap (λ (axes : List ℕ). pick 0 axes s.indices.extents) l.starts ∙ pick-without 0 s.spec.index-vector-dim s.indices.extents

  pub start-count : length start ≡ length (without s.spec.index-vector-dim s.indices.extents)
  start-count = sym (length-pick 0 start s.indices.extents) ∙ ap length start-extents

  -- the axes of the two walks
  pub same-batch : Counted s → length start ≡ length batch
  unfolding batch_shape scatter_dims
  same-batch c =
      sym (length-pick (pos 0) start s.indices.strides) ∙ ap length start-strides ∙ c.batch
      ∙ length-pick 0 (scatter_dims s) s.updates.extents ∙ ap length (sym l.batches)

  pub same-window : Counted s → length keep ≡ length s.spec.update-window-dims
  same-window c = ap length l.kept ∙ sym c.window

  pub batch-few : length batch ≤ rank_limit
  unfolding scatter_dims
  batch-few = omega (arith, ap length l.batches, length-others 0 (rank s.updates) s.spec.update-window-dims, fits.updates-few)

  pub window-few : Counted s → length s.spec.update-window-dims ≤ rank_limit
  unfolding window_dims
  window-few c = omega (arith, c.window, length-others 0 (rank s.result) s.spec.inserted-window-dims, fits.dest-few)

  -- what is asked of the axes, by those that the spec does not list
  pub axes-are : or_else (lists_refusal s.indices.extents s.result.extents s.spec.inserted-window-dims s.spec.scatter-dims-to-operand-dims s.spec.index-vector-dim)
      (or_else (or_else (same_count (length s.spec.update-window-dims) (length keep)) (or_else (count_at_most (length s.spec.update-window-dims) (length s.updates.extents))
      (or_else (same_count (length s.updates.extents - length s.spec.update-window-dims) (length start)) (unique_axes (length s.updates.extents) [] s.spec.update-window-dims))))
      (cond (same_list (pick 0 batch s.updates.extents) (pick 0 start s.indices.extents)) (Ok tt) (Err (F.ShapeMismatch (length s.updates.extents) (length s.updates.extents)))))
      ≡ axes_refusal s
  unfolding window_dims scatter_dims
  axes-are = rw (l.kept, l.batches, start-count, start-extents)

  -- the two walks
  pub batch-walk : (c : CompiledReplay) → c ≡ compiled_replay (pick 0 batch s.updates.extents) (pick (pos 0) start s.indices.strides) (pick (pos 0) batch s.updates.strides) → c ≡ batch_walk s
  unfolding batch_walk batch_shape update_batch_steps
  batch-walk c e = e ∙ rw (start-strides, l.batches)

  pub window-walk : (c : CompiledReplay) → c ≡ compiled_replay (pick 0 s.spec.update-window-dims s.updates.extents) (pick (pos 0) s.spec.update-window-dims s.updates.strides) (pick (pos 0) keep s.result.strides) → c ≡ window_walk s
  unfolding window_walk window_shape update_window_steps land_steps
  window-walk c e = e ∙ rw l.kept

  -- what the checks from the windows on answered, with the two walks
  pub walks-are : (r : Answer) (c d : CompiledReplay)
      → r ≡ or_else (windows_fit 0 s.result.extents (spread 1 (rank s.result) keep (pick 0 s.spec.update-window-dims s.updates.extents)))
      (or_else (total_fits (total_of (pick 0 batch s.updates.extents))) (or_else (total_fits (total_of (pick 0 s.spec.update-window-dims s.updates.extents)))
      (or_else c.answer (or_else d.answer (first_of (offset_fits (vector_stride s.indices s.spec.index-vector-dim)) (length s.spec.scatter-dims-to-operand-dims) 0)))))
      → c ≡ batch_walk s → d ≡ window_walk s → record { answer = r; batch = c; window = d } ≡ walks_of s
  unfolding walks_of windows window_shape batch_shape
  walks-are r c d e x y = rw (e, x, y, l.kept, l.batches)
