-- A compiled plan, where today's loops may be called: the batches can be walked by the plan's own rows. Assumes nothing.
use Rattle.std.specs.Prelude.{Ok}
use mathlib.Core.Path.{◌≡◌, refl, sym, ap, subst, ◌∙◌}
use mathlib.Core.Bool.{true}
use mathlib.Core.List.{List}
use Prim.Native.Nat.{ℕ, zero, suc, ◌-◌, ◌<◌, ◌^◌}
use native.Mathlib.Omega.{arith}
use lib.ListN.{length, take, replicate, length-map}
use lib.IntN.{ℤ, pos}
use Rattle.indexing.specs.Coordinates.{product, InSlice}
use Rattle.indexing.specs.Start.{without}
use Rattle.indexing.specs.Scatter.{Scatter, batch_shape}
use Rattle.indexing.specs.Steps.{update_batch_steps}
use Rattle.indexing.specs.Odometer.{AllPos, offset_at}
use Rattle.layout.specs.Layouts.{rank_limit}
use Rattle.replay.specs.declared.CompiledReplay.{CompiledReplay}
use Rattle.replay.specs.Replays.{compiled_replay, no_axis, row_of}
use Rattle.replay.specs.Cells.{cells-pos}
use Rattle.replay.specs.Merging.{IsDone}
use Rattle.replay.proofs.Merging.{compiled-done}
use Rattle.windows.specs.Windows.{place_at}
use Rattle.windows.proofs.Last.{place-first}
use Rattle.scatter_windows.specs.Scattering.{Scattering}
use Rattle.scatter_checks.specs.Refusals.{batch_walk, window_walk, refusal_of}
use Rattle.components.specs.Components.{unless_none}
use Rattle.components.proofs.Padded.{unless-some}
use Rattle.checks.proofs.Held.{length-padded}
use Rattle.scatter_move.specs.declared.ScatterNumbers.{ScatterNumbers}
use Rattle.scatter_move.specs.Prepared.{steps_at, batch_rows, window_rows, scatter_numbers, start_base}
use Rattle.scatter_move.proofs.Numbers.{given, batch-few, dest-many, batch-walked}
use Rattle.walk.specs.Walks.{Reaches}
use Rattle.walk.specs.Walking.{Walking, walking, reaches-zero}
use Rattle.driven.specs.Driving.{Rowed}
use Rattle.driven.proofs.Reaching.{reaches}
use Rattle.driven.proofs.Rows.{steps-are}
use Rattle.layout.specs.Answers.{is_done}

module _ (s : Scatter) (ok : is_done (refusal_of (Ok tt) s) ≡ true) where
  abbrev ds : List ℕ
  ds = batch_shape s

  abbrev ss : List ℤ
  ss = without s.spec.index-vector-dim s.indices.strides

  abbrev ts : List ℤ
  ts = update_batch_steps s

  done : IsDone ds ss ts
  unfolding batch_walk
  done = compiled-done ds ss ts (given s ok).counts.batch (dest-many s ok) (given s ok).batch-done

  -- the batches can be walked from bases whose reach fits
  walk-from : (sb db : ℤ) → AllPos ds → Reaches sb ds ss → Reaches db ds ts → Walking ds ss ts sb db (batch_walk s).replay.extents (batch_rows s) (batch_walk s).replay.rank
  unfolding batch_walk
  walk-from sb db positive rs rd =
      walking ds ss ts (batch-few s ok) (given s ok).counts.batch (dest-many s ok) (compiled_replay ds ss ts) refl sb db (record { done = (given s ok).batch-done; positive = positive; source-reach = rs; dest-reach = rd }) (batch_walk s).replay.extents (batch_rows s) refl refl

  rows-full : length (batch_rows s) ≡ rank_limit
  unfolding batch_walk
  rows-full =
      length-map (batch_walk s).axes row_of
      ∙ ap (λ (c : CompiledReplay). length c.axes) done.is
      ∙ length-padded rank_limit no_axis done.axes

  abbrev w : ScatterNumbers
  w = scatter_numbers s

  -- the places of the starts; where none is read they are walked from 0
  index-reach : 0 < product (take (batch_walk s).replay.rank (batch_walk s).replay.extents)
      → ((k : ℕ) → k < product (take (batch_walk s).replay.rank (batch_walk s).replay.extents) → InSlice (2 ^ 63 - 1) (place_at (start_base s) (batch_walk s).replay.extents (unless_none (length s.spec.scatter-dims-to-operand-dims) (replicate rank_limit (pos 0)) (steps_at 0 (batch_rows s))) (batch_walk s).replay.rank k))
      → (n : ℕ) → length s.spec.scatter-dims-to-operand-dims ≡ n → Reaches (start_base s) ds ss
  unfolding offset_at
  index-reach hb inside zero e = subst (λ (x : ℤ). Reaches x ds ss) (ap (λ (n : ℕ). unless_none n (pos 0) s.indices.offset) (sym e)) (reaches-zero ds ss done.source-low done.source-high done.source-span)
  index-reach hb inside (suc n) e =
      let v = batch-walked s ok in
      reaches (start_base s) ds ss (2 ^ 63 - 1) (cells-pos ds (subst (λ (m : ℕ). 0 < m) v.total hb))
      (λ k h. subst (InSlice (2 ^ 63 - 1))
      (ap (λ (zs : List ℤ). place_at (start_base s) (batch_walk s).replay.extents zs (batch_walk s).replay.rank k) (unless-some (length s.spec.scatter-dims-to-operand-dims) (replicate rank_limit (pos 0)) (steps_at 0 (batch_rows s)) (omega arith)) ∙ v.source (start_base s) k)
      (inside k (subst (λ (m : ℕ). k < m) (sym v.total) h)))
      (omega arith)

  -- what `scatter_rows` asks of the rows
  pub rowed : (c : ℤ) (starts : List ℤ) (un dn : ℕ) → un < 2 ^ 63
      → Scattering starts w.offsets w.strides w.limits w.count (start_base s) s.updates.offset c w.batch_extents w.index_steps w.update_steps w.batch_rank w.window_extents w.window_steps w.dest_steps w.window_rank un dn
      → Rowed (start_base s) s.updates.offset w.batch_extents w.index_steps w.update_steps (batch_rows s) w.batch_rank w.batches w.count w.window_extents w.window_rank
  unfolding scatter_numbers offset_at
  rowed c starts un dn r g = record {
    whole = sym (batch-walked s ok).total;
    walk = λ hb hw.
        let v = batch-walked s ok in
        let q = g.batches hb hw in
        let at : (k : ℕ) → k < product ds → k < product (take (batch_walk s).replay.rank (batch_walk s).replay.extents) = λ k h. subst (λ (m : ℕ). k < m) (sym v.total) h in
        let positive : AllPos ds = cells-pos ds (subst (λ (m : ℕ). 0 < m) v.total hb) in
        let update-in : (k : ℕ) → k < product ds → InSlice un (offset_at s.updates.offset ds ts k) = λ k h. subst (InSlice un) (place-first (place_at s.updates.offset (batch_walk s).replay.extents (steps_at 2 (batch_rows s)) (batch_walk s).replay.rank k) (window_walk s).replay.extents (steps_at 0 (window_rows s)) (window_walk s).replay.rank ∙ v.dest s.updates.offset k) ((q.source k (at k h)).inside 0 hw) in
        (walk-from (start_base s) s.updates.offset positive (index-reach hb q.index.inside (length s.spec.scatter-dims-to-operand-dims) refl) (reaches s.updates.offset ds ts un positive update-in r)).walk;
    source = λ h. ap (take (batch_walk s).replay.rank) (sym (steps-are 0 rank_limit (batch_rows s) rows-full) ∙ sym (unless-some (length s.spec.scatter-dims-to-operand-dims) (replicate rank_limit (pos 0)) (steps_at 0 (batch_rows s)) h));
    dest = ap (take (batch_walk s).replay.rank) (sym (steps-are 2 rank_limit (batch_rows s) rows-full));
  }
