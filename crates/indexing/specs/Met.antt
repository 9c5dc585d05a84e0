-- The conditions of `Valid` are met: by the harbour's gather, and by StableHLO's scatter.
use Rattle.std.specs.Prelude.{refl, [], ◌∷◌, ℕ, zero, suc, ◌<◌, ◌≤◌, get_or}
use Rattle.std.proofs.Common.{sym, true≢false, arith}
use Rattle.indexing.specs.Coordinates.{pick, spread, has, others_from}
use Rattle.indexing.specs.Start.{without, components}
use Rattle.indexing.specs.Gather.{batch_dims, shown_dims}
use Rattle.indexing.specs.Scatter.{scatter_dims, window_dims, batch_shape, window_shape, windows}
use Rattle.indexing.specs.Axes.{Axes}
use Rattle.indexing.specs.Valid.{ValidGather, ValidScatter}
use Rattle.indexing.specs.Answers.{harbour_windows, printed_scatter}

pub harbour-valid : ValidGather harbour_windows
unfolding Axes has others_from pick batch_dims shown_dims without components
harbour-valid =
    record {
      operand-strided = refl;
      indices-strided = refl;
      result-strided = refl;
      sizes = refl;
      collapsed = tt;
      mapped = (omega arith, refl, tt);
      vector = omega arith;
      fits = fit;
      collapsed-one = λ a h. absurd (true≢false (sym h));
      counted = refl;
      shown = (omega arith, refl, tt);
      window-shape = refl;
      batch-shape = refl;
    }
  where
    fit : (a : ℕ) → a < 1 → get_or (2 ∷ []) a 0 ≤ get_or (5 ∷ []) a 0
    fit zero h = omega arith
    fit (suc a) h = absurd (omega arith)

pub printed-valid : ValidScatter printed_scatter
unfolding Axes has others_from pick scatter_dims window_dims batch_shape window_shape windows spread without components
printed-valid =
    record {
      indices-strided = refl;
      updates-strided = refl;
      result-strided = refl;
      inserted = (omega arith, refl, tt);
      mapped = (omega arith, refl, (omega arith, refl, tt));
      vector = omega arith;
      counted = refl;
      window-count = refl;
      window-axes = (omega arith, refl, (omega arith, refl, tt));
      batch-shape = refl;
      fits = fit;
    }
  where
    fit : (a : ℕ) → a < 3 → get_or (1 ∷ 2 ∷ 2 ∷ []) a 0 ≤ get_or (3 ∷ 4 ∷ 2 ∷ []) a 0
    fit zero h = omega arith
    fit (suc zero) h = omega arith
    fit (suc (suc zero)) h = omega arith
    fit (suc (suc (suc a))) h = absurd (omega arith)
