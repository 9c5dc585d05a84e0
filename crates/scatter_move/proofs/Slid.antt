-- How many windows of a prepared scatter slid: its batches have the flags of the scatter's batch coordinates. Assumes nothing.
use Rattle.std.specs.Prelude.{Ok}
use mathlib.Core.Path.{◌≡◌, refl, sym, ap, ap₂, ◌∙◌}
use mathlib.Core.Bool.{Bool, true}
use mathlib.Core.List.{List}
use Prim.Native.Nat.{ℕ, zero, suc, ◌<◌}
use native.Mathlib.Omega.{arith}
use lib.ListN.{length, get_or, take}
use lib.IntN.{ℤ, pos}
use Rattle.indexing.specs.Coordinates.{product, unravel, element_at}
use Rattle.indexing.specs.Start.{start_index}
use Rattle.indexing.specs.Scatter.{Scatter, batch_shape, window_shape, windows}
use Rattle.indexing.specs.Slid.{moved, how_many, slides, slid_of, slid_scatter}
use Rattle.indexing.specs.Counting.{one_same, many-same}
use Rattle.indexing.proofs.Fusion.{product-pos}
use Rattle.indexing.proofs.Linear.{unravel-within}
use Rattle.indexing.proofs.Once.{update-taken, update-within}
use Rattle.indexing.specs.Valid.{ValidScatter}
use Rattle.layout.specs.Answers.{is_done}
use Rattle.layout.specs.Laws.{some-cells}
use Rattle.windows.specs.Windows.{place_at}
use Rattle.indexed_runs.specs.IndexedRuns.{component_moved, start_moved, starts_moved}
use Rattle.calls.proofs.Covers.{no_zero}
use Rattle.calls.proofs.Sums.{moved-limit}
use Rattle.driven.proofs.Counted.{slid-none, slid-zero, slid-some}
use Rattle.scatter_checks.specs.Refusals.{refusal_of}
use Rattle.scatter_move.specs.Batches.{batches_moved}
use Rattle.scatter_move.specs.Prepared.{scatter_numbers, start_base, Ready}
use Rattle.scatter_move.specs.declared.ScatterNumbers.{ScatterNumbers}
use Rattle.scatter_move.specs.declared.PreparedScatter.{PreparedScatter}
use Rattle.scatter_move.proofs.Numbers.{limit-at}
use Rattle.scatter_move.proofs.Moving.{at-valid, total-batches, total-cells, component-place}

-- the clamp to a limit moves what the clamp by extent and window moves
-- ---- updates have cells where there are batches and their windows have cells
module _ (s : Scatter) (v : ValidScatter s) where
  pub no-updates : product (window_shape s) ≡ 0 → product s.updates.extents ≡ 0
  no-updates e = go (product s.updates.extents) refl
    where
      go : (m : ℕ) → product s.updates.extents ≡ m → m ≡ 0
      go zero q = refl
      go (suc m) q = absurd (omega (arith, e, (update-taken s v (unravel s.updates.extents 0) (unravel-within s.updates.extents 0 (omega arith))).3))

  some-updates : 0 < product (batch_shape s) → 0 < product (window_shape s) → 0 < product s.updates.extents
  some-updates hb hw = product-pos s.updates.extents (some-cells s.updates.extents (no_zero s.updates.extents _ (update-within s v 0 0 hb hw)))

  by-updates : (flag : ℕ → Bool) → slid_of (product (window_shape s)) (how_many (product (batch_shape s)) flag) ≡ slid_of (product s.updates.extents) (how_many (product (batch_shape s)) flag)
  unfolding how_many
  by-updates flag = go (product (batch_shape s)) (product (window_shape s)) refl refl
    where
      go : (m n : ℕ) → product (batch_shape s) ≡ m → product (window_shape s) ≡ n → slid_of n (how_many m flag) ≡ slid_of (product s.updates.extents) (how_many m flag)
      go m zero p q = slid-none (product s.updates.extents) (how_many m flag) (no-updates q)
      go zero (suc n) p q = sym (slid-zero (suc n) 0 refl) ∙ slid-zero (product s.updates.extents) 0 refl
      go (suc m) (suc n) p q = sym (slid-some (suc n) (how_many (suc m) flag) (omega arith)) ∙ slid-some (product s.updates.extents) (how_many (suc m) flag) (some-updates (omega arith) (omega arith))

-- ---- the flags
module _ (s : Scatter) (done : is_done (refusal_of (Ok tt) s) ≡ true) (starts : List ℤ) where
  abbrev w : ScatterNumbers
  w = scatter_numbers s

  abbrev map : List ℕ
  map = s.spec.scatter-dims-to-operand-dims

  -- where batch k's start is read, and the start
  abbrev place : ℕ → ℤ
  place = place_at (start_base s) w.batch_extents w.index_steps w.batch_rank

  abbrev start : ℕ → ℕ → ℤ
  start k = start_index s.indices s.spec.index-vector-dim starts (unravel (batch_shape s) k)

  abbrev flag : ℕ → Bool
  flag k = slides s.result.extents (windows s) map (start k)

  component-moved : (k j : ℕ) → j < length map → component_moved starts w.offsets w.limits (place k) j ≡ moved (start k j) (get_or s.result.extents (get_or map j 0) 0) (get_or (windows s) (get_or map j 0) 0)
  unfolding scatter_numbers start_index
  component-moved k j h =
      ap₂ (λ (z : ℤ) (m : ℕ). moved (element_at (pos 0) starts z) m 0) (component-place s done k j h) (limit-at s done j h)
      ∙ moved-limit (start k j) (get_or s.result.extents (get_or map j 0) 0) (get_or (windows s) (get_or map j 0) 0)

  start-moved : (k : ℕ) → start_moved starts w.offsets w.limits (place k) (length map) ≡ flag k
  unfolding slides
  start-moved k = one_same (length map) _ _ (component-moved k)

  count-is : starts_moved starts w.offsets w.limits w.count (product (take w.batch_rank w.batch_extents)) place ≡ how_many (product (batch_shape s)) flag
  unfolding scatter_numbers
  count-is = ap (λ (m : ℕ). starts_moved starts w.offsets w.limits (length map) m place) (total-batches s done) ∙ many-same (product (batch_shape s)) _ flag (λ k _. start-moved k)

  cells_are : product (take w.window_rank w.window_extents) ≡ product (window_shape s)
  unfolding scatter_numbers
  cells_are = total-cells s done

  -- THE NUMBER of the batches is the scatter's
  pub number_is : (p : PreparedScatter) (sn un dn : ℕ) → Ready p s sn un dn → batches_moved p starts ≡ slid_scatter s starts
  unfolding slid_scatter
  number_is p sn un dn r =
      ap₂ (λ (v : ScatterNumbers) (i : ℤ). slid_of (product (take v.window_rank v.window_extents)) (starts_moved starts v.offsets v.limits v.count (product (take v.batch_rank v.batch_extents)) (place_at i v.batch_extents v.index_steps v.batch_rank)))
      r.numbers r.index
      ∙ ap₂ (λ (m n : ℕ). slid_of m n) cells_are count-is
      ∙ by-updates s (at-valid s done) flag
