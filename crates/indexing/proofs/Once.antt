-- Each update coordinate occurs exactly once among the pairs of a batch and a window cell. Assumes nothing.
use Rattle.std.specs.Prelude.{◌≡◌, refl, true, take, drop}
use Rattle.std.proofs.Math.Path.{sym, ap, ap₂, subst}
use Rattle.std.proofs.Common.{◌∙◌, arith, take_at, drop_at}
use mathlib.Core.List.{List, ◌++◌}
use Prim.Native.Nat.{ℕ, ◌+◌, ◌<◌}
use Rattle.std.proofs.Math.ListN.{length, length-append}
use Rattle.indexing.specs.Coordinates.{rank, product, unravel, Within, pick, spread, has}
use Rattle.indexing.specs.Scatter.{Scatter, scatter_dims, batch_shape, window_shape, update_index}
use Rattle.indexing.specs.Axes.{Axes, others-has, has_either, spread-pick, axes-others, axes-both, length-spread, length-pick, pick-append, pick-spread}
use Rattle.indexing.proofs.Inside.{pick-within, either-has}
use Rattle.indexing.specs.Linear.{ravel}
use Rattle.indexing.proofs.Linear.{length-unravel, unravel-within, unravel-ravel, ravel-below, unravel-one, within-length, within_by}
use Rattle.indexing.specs.Valid.{ValidScatter}

-- two lists joined in two ways, update at the same place
pub parts : {A : Type 0} (xs ys xs' ys' : List A) → length xs ≡ length xs' → xs ++ ys ≡ xs' ++ ys' → (xs ≡ xs') × (ys ≡ ys')
parts {A} xs ys xs' ys' l e = (
  sym (take_at xs ys (length xs) refl) ∙ ap (take (length xs)) e ∙ take_at xs' ys' (length xs) (sym l),
  sym (drop_at xs ys (length xs) refl) ∙ ap (drop (length xs)) e ∙ drop_at xs' ys' (length xs) (sym l),
)

module _ (s : Scatter) (valid : ValidScatter s) where
  all-axes : Axes (rank s.updates) (s.spec.update-window-dims ++ scatter_dims s)
  unfolding scatter_dims
  all-axes = axes-both (rank s.updates) s.spec.update-window-dims valid.window-axes

  every-axis : (a : ℕ) → a < rank s.updates → has (s.spec.update-window-dims ++ scatter_dims s) a ≡ true
  unfolding scatter_dims
  every-axis a h = has_either s.spec.update-window-dims (scatter_dims s) a (λ e. others-has 0 (rank s.updates) s.spec.update-window-dims a (omega arith) (omega arith) e)

  window-length : (w : ℕ) → length (unravel (window_shape s) w) ≡ length s.spec.update-window-dims
  unfolding window_shape
  window-length w = length-unravel (window_shape s) w ∙ length-pick 0 s.spec.update-window-dims s.updates.extents

  batch-length : (b : ℕ) → length (unravel (batch_shape s) b) ≡ length (scatter_dims s)
  unfolding batch_shape
  batch-length b = length-unravel (batch_shape s) b ∙ length-pick 0 (scatter_dims s) s.updates.extents

  entries : (b w : ℕ) → let u = update_index s (unravel (batch_shape s) b) (unravel (window_shape s) w) in
      (pick 0 s.spec.update-window-dims u ≡ unravel (window_shape s) w) × (pick 0 (scatter_dims s) u ≡ unravel (batch_shape s) b)
  unfolding update_index
  entries b w =
      let B : List ℕ = unravel (batch_shape s) b in
      let W : List ℕ = unravel (window_shape s) w in
      let u : List ℕ = spread 0 (rank s.updates) (s.spec.update-window-dims ++ scatter_dims s) (W ++ B) in
      let l : length (W ++ B) ≡ length (s.spec.update-window-dims ++ scatter_dims s) =
      length-append W B ∙ ap₂ ◌+◌ (window-length w) (batch-length b) ∙ sym (length-append s.spec.update-window-dims (scatter_dims s)) in
      parts (pick 0 s.spec.update-window-dims u) (pick 0 (scatter_dims s) u) W B (length-pick 0 s.spec.update-window-dims u ∙ sym (window-length w))
      (sym (pick-append 0 s.spec.update-window-dims (scatter_dims s) u) ∙ pick-spread 0 (rank s.updates) (s.spec.update-window-dims ++ scatter_dims s) (W ++ B) all-axes l)

  -- StableHLO's update_window_index and update_scatter_index of the update coordinate of (b, w)
  pub window-entries : (b w : ℕ) → pick 0 s.spec.update-window-dims (update_index s (unravel (batch_shape s) b) (unravel (window_shape s) w)) ≡ unravel (window_shape s) w
  window-entries b w = (entries b w).0

  pub scatter-entries : (b w : ℕ) → pick 0 (scatter_dims s) (update_index s (unravel (batch_shape s) b) (unravel (window_shape s) w)) ≡ unravel (batch_shape s) b
  scatter-entries b w = (entries b w).1

  -- at most once
  pub update-once : (b w b' w' : ℕ) → b < product (batch_shape s) → w < product (window_shape s) → b' < product (batch_shape s) → w' < product (window_shape s)
      → update_index s (unravel (batch_shape s) b) (unravel (window_shape s) w) ≡ update_index s (unravel (batch_shape s) b') (unravel (window_shape s) w') → (b ≡ b') × (w ≡ w')
  update-once b w b' w' hb hw hb' hw' e = (
    unravel-one (batch_shape s) b b' hb hb' (sym (scatter-entries b w) ∙ ap (pick 0 (scatter_dims s)) e ∙ scatter-entries b' w'),
    unravel-one (window_shape s) w w' hw hw' (sym (window-entries b w) ∙ ap (pick 0 s.spec.update-window-dims) e ∙ window-entries b' w'),
  )

  -- and at least once: at the batch and the window cell of its own entries
  pub update-taken : (u : List ℕ) → Within s.updates.extents u
      → (b : ℕ) × (w : ℕ) × (b < product (batch_shape s)) × (w < product (window_shape s)) × (update_index s (unravel (batch_shape s) b) (unravel (window_shape s) w) ≡ u)
  unfolding update_index batch_shape window_shape
  update-taken u h =
      let B : List ℕ = pick 0 (scatter_dims s) u in
      let W : List ℕ = pick 0 s.spec.update-window-dims u in
      let hb : Within (batch_shape s) B = pick-within (rank s.updates) (scatter_dims s) s.updates.extents u (unfold scatter_dims in axes-others (rank s.updates) s.spec.update-window-dims) (omega arith) h in
      let hw : Within (window_shape s) W = pick-within (rank s.updates) s.spec.update-window-dims s.updates.extents u valid.window-axes (omega arith) h in (
        ravel (batch_shape s) B,
        ravel (window_shape s) W,
        ravel-below (batch_shape s) B hb,
        ravel-below (window_shape s) W hw,
        ap₂ (λ (x y : List ℕ). spread 0 (rank s.updates) (s.spec.update-window-dims ++ scatter_dims s) (y ++ x)) (unravel-ravel (batch_shape s) B hb) (unravel-ravel (window_shape s) W hw)
            ∙ ap (spread 0 (rank s.updates) (s.spec.update-window-dims ++ scatter_dims s)) (sym (pick-append 0 s.spec.update-window-dims (scatter_dims s) u))
            ∙ spread-pick 0 (rank s.updates) (s.spec.update-window-dims ++ scatter_dims s) u all-axes (within-length s.updates.extents u h) every-axis,
      )

  -- and each coordinate so taken is inside the update view
  pub update-within : (b w : ℕ) → b < product (batch_shape s) → w < product (window_shape s) → Within s.updates.extents (update_index s (unravel (batch_shape s) b) (unravel (window_shape s) w))
  update-within b w hb hw =
      let u : List ℕ = update_index s (unravel (batch_shape s) b) (unravel (window_shape s) w) in
      let win : Within (pick 0 s.spec.update-window-dims s.updates.extents) (pick 0 s.spec.update-window-dims u) =
      unfold window_shape in subst (Within (window_shape s)) (sym (window-entries b w)) (unravel-within (window_shape s) w hw) in
      let bat : Within (pick 0 (scatter_dims s) s.updates.extents) (pick 0 (scatter_dims s) u) =
      unfold batch_shape in subst (Within (batch_shape s)) (sym (scatter-entries b w)) (unravel-within (batch_shape s) b hb) in
      within_by s.updates.extents u (unfold update_index in length-spread 0 (rank s.updates) (s.spec.update-window-dims ++ scatter_dims s) (unravel (window_shape s) w ++ unravel (batch_shape s) b))
      (λ a l. either-has s.spec.update-window-dims (scatter_dims s) s.updates.extents u a win bat (every-axis a l))
