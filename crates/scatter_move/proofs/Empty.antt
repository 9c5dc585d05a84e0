-- A destination without cells, and one outside its slice. Assumes nothing.
use mathlib.Core.Path.{◌≡◌, refl, sym, ap, ◌∙◌}
use mathlib.Core.Bool.{true, true≢false}
use mathlib.Core.List.{List, []}
use Prim.Native.Nat.{ℕ, zero, suc}
use native.Mathlib.Omega.{arith}
use lib.IntN.{ℤ}
use Rattle.indexing.specs.Coordinates.{product, store, element_at}
use Rattle.indexing.specs.Scatter.{Scatter, batch_shape, window_shape, update_at, lands_at, scattered}
use Rattle.indexing.specs.Slid.{slid_scatter}
use Rattle.indexing.specs.Loops.{in_order}
use Rattle.indexing.proofs.Loops.{combined-loop}
use Rattle.indexing.proofs.Inside.{inside-within}
use Rattle.indexing.proofs.Bounds.{land-inside}
use Rattle.indexing.specs.Valid.{ValidScatter}
use Rattle.layout.specs.declared.Reach.TheVariants as R
use Rattle.layout.specs.Nested.{has_zero}
use Rattle.calls.proofs.Covers.{no_zero}
use Rattle.calls.proofs.Does.{zero_of}
use Rattle.scatter_move.specs.Prepared.{Ready}
use Rattle.scatter_move.specs.declared.PreparedScatter.{PreparedScatter}
use Rattle.driven.proofs.Counted.{slid-none}
use Rattle.scatter_move.proofs.Moving.{at-valid}
use Rattle.scatter_move.proofs.Slid.{no-updates}

-- ---- a destination without cells: then no window has any
idle : {C : Type 0} (turn : ℕ → C → C) (n : ℕ) (x : C) → ((k : ℕ) (y : C) → turn k y ≡ y) → in_order turn n x ≡ x
unfolding in_order
idle turn zero x e = refl
idle turn (suc n) x e = e n (in_order turn n x) ∙ idle turn n x e

no-window : (s : Scatter) → ValidScatter s → has_zero s.result.extents ≡ true → product (window_shape s) ≡ 0
no-window s v e = go (product (window_shape s)) refl
  where
    go : (n : ℕ) → product (window_shape s) ≡ n → n ≡ 0
    go zero q = refl
    go (suc n) q =
        let r = inside-within s.result.extents _ (land-inside s v [] 0 0 (omega arith)) in
        absurd (true≢false (sym e ∙ no_zero s.result.extents r.0 r.2))

nothing : {A : Type 0} (rule : A → A → A) (z : A) (s : Scatter) (starts : List ℤ) (updates x : List A) → ValidScatter s → has_zero s.result.extents ≡ true → scattered rule z s starts updates x ≡ x
unfolding in_order scattered
nothing {A} rule z s starts updates x v e =
    combined-loop rule z s starts updates x
    ∙ idle (λ b. in_order (inner b) (product (window_shape s))) (product (batch_shape s)) x (λ b y. ap (λ (n : ℕ). in_order (inner b) n y) (no-window s v e))
  where
    inner : ℕ → ℕ → List A → List A
    inner b w held = store held (lands_at s starts b w) (rule (element_at z held (lands_at s starts b w)) (element_at z updates (update_at s b w)))

-- nor have the updates
no_number : (s : Scatter) (starts : List ℤ) → ValidScatter s → has_zero s.result.extents ≡ true → 0 ≡ slid_scatter s starts
unfolding slid_scatter
no_number s starts v e = slid-none (product s.updates.extents) _ (no-updates s v (no-window s v e))

module _ (p : PreparedScatter) (s : Scatter) (sn un dn : ℕ) (r : Ready p s sn un dn) where
  dest-zero : p.reach ≡ R.NoCells → has_zero s.result.extents ≡ true
  dest-zero e = zero_of s.result.extents s.result.strides s.result.offset dn (sym r.reach ∙ e)

  pub without-cells : {A : Type 0} (rule : A → A → A) (z : A) (starts : List ℤ) (updates before : List A) → p.reach ≡ R.NoCells → before ≡ scattered rule z s starts updates before
  without-cells rule z starts updates before e = sym (nothing rule z s starts updates before (at-valid s r.accepted) (dest-zero e))

  pub without-number : (starts : List ℤ) → p.reach ≡ R.NoCells → 0 ≡ slid_scatter s starts
  without-number starts e = no_number s starts (at-valid s r.accepted) (dest-zero e)
