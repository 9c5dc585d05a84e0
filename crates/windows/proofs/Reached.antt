-- The test of 9 gives what a window asks of a side. Assumes nothing.
use mathlib.Core.Path.{◌≡◌, refl, sym, ◌∙◌}
use mathlib.Core.Bool.{Bool, true, false, cond, ◌&&◌, true≢false}
use mathlib.Core.List.{List}
use Prim.Native.Nat.{ℕ, ◌<◌, ◌≤◌, ◌^◌}
use native.Mathlib.Omega.{arith}
use lib.ListN.{length, get_or, take}
use lib.Seq.{length-take-le}
use lib.IntN.{ℤ, pos, ◌+ℤ◌}
use lib.Signed.{le_z, lt_z}
use Rattle.integer.specs.Z.{up, ≤-from, <-from}
use Rattle.integer.specs.Laws.{≤ℤ-trans, ≤ℤ-<ℤ-trans}
use Rattle.indexing.specs.Coordinates.{product, unravel, InSlice}
use Rattle.indexing.specs.Odometer.{offset_at}
use Rattle.indexing.proofs.Linear.{unravel-within}
use Rattle.indexing.specs.Reach.{lowest, highest}
use Rattle.layout.specs.Answers.{is_done}
use Rattle.layout.specs.Nested.{has_zero}
use Rattle.layout.specs.Reach.{view_reach, buffer_bounds}
use Rattle.layout.specs.Inside.{reach-inside, cell-inside}
use Rattle.layout.specs.declared.Reach.{Reach}
use Rattle.layout.specs.declared.Reach.TheVariants as R
use Rattle.layout.specs.Laws.{no_cells}
use Rattle.windows.specs.Windows.{Region}

module _ (ds : List ℕ) (ss : List ℤ) (base : ℤ) (m : ℕ) where
  none-reached : view_reach ds ss base m ≡ R.NoCells → (k : ℕ) → k < product ds → ⊥
  unfolding view_reach
  none-reached e k h = go (has_zero ds) refl e
    where
      cells : (u : Bool) (a b : ℕ) → cond u (R.Cells a b) R.Outside ≡ R.NoCells → ⊥
      cells true a b q = let x : ◌≡◌ {A = ℕ} 0 1 = cc in omega arith
      cells false a b q = let x : ◌≡◌ {A = ℕ} 0 1 = cc in omega arith

      go : (t : Bool) → has_zero ds ≡ t
          → cond t (cond (le_z (pos 0) base && le_z base (pos m)) R.NoCells R.Outside)
          (cond (le_z (pos 0) (base +ℤ lowest ss ds) && lt_z (base +ℤ highest ss ds) (pos m)) (R.Cells (up (base +ℤ lowest ss ds)) (up (base +ℤ highest ss ds))) R.Outside)
          ≡ R.NoCells → ⊥
      go true f q = omega (arith, no_cells ds f)
      go false f q = cells (le_z (pos 0) (base +ℤ lowest ss ds) && lt_z (base +ℤ highest ss ds) (pos m)) (up (base +ℤ lowest ss ds)) (up (base +ℤ highest ss ds)) q

  by-reach : length ss ≡ length ds → (view : ℕ) (r : Reach) → view_reach ds ss base m ≡ r → is_done (buffer_bounds view r) ≡ true → (k : ℕ) → k < product ds → InSlice m (offset_at base ds ss k)
  unfolding offset_at
  by-reach l view (R.Cells low high) e t k h =
      let i = reach-inside ds ss base m low high e in
      let c = cell-inside ds ss base m low high l i (unravel ds k) (unravel-within ds k h) in
      (≤ℤ-trans (≤-from (pos 0) (pos low) (omega arith)) c.0, ≤ℤ-<ℤ-trans c.1 (<-from (pos high) (pos m) (omega (arith, i.fits))))
  by-reach l view R.NoCells e t k h = absurd (none-reached e k h)
  by-reach l view R.Outside e t k h = absurd (true≢false (sym t))

pub reached : (base : ℤ) (shape : List ℕ) (strides : List ℤ) (rank m view : ℕ) → rank ≤ length shape → rank ≤ length strides → ((i : ℕ) → i < rank → get_or shape i 0 ≤ 2 ^ 63)
    → is_done (buffer_bounds view (view_reach (take rank shape) (take rank strides) base m)) ≡ true → Region base shape strides rank m
reached base shape strides rank m view le ls f t =
    record {
      extents = le;
      strided = ls;
      few = f;
      inside = by-reach (take rank shape) (take rank strides) base m (length-take-le rank strides ls ∙ sym (length-take-le rank shape le)) view (view_reach (take rank shape) (take rank strides) base m) refl t;
    }
