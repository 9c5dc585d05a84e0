-- What a view's reach says of its cells: each lies in its slice, from the lowest to the highest. Assumes nothing.
use Rattle.std.proofs.Math.Path.{◌≡◌, refl}
use Rattle.std.proofs.Common.{sym, ap, subst, ◌∙◌, le-leb}
use Rattle.std.specs.Prelude.{Bool, ◌&&◌, List, [], ◌∷◌, ℕ, ◌-◌, ◌<◌, length, ℤ, pos, negsuc, ◌+ℤ◌, ◌*ℤ◌, ◌≤ℤ◌, ◌<ℤ◌}
use Rattle.std.proofs.Math.Bool.{true, false, cond}
use native.Mathlib.Omega.{arith}
use Rattle.std.specs.Int.Signed.{le_z, lt_z}
use Rattle.integer.specs.Z.{up, zfacts, ≤-from, <-from}
use Rattle.integer.specs.Laws.{≤ℤ-trans, +ℤ-mono, +ℤ-mono-r}
use Rattle.indexing.specs.Coordinates.{dot, Within}
use Rattle.indexing.specs.Valid.{Covered}
use Rattle.indexing.specs.Reach.{below_zero, above_zero, lowest, highest}
use Rattle.indexing.proofs.Reach.{dot-low, dot-high}
use Rattle.layout.specs.declared.Reach.TheVariants as R
use Rattle.layout.specs.Nested.{has_zero}
use Rattle.layout.specs.Reach.{view_reach}

-- a view with cells: the lowest and the highest are indexes of its slice
pub record Inside (ds : List ℕ) (ss : List ℤ) (offset : ℤ) (len low high : ℕ) : Type 0 where
  pub cells : has_zero ds ≡ false
  pub low-is : pos low ≡ offset +ℤ lowest ss ds
  pub high_is : pos high ≡ offset +ℤ highest ss ds
  pub fits : high < len

up_is : (z : ℤ) → le_z (pos 0) z ≡ true → pos (up z) ≡ z
up_is (pos n) h = refl
up_is (negsuc n) h = let e : ◌≡◌ {A = ℕ} 0 1 = cc in absurd (omega arith)

below-most : (z : ℤ) → below_zero z ≤ℤ pos 0
below-most (pos n) = ≤-from (pos 0) (pos 0) (omega arith)
below-most (negsuc n) = ≤-from (negsuc n) (pos 0) (omega arith)

above-least : (z : ℤ) → pos 0 ≤ℤ above_zero z
above-least (pos n) = ≤-from (pos 0) (pos n) (omega arith)
above-least (negsuc n) = ≤-from (pos 0) (pos 0) (omega arith)

pub low-most : (ss : List ℤ) (ds : List ℕ) → lowest ss ds ≤ℤ pos 0
unfolding lowest
low-most [] ds = ≤-from (pos 0) (pos 0) (omega arith)
low-most (s ∷ ss) [] = ≤-from (pos 0) (pos 0) (omega arith)
low-most (s ∷ ss) (d ∷ ds) = +ℤ-mono (below-most (s *ℤ pos (d - 1))) (low-most ss ds)

pub high-least : (ss : List ℤ) (ds : List ℕ) → pos 0 ≤ℤ highest ss ds
unfolding highest
high-least [] ds = ≤-from (pos 0) (pos 0) (omega arith)
high-least (s ∷ ss) [] = ≤-from (pos 0) (pos 0) (omega arith)
high-least (s ∷ ss) (d ∷ ds) = +ℤ-mono (above-least (s *ℤ pos (d - 1))) (high-least ss ds)

module _ (ds : List ℕ) (ss : List ℤ) (offset : ℤ) (len low high : ℕ) where
  -- the highest is not below the lowest, and the test says that the lowest is not negative
  by_tests : (z y : ℤ) (a b : Bool) → le_z (pos 0) z ≡ a → lt_z y (pos len) ≡ b → z ≤ℤ y → cond (a && b) (R.Cells (up z) (up y)) R.Outside ≡ R.Cells low high → (pos low ≡ z) × (pos high ≡ y) × (high < len)
  by_tests z y true true p q h e =
      let l : up z ≡ low = cc in
      let m : up y ≡ high = cc in
      let n : le_z (pos 0) y ≡ true = at_least y p h in
      (ap pos (sym l) ∙ up_is z p, ap pos (sym m) ∙ up_is y n, below y q n m)
    where
      at_least : (y : ℤ) → le_z (pos 0) z ≡ true → z ≤ℤ y → le_z (pos 0) y ≡ true
      at_least (pos n) p h = le-leb 0 n (omega arith)
      at_least (negsuc n) p h = let x : ⊥ = omega (arith, zfacts) in absurd x

      below : (y : ℤ) → lt_z y (pos len) ≡ true → le_z (pos 0) y ≡ true → up y ≡ high → high < len
      below (pos n) q r m = omega (arith, zfacts)
      below (negsuc n) q r m = let x : ◌≡◌ {A = ℕ} 0 1 = cc in absurd (omega arith)
  by_tests z y true false p q h e = let x : ◌≡◌ {A = ℕ} 0 1 = cc in absurd (omega arith)
  by_tests z y false b p q h e = let x : ◌≡◌ {A = ℕ} 0 1 = cc in absurd (omega arith)

  pub reach-inside : view_reach ds ss offset len ≡ R.Cells low high → Inside ds ss offset len low high
  unfolding view_reach
  reach-inside e = go (has_zero ds) refl e
    where
      none : (a : Bool) → cond a R.NoCells R.Outside ≡ R.Cells low high → ⊥
      none true q = let x : ◌≡◌ {A = ℕ} 0 1 = cc in omega arith
      none false q = let x : ◌≡◌ {A = ℕ} 0 1 = cc in omega arith

      go : (t : Bool) → has_zero ds ≡ t
          → cond t (cond (le_z (pos 0) offset && le_z offset (pos len)) R.NoCells R.Outside)
          (cond (le_z (pos 0) (offset +ℤ lowest ss ds) && lt_z (offset +ℤ highest ss ds) (pos len)) (R.Cells (up (offset +ℤ lowest ss ds)) (up (offset +ℤ highest ss ds))) R.Outside)
          ≡ R.Cells low high
          → Inside ds ss offset len low high
      go true f q = absurd (none (le_z (pos 0) offset && le_z offset (pos len)) q)
      go false f q =
          let r = by_tests (offset +ℤ lowest ss ds) (offset +ℤ highest ss ds) (le_z (pos 0) (offset +ℤ lowest ss ds)) (lt_z (offset +ℤ highest ss ds) (pos len)) refl refl (+ℤ-mono-r offset (≤ℤ-trans (low-most ss ds) (high-least ss ds))) q in
          record { cells = f; low-is = r.0; high_is = r.1; fits = r.2 }

  -- so each cell's place is an index from the lowest to the highest
  pub cell-inside : length ss ≡ length ds → Inside ds ss offset len low high → (cs : List ℕ) → Within ds cs → (pos low ≤ℤ (offset +ℤ dot ss cs)) × ((offset +ℤ dot ss cs) ≤ℤ pos high)
  cell-inside l i cs w = (
    subst (λ (z : ℤ). z ≤ℤ (offset +ℤ dot ss cs)) (sym i.low-is) (+ℤ-mono-r offset (dot-low ss ds cs (omega arith) w)),
    subst (λ (z : ℤ). (offset +ℤ dot ss cs) ≤ℤ z) (sym i.high_is) (+ℤ-mono-r offset (dot-high ss ds cs (omega arith) w)),
  )

  -- and so the slice covers the view
  pub reach-covers : Inside ds ss offset len low high → Covered (record { extents = ds; strides = ss; offset = offset }) len
  reach-covers i =
      record {
        low = subst (λ (z : ℤ). pos 0 ≤ℤ z) i.low-is (≤-from (pos 0) (pos low) (omega arith));
        high = subst (λ (z : ℤ). z <ℤ pos len) i.high_is (<-from (pos high) (pos len) (omega (arith, i.fits)));
      }
