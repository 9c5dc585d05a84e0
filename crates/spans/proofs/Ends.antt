-- The reach of a view by the sums that the code makes. Assumes nothing.
use Rattle.std.specs.Prelude.{Option, Some, None, option_and_then}
use mathlib.Core.Path.{◌≡◌, refl, sym, ap, ap₂, ◌∙◌}
use mathlib.Core.Bool.{Bool, true, false, cond, ◌&&◌}
use mathlib.Core.List.{List, [], ◌∷◌}
use Prim.Native.Nat.{ℕ, suc, ◌+◌, ◌*◌, ◌-◌, ◌<◌, ◌≤◌, ◌^◌}
use native.Mathlib.Omega.{arith}
use borrow.Author.Tests.{lt-ltb, le-ltb, ltb-true, ltb-false, le-leb, lt-leb}
use lib.Dec.{ltb}
use lib.IntN.{ℤ, pos, negsuc, neg_ℤ, nat_abs, ◌+ℤ◌, ◌*ℤ◌, neg_ℤ-+ℤ}
use lib.Signed.{le_z, lt_z, ◌<ℤ◌}
use Rattle.integer.specs.Laws.{minus-above}
use Rattle.integer.specs.Z.{up, zfacts, eq-by, v, minus, ◌⊕◌}
use Rattle.integer.specs.Defs.{checked_u, is_neg}
use Rattle.integer.specs.Machine.{checked_u-yes, checked_u-fits, checked_u-over}
use Rattle.indexing.specs.Reach.{below_zero, above_zero, lowest, highest}
use Rattle.indexing.proofs.Reach.{below-neg, above-neg}
use Rattle.layout.specs.declared.Reach.{Reach}
use Rattle.layout.specs.declared.Reach.TheVariants as R
use Rattle.layout.specs.Nested.{has_zero}
use Rattle.layout.specs.Sums.{sum_axes, side_at, side_reach, high_by, low_by, cells_within}
use Rattle.layout.specs.Reach.{view_reach}
use Rattle.spans.proofs.Turns.{sum-checked}

below_one : (s : ℤ) (m : ℕ) → below_zero (s *ℤ pos m) ≡ neg_ℤ (pos (cond (is_neg s) (nat_abs s * m) 0))
below_one (pos a) m = refl
below_one (negsuc a) m = below-neg (suc a * m)

above-one : (s : ℤ) (m : ℕ) → above_zero (s *ℤ pos m) ≡ pos (cond (is_neg s) 0 (nat_abs s * m))
above-one (pos a) m = refl
above-one (negsuc a) m = above-neg (suc a * m)

pub lowest-is : (i : ℕ) (ds : List ℕ) (ss : List ℤ) → lowest ss ds ≡ neg_ℤ (pos (sum_axes (side_at true) i ds ss))
unfolding lowest sum_axes
lowest-is i [] [] = refl
lowest-is i [] (s ∷ ss) = refl
lowest-is i (d ∷ ds) [] = refl
lowest-is i (d ∷ ds) (s ∷ ss) =
    ap₂ ◌+ℤ◌ (below_one s (d - 1)) (lowest-is (suc i) ds ss)
    ∙ sym (neg_ℤ-+ℤ (pos (side_at true i d s)) (pos (sum_axes (side_at true) (suc i) ds ss)))

pub highest-is : (i : ℕ) (ds : List ℕ) (ss : List ℤ) → highest ss ds ≡ pos (sum_axes (side_at false) i ds ss)
unfolding highest sum_axes
highest-is i [] [] = refl
highest-is i [] (s ∷ ss) = refl
highest-is i (d ∷ ds) [] = refl
highest-is i (d ∷ ds) (s ∷ ss) = ap₂ ◌+ℤ◌ (above-one s (d - 1)) (highest-is (suc i) ds ss)

-- at − down, as an integer
apart_low : (at down : ℕ) → at < down → pos at +ℤ neg_ℤ (pos down) ≡ negsuc (down - suc at)
apart_low at down h = eq-by (v (pos at) ⊕ minus (v (pos down))) (v (negsuc (down - suc at))) (omega arith)

-- the cells, by the two sums
abbrev spread : ℤ → ℕ → ℕ → Reach
spread low high len = cond (le_z (pos 0) low && lt_z (pos high) (pos len)) (R.Cells (up low) high) R.Outside

module _ (at down above len : ℕ) (n : len < 2 ^ 64) where
  high-cells : down ≤ at → high_by (option_and_then (λ e. checked_u (at + e)) (checked_u above)) (at - down) len ≡ spread (pos at +ℤ neg_ℤ (pos down)) (at + above) len
  high-cells h = rw (sum-checked at above, minus-above at down h, le-leb 0 (at - down) (omega arith)) (go (checked_u (at + above)) refl)
    where
      go : (x : Option ℕ) → checked_u (at + above) ≡ x → high_by (checked_u (at + above)) (at - down) len ≡ cond (ltb (at + above) len) (R.Cells (at - down) (at + above)) R.Outside
      go (Some t) e = rw e (ap (λ (k : ℕ). cond (ltb k len) (R.Cells (at - down) k) R.Outside) (sym (checked_u-fits (at + above) t e)))
      go None e = rw (e, le-ltb (at + above) len (omega (arith, checked_u-over (at + above) e)))

  pub two-sums : at < 2 ^ 64 → cells_within at (checked_u down) (checked_u above) len ≡ spread (pos at +ℤ neg_ℤ (pos down)) (at + above) len
  unfolding cells_within
  two-sums m = go (ltb at down) refl
    where
      low : (x : Option ℕ) → checked_u down ≡ x → at < down → low_by (checked_u down) at (checked_u above) len ≡ R.Outside
      low (Some t) e h = rw (e, lt-ltb at t (omega (arith, checked_u-fits down t e)))
      low None e h = rw e

      go : (t : Bool) → ltb at down ≡ t → low_by (checked_u down) at (checked_u above) len ≡ spread (pos at +ℤ neg_ℤ (pos down)) (at + above) len
      go true e = low (checked_u down) refl (ltb-true at down e) ∙ rw (apart_low at down (ltb-true at down e))
      go false e = let h : down ≤ at = ltb-false at down e in rw (← checked_u-yes down (omega arith), e) (high-cells h)

-- the reach of a view with cells
pub cells_are : (ds : List ℕ) (ss : List ℤ) (at len : ℕ) → at < 2 ^ 64 → len < 2 ^ 64 → has_zero ds ≡ false
    → cells_within at (checked_u (side_reach true ds ss)) (checked_u (side_reach false ds ss)) len ≡ view_reach ds ss (pos at) len
unfolding view_reach
cells_are ds ss at len m n z = rw (z, lowest-is 0 ds ss, highest-is 0 ds ss) (two-sums at (side_reach true ds ss) (side_reach false ds ss) len n m)

-- a negative offset is outside
pub negative-outside : (ds : List ℕ) (ss : List ℤ) (offset : ℤ) (len : ℕ) → offset <ℤ pos 0 → R.Outside ≡ view_reach ds ss offset len
unfolding view_reach
negative-outside ds ss (pos n) len h = let z : ⊥ = omega (arith, zfacts) in absurd z
negative-outside ds ss (negsuc n) len h = rw (lowest-is 0 ds ss, further n (side_reach true ds ss)) (go (has_zero ds))
  where
    further : (n k : ℕ) → negsuc n +ℤ neg_ℤ (pos k) ≡ negsuc (n + k)
    further n k = eq-by (v (negsuc n) ⊕ minus (v (pos k))) (v (negsuc (n + k))) (omega arith)

    go : (t : Bool) → R.Outside ≡ cond t R.Outside R.Outside
    go true = refl
    go false = refl

-- a view without cells
pub none_inside : (ds : List ℕ) (ss : List ℤ) (at len : ℕ) → has_zero ds ≡ true → at ≤ len → R.NoCells ≡ view_reach ds ss (pos at) len
unfolding view_reach
none_inside ds ss at len z h = rw (z, le-leb 0 at (omega arith), le-leb at len h)

pub none-outside : (ds : List ℕ) (ss : List ℤ) (at len : ℕ) → has_zero ds ≡ true → len < at → R.Outside ≡ view_reach ds ss (pos at) len
unfolding view_reach
none-outside ds ss at len z h = rw (z, le-leb 0 at (omega arith), lt-leb at len h)
