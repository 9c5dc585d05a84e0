-- How many axes are chosen, and what is read of them again. Assumes nothing.
use Rattle.std.specs.Prelude.{Option, Some, None}
use mathlib.Core.Path.{◌≡◌, refl, ap, ◌∙◌}
use mathlib.Core.Bool.{Bool, true, false, cond}
use mathlib.Core.List.{List, [], ◌∷◌, map}
use Prim.Native.Nat.{ℕ, zero, suc, ◌<◌, ◌≤◌}
use native.Mathlib.Nat.{mul-le-mul_left, mul-le-mul_right, mul-one, one-mul}
use native.Mathlib.Omega.{arith}
use lib.ListN.{length, take, get_or, length-map}
use lib.IntN.{ℤ}
use Rattle.indexing.specs.Coordinates.{product}
use Rattle.indexing.specs.Odometer.{AllPos}
use Rattle.indexing.proofs.Fusion.{product-pos}
use Rattle.layout.specs.Layouts.{rank_limit, padded}
use Rattle.layout.specs.Nested.{has_zero}
use Rattle.layout.proofs.Fill.{padded-back}
use Rattle.checks.proofs.Held.{length-padded, take-map}
use Rattle.fused_axes.specs.declared.FusedAxis.{FusedAxis}
use Rattle.fused_axes.specs.Fusing.{the_axis, axes_of, long_axes, sorted, merged_dim, merged_by, merged_from, merged, unit_axis, zero_axis, fused, kept, sorts, copy_axes}
use Rattle.fused_axes.specs.Same.{merged-count}
use Rattle.fused_axes.proofs.Turns.{axes-count, long-count, sorted-count}

-- ---- an extent is at most the number of cells
pub each-most : (ds : List ℕ) (i : ℕ) → AllPos ds → get_or ds i 0 ≤ product ds
unfolding product AllPos
each-most [] i p = omega arith
each-most (d ∷ ds) zero p =
    let h : 1 ≤ product ds = product-pos ds p.1 in
    omega (arith, mul-le-mul_left d h, mul-one d)
each-most (d ∷ ds) (suc i) p =
    let h : 1 ≤ d = p.0 in
    omega (arith, each-most ds i p.1, mul-le-mul_right (product ds) h, one-mul (product ds))

-- ---- how many axes there are
merged-from-some : (l : List FusedAxis) (a : FusedAxis) → 0 < length (merged_from a l)
unfolding merged_from
merged-from-some [] a = omega arith
merged-from-some (b ∷ l) a = go (merged_dim a b) (λ c. merged-from-some l c)
  where
    go : (x : Option ℕ) → ((c : FusedAxis) → 0 < length (merged_from c l)) → 0 < length (merged_by x a b (λ c. merged_from c l))
    go (Some n) ih = ih (the_axis n a.dst a.src)
    go None ih = omega arith

merged_some : (l : List FusedAxis) → 0 < length (merged l)
unfolding merged
merged_some [] = omega arith
merged_some (a ∷ l) = merged-from-some l a

merged-most : (l : List FusedAxis) (n : ℕ) → length l ≤ n → 1 ≤ n → length (merged l) ≤ n
unfolding merged
merged-most [] n h k = k
merged-most (a ∷ l) n h k = omega (arith, merged-count l a)

-- at least one, and no more than were given
pub chosen-some : (ds : List ℕ) (ts ss : List ℤ) → 0 < length (copy_axes ds ts ss)
unfolding copy_axes fused kept
chosen-some ds ts ss = go (sorts ds ts) (has_zero ds)
  where
    go : (t u : Bool) → 0 < length (cond t (cond u (zero_axis ∷ []) (merged (sorted (long_axes (axes_of ds ts ss))))) (merged (long_axes (axes_of ds ts ss))))
    go true true = omega arith
    go true false = merged_some (sorted (long_axes (axes_of ds ts ss)))
    go false u = merged_some (long_axes (axes_of ds ts ss))

pub chosen-count : (ds : List ℕ) (ts ss : List ℤ) → length ds ≤ rank_limit → length (copy_axes ds ts ss) ≤ rank_limit
unfolding copy_axes fused kept
chosen-count ds ts ss h = go (sorts ds ts) (has_zero ds)
  where
    go : (t u : Bool) → length (cond t (cond u (zero_axis ∷ []) (merged (sorted (long_axes (axes_of ds ts ss))))) (merged (long_axes (axes_of ds ts ss)))) ≤ rank_limit
    go true true = omega arith
    go true false = merged-most (sorted (long_axes (axes_of ds ts ss))) rank_limit (omega (arith, sorted-count ds ts ss)) (omega arith)
    go false u = merged-most (long_axes (axes_of ds ts ss)) rank_limit (omega (arith, long-count (axes_of ds ts ss), axes-count ds ts ss)) (omega arith)

-- ---- what is read of the held axes again
module _ {B : Type 0} (f : FusedAxis → B) (l : List FusedAxis) (h : length l ≤ rank_limit) where
  pub held-part : take (length l) (map f (padded rank_limit unit_axis l)) ≡ map f l
  held-part = take-map f (length l) (padded rank_limit unit_axis l) ∙ ap (map f) (padded-back rank_limit unit_axis (length l) l refl h)

  pub held-length : length (map f (padded rank_limit unit_axis l)) ≡ rank_limit
  held-length = rw length-map (length-padded rank_limit unit_axis l)
