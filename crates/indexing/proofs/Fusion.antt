-- Walks that give the same offsets: an axis of extent 1 goes, two axes that are one are fused, at any depth. Assumes nothing.
use Rattle.std.specs.Prelude.{◌≡◌, List, [], ◌∷◌, ◌++◌, ℕ, ◌+◌, ◌*◌, ◌-◌, ◌/◌, ◌%◌, ◌<◌, length, ℤ, pos, ◌+ℤ◌, ◌*ℤ◌}
use Rattle.std.proofs.Common.{sym, ◌∙◌, ap, ap₂, mul-add, mul_assoc, div-one, mul-pos, arith}
use Rattle.std.proofs.Math.Nat.{div-add-mod, div-div-eq-div-mul, mod_def, mod-one}
use Rattle.std.proofs.Math.IntN.{+ℤ_idl, +ℤ_assoc, *ℤ-zero}
use Rattle.integer.specs.Z.{*ℤ-+ℤ, *ℤ-assoc}
use Rattle.indexing.specs.Coordinates.{product, unravel, dot}
use Rattle.indexing.specs.Odometer.{AllPos}

-- ---- two axes that are one

pub mod-fuse : (k p d : ℕ) → k % (p * d) ≡ k % p + p * (k / p % d)
mod-fuse k p d =
    let q : ℕ = k / p in
    let e₁ : p * q + k % p ≡ k = div-add-mod k p in
    let e₂ : p * q ≡ p * (d * (q / d)) + p * (q % d) = ap (λ (n : ℕ). p * n) (sym (div-add-mod q d)) ∙ mul-add p (d * (q / d)) (q % d) in
    let e₃ : p * d * (q / d) ≡ p * (d * (q / d)) = mul_assoc p d (q / d) in
    let e₄ : p * d * (k / (p * d)) ≡ p * d * (q / d) = ap (λ (n : ℕ). p * d * n) (sym (div-div-eq-div-mul k p d)) in
    let e₅ : k % (p * d) ≡ k - p * d * (k / (p * d)) = mod_def k (p * d) in
    omega arith

pub div-fuse : (k p d : ℕ) → k / p / d ≡ k / (p * d)
div-fuse k p d = div-div-eq-div-mul k p d

pub fuse-term : (s t : ℤ) (k p d : ℕ) → t ≡ s *ℤ pos p → s *ℤ pos (k % p) +ℤ t *ℤ pos (k / p % d) ≡ s *ℤ pos (k % (p * d))
fuse-term s t k p d e =
    ap (λ (x : ℤ). s *ℤ pos (k % p) +ℤ x *ℤ pos (k / p % d)) e
    ∙ ap (λ (x : ℤ). s *ℤ pos (k % p) +ℤ x) (*ℤ-assoc s (pos p) (pos (k / p % d)))
    ∙ sym (*ℤ-+ℤ s (pos (k % p)) (pos (p * (k / p % d))))
    ∙ ap (λ (n : ℕ). s *ℤ pos n) (sym (mod-fuse k p d))

-- where the second stride is the first times the first extent, the two axes are one of the product's extent
pub dot-fuse : (s t : ℤ) (ss : List ℤ) (p d : ℕ) (ds : List ℕ) (k : ℕ) → t ≡ s *ℤ pos p
    → dot (s ∷ t ∷ ss) (unravel (p ∷ d ∷ ds) k) ≡ dot (s ∷ ss) (unravel (p * d ∷ ds) k)
unfolding dot unravel
dot-fuse s t ss p d ds k e =
    sym (+ℤ_assoc (s *ℤ pos (k % p)) (t *ℤ pos (k / p % d)) (dot ss (unravel ds (k / p / d))))
    ∙ ap (λ (x : ℤ). x +ℤ dot ss (unravel ds (k / p / d))) (fuse-term s t k p d e)
    ∙ ap (λ (n : ℕ). s *ℤ pos (k % (p * d)) +ℤ dot ss (unravel ds n)) (div-fuse k p d)

pub product-fuse : (p d : ℕ) (ds : List ℕ) → product (p ∷ d ∷ ds) ≡ product (p * d ∷ ds)
unfolding product
product-fuse p d ds = sym (mul_assoc p d (product ds))

-- ---- the same offsets over other axes

-- what holds of the axes that follow holds below any axes
pub under-axes : (ss₁ : List ℤ) (ds₁ : List ℕ) (ss ss' : List ℤ) (ds ds' : List ℕ) → length ss₁ ≡ length ds₁ → ((k : ℕ) → dot ss (unravel ds k) ≡ dot ss' (unravel ds' k))
    → (k : ℕ) → dot (ss₁ ++ ss) (unravel (ds₁ ++ ds) k) ≡ dot (ss₁ ++ ss') (unravel (ds₁ ++ ds') k)
unfolding dot unravel
under-axes [] [] ss ss' ds ds' l h k = h k
under-axes [] (d ∷ ds₁) ss ss' ds ds' l h k = absurd (omega arith)
under-axes (s ∷ ss₁) [] ss ss' ds ds' l h k = absurd (omega arith)
under-axes (s ∷ ss₁) (d ∷ ds₁) ss ss' ds ds' l h k = ap (λ (x : ℤ). s *ℤ pos (k % d) +ℤ x) (under-axes ss₁ ds₁ ss ss' ds ds' (omega arith) h (k / d))

-- an axis of extent 1 adds nothing
pub dot-unit : (s : ℤ) (ss : List ℤ) (ds : List ℕ) (k : ℕ) → dot (s ∷ ss) (unravel (1 ∷ ds) k) ≡ dot ss (unravel ds k)
unfolding dot unravel
dot-unit s ss ds k =
    ap₂ (λ (a b : ℕ). s *ℤ pos a +ℤ dot ss (unravel ds b)) (mod-one k) (div-one k)
    ∙ ap (λ (x : ℤ). x +ℤ dot ss (unravel ds k)) (*ℤ-zero s)
    ∙ +ℤ_idl (dot ss (unravel ds k))

pub drop-unit : (ss₁ : List ℤ) (ds₁ : List ℕ) (s : ℤ) (ss : List ℤ) (ds : List ℕ) → length ss₁ ≡ length ds₁ → (k : ℕ) → dot (ss₁ ++ s ∷ ss) (unravel (ds₁ ++ 1 ∷ ds) k) ≡ dot (ss₁ ++ ss) (unravel (ds₁ ++ ds) k)
drop-unit ss₁ ds₁ s ss ds l = under-axes ss₁ ds₁ (s ∷ ss) ss (1 ∷ ds) ds l (dot-unit s ss ds)

pub fuse-at : (ss₁ : List ℤ) (ds₁ : List ℕ) (s t : ℤ) (ss : List ℤ) (p d : ℕ) (ds : List ℕ) → length ss₁ ≡ length ds₁ → t ≡ s *ℤ pos p
    → (k : ℕ) → dot (ss₁ ++ s ∷ t ∷ ss) (unravel (ds₁ ++ p ∷ d ∷ ds) k) ≡ dot (ss₁ ++ s ∷ ss) (unravel (ds₁ ++ p * d ∷ ds) k)
fuse-at ss₁ ds₁ s t ss p d ds l e = under-axes ss₁ ds₁ (s ∷ t ∷ ss) (s ∷ ss) (p ∷ d ∷ ds) (p * d ∷ ds) l (λ k. dot-fuse s t ss p d ds k e)

-- ---- axes with cells have a product with cells

pub product-pos : (ds : List ℕ) → AllPos ds → 0 < product ds
unfolding AllPos product
product-pos [] p = omega arith
product-pos (d ∷ ds) p = mul-pos p.0 (product-pos ds p.1)
