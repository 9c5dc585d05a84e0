-- The least and the greatest sum that strides make over extents, and that every coordinate's offset lies between them. Assumes nothing.
use Rattle.std.specs.Prelude.{◌≡◌, refl, Bool, true, false, not, cond, List, [], ◌∷◌, ℕ, zero, suc, ◌*◌, ◌-◌, ◌<◌, ◌≤◌, length, ℤ, pos, negsuc, neg_ℤ, ◌+ℤ◌, ◌*ℤ◌, ◌≤ℤ◌}
use Rattle.std.proofs.Common.{sym, ap, ap₂, ◌∙◌, arith}
use Rattle.std.proofs.Math.Dec.{leb-zero}
use Rattle.std.proofs.Math.IntN.{*ℤ-zero}
use Rattle.std.specs.Int.Signed.{≤ℤ_refl}
use Rattle.integer.specs.Defs.{is_neg, min_ℤ, max_ℤ}
use Rattle.integer.specs.Laws.{term-low, term-high, pos-≤, +ℤ-mono}
use Rattle.indexing.specs.Coordinates.{dot, Within}
use Rattle.indexing.specs.Odometer.{AllPos}
use Rattle.indexing.specs.Reach.{below_zero, above_zero, lowest, highest}

pub below-neg : (n : ℕ) → below_zero (neg_ℤ (pos n)) ≡ neg_ℤ (pos n)
below-neg zero = refl
below-neg (suc n) = refl

pub above-neg : (n : ℕ) → above_zero (neg_ℤ (pos n)) ≡ pos 0
above-neg zero = refl
above-neg (suc n) = refl

below-is : (z : ℤ) → min_ℤ (pos 0) z ≡ below_zero z
below-is (pos n) = ap (λ (t : Bool). cond t (pos 0) (pos n)) (leb-zero n)
below-is (negsuc n) = refl

above-is : (z : ℤ) → max_ℤ (pos 0) z ≡ above_zero z
above-is (pos n) = ap (λ (t : Bool). cond t (pos n) (pos 0)) (leb-zero n)
above-is (negsuc n) = refl

axis-low : (s : ℤ) (c d : ℕ) → c < d → below_zero (s *ℤ pos (d - 1)) ≤ℤ (s *ℤ pos c)
axis-low s c d h = rw (← below-is (s *ℤ pos (d - 1))) (term-low s (pos c) (pos (d - 1)) (pos-≤ (omega arith)) (pos-≤ (omega arith)))

axis-high : (s : ℤ) (c d : ℕ) → c < d → (s *ℤ pos c) ≤ℤ above_zero (s *ℤ pos (d - 1))
axis-high s c d h = rw (← above-is (s *ℤ pos (d - 1))) (term-high s (pos c) (pos (d - 1)) (pos-≤ (omega arith)) (pos-≤ (omega arith)))

pub dot-low : (ss : List ℤ) (ds cs : List ℕ) → length ss ≤ length ds → Within ds cs → lowest ss ds ≤ℤ dot ss cs
unfolding Within lowest dot
dot-low [] ds cs h w = ≤ℤ_refl (pos 0)
dot-low (s ∷ ss) [] cs h w = absurd (omega arith)
dot-low (s ∷ ss) (d ∷ ds) [] h w = absurd w
dot-low (s ∷ ss) (d ∷ ds) (c ∷ cs) h w =
    +ℤ-mono (axis-low s c d w.0) (dot-low ss ds cs (omega arith) w.1)

pub dot-high : (ss : List ℤ) (ds cs : List ℕ) → length ss ≤ length ds → Within ds cs → dot ss cs ≤ℤ highest ss ds
unfolding Within highest dot
dot-high [] ds cs h w = ≤ℤ_refl (pos 0)
dot-high (s ∷ ss) [] cs h w = absurd (omega arith)
dot-high (s ∷ ss) (d ∷ ds) [] h w = absurd w
dot-high (s ∷ ss) (d ∷ ds) (c ∷ cs) h w =
    +ℤ-mono (axis-high s c d w.0) (dot-high ss ds cs (omega arith) w.1)

pub offset-low : (base : ℤ) (ss : List ℤ) (ds cs : List ℕ) → length ss ≤ length ds → Within ds cs → (base +ℤ lowest ss ds) ≤ℤ (base +ℤ dot ss cs)
offset-low base ss ds cs h w = +ℤ-mono (≤ℤ_refl base) (dot-low ss ds cs h w)

pub offset-high : (base : ℤ) (ss : List ℤ) (ds cs : List ℕ) → length ss ≤ length ds → Within ds cs → (base +ℤ dot ss cs) ≤ℤ (base +ℤ highest ss ds)
offset-high base ss ds cs h w = +ℤ-mono (≤ℤ_refl base) (dot-high ss ds cs h w)

-- ---- both are the offset of a cell
-- the coordinate where each stride of one sign is at its last place and the others at 0
corner_of : (ℤ → Bool) → List ℤ → List ℕ → List ℕ
corner_of far ss [] = []
corner_of far [] (d ∷ ds) = 0 ∷ corner_of far [] ds
corner_of far (s ∷ ss) (d ∷ ds) = cond (far s) (d - 1) 0 ∷ corner_of far ss ds

corner-within : (far : ℤ → Bool) (ss : List ℤ) (ds : List ℕ) → AllPos ds → Within ds (corner_of far ss ds)
unfolding corner_of Within AllPos
corner-within far ss [] p = tt
corner-within far [] (d ∷ ds) p = (p.0, corner-within far [] ds p.1)
corner-within far (s ∷ ss) (d ∷ ds) p = (go (far s), corner-within far ss ds p.1)
  where
    go : (t : Bool) → cond t (d - 1) 0 < d
    go true = omega (arith, p.0)
    go false = p.0

not_neg : ℤ → Bool
not_neg s = not (is_neg s)

minus_is : (s m : ℕ) → below_zero (neg_ℤ (pos (suc s * m))) ≡ neg_ℤ (pos (suc s * m))
minus_is s m = go (suc s * m)
  where
    go : (n : ℕ) → below_zero (neg_ℤ (pos n)) ≡ neg_ℤ (pos n)
    go zero = refl
    go (suc n) = refl

minus-none : (s m : ℕ) → above_zero (neg_ℤ (pos (suc s * m))) ≡ pos 0
minus-none s m = go (suc s * m)
  where
    go : (n : ℕ) → above_zero (neg_ℤ (pos n)) ≡ pos 0
    go zero = refl
    go (suc n) = refl

pub lowest-cell : (ss : List ℤ) (ds : List ℕ) → AllPos ds → (cs : List ℕ) × Within ds cs × (dot ss cs ≡ lowest ss ds)
unfolding dot corner_of lowest
lowest-cell ss ds p = (corner_of is_neg ss ds, corner-within is_neg ss ds p, is ss ds)
  where
    is : (ss : List ℤ) (ds : List ℕ) → dot ss (corner_of is_neg ss ds) ≡ lowest ss ds
    is [] ds = refl
    is (s ∷ ss) [] = refl
    is (pos s ∷ ss) (d ∷ ds) = ap₂ ◌+ℤ◌ (*ℤ-zero (pos s)) (is ss ds)
    is (negsuc s ∷ ss) (d ∷ ds) = ap₂ ◌+ℤ◌ (sym (minus_is s (d - 1))) (is ss ds)

pub highest-cell : (ss : List ℤ) (ds : List ℕ) → AllPos ds → (cs : List ℕ) × Within ds cs × (dot ss cs ≡ highest ss ds)
unfolding dot corner_of highest not_neg
highest-cell ss ds p = (corner_of not_neg ss ds, corner-within not_neg ss ds p, is ss ds)
  where
    is : (ss : List ℤ) (ds : List ℕ) → dot ss (corner_of not_neg ss ds) ≡ highest ss ds
    is [] ds = refl
    is (s ∷ ss) [] = refl
    is (pos s ∷ ss) (d ∷ ds) = ap (λ (z : ℤ). pos s *ℤ pos (d - 1) +ℤ z) (is ss ds)
    is (negsuc s ∷ ss) (d ∷ ds) = ap₂ ◌+ℤ◌ (*ℤ-zero (negsuc s) ∙ sym (minus-none s (d - 1))) (is ss ds)
