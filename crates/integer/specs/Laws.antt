-- The laws of ℤ that `lib.IntN` and `lib.Signed` lack. Assumes nothing.
use Rattle.std.specs.Prelude.{◌≡◌, refl, ◌≢◌, ◌⊎◌, ℕ, ◌+◌, ◌*◌, ◌-◌, ◌<◌, ◌≤◌, ℤ, pos, negsuc, neg_ℤ, ◌+ℤ◌, ◌*ℤ◌, Bool, true, false, cond, ◌≤ℤ◌, ◌<ℤ◌}
use Rattle.std.proofs.Common.{sym, ap, ◌∙◌, inl, inr, ⊎_elim, mul-le-mul_right, arith, eqb-true, eq-eqb, true≢false, SFits}
use Rattle.std.proofs.Math.IntN.{+ℤ_assoc, +ℤ_comm, *ℤ_comm, zero-*ℤ, one, *ℤ-one}
use Rattle.std.specs.Int.Signed.{≤ℤ_refl, le_z}
use Rattle.std.specs.Int.{Width, w64}
use Rattle.std.proofs.Math.Facts.{sfits_lit}
use Rattle.integer.specs.Defs.{min_ℤ, max_ℤ, eq_z}
use Rattle.integer.specs.Z.{≤-to, ≤-from, <-from, znorm, zflat, zfacts, up-*pos, dn-*pos, known}

-- ---- the order
pub ≤ℤ-trans : {a b c : ℤ} → a ≤ℤ b → b ≤ℤ c → a ≤ℤ c
≤ℤ-trans {a} {b} {c} h k = ≤-from a c (omega (arith, zfacts))

pub ≤ℤ-<ℤ-trans : {a b c : ℤ} → a ≤ℤ b → b <ℤ c → a <ℤ c
≤ℤ-<ℤ-trans {a} {b} {c} h k = <-from a c (omega (arith, zfacts))

pub <ℤ→≤ℤ : {a b : ℤ} → a <ℤ b → a ≤ℤ b
<ℤ→≤ℤ {a} {b} h = ≤-from a b (omega (arith, zfacts))

pub ≤ℤ-total : (a b : ℤ) → (a ≤ℤ b) ⊎ (b <ℤ a)
≤ℤ-total a b = go (le_z a b) refl
  where
    go : (t : Bool) → le_z a b ≡ t → (a ≤ℤ b) ⊎ (b <ℤ a)
    go true e = inl (≤-from a b (omega (arith, zfacts)))
    go false e = inr (<-from b a (omega (arith, zfacts)))

-- ---- sums
pub +ℤ-left-comm : (a b c : ℤ) → a +ℤ (b +ℤ c) ≡ b +ℤ (a +ℤ c)
+ℤ-left-comm a b c = simp znorm (simp zflat (omega arith))

-- both sides of an equation of sums, sorted alike: `simp +ℤ-ac`
pub ruleset +ℤ-ac = (+ℤ_assoc, +ℤ_comm, +ℤ-left-comm)

pub +ℤ-mono : {a b c d : ℤ} → a ≤ℤ b → c ≤ℤ d → (a +ℤ c) ≤ℤ (b +ℤ d)
+ℤ-mono h k = simp znorm (simp zflat (omega (arith, zfacts)))

pub +ℤ-mono-r : (a : ℤ) {b c : ℤ} → b ≤ℤ c → (a +ℤ b) ≤ℤ (a +ℤ c)
+ℤ-mono-r a h = simp znorm (simp zflat (omega (arith, zfacts)))

pub +ℤ-cancel-r : (a b c : ℤ) → a +ℤ c ≡ b +ℤ c → a ≡ b
+ℤ-cancel-r a b c e = simp znorm (simp zflat (omega (arith, simp zflat at (simp znorm at e))))

-- ---- products
pub times-one : (m : ℤ) → m *ℤ pos 1 ≡ m
unfolding one
times-one m = *ℤ-one m

mul-mono-pos : (a b : ℤ) (k : ℕ) → a ≤ℤ b → (a *ℤ pos k) ≤ℤ (b *ℤ pos k)
mul-mono-pos a b k h = ≤-from (a *ℤ pos k) (b *ℤ pos k) (simp (up-*pos, dn-*pos) (omega (arith, mul-le-mul_right k (≤-to a b h))))

pub *ℤ-mono-r : (a b c : ℤ) → pos 0 ≤ℤ c → a ≤ℤ b → (a *ℤ c) ≤ℤ (b *ℤ c)
*ℤ-mono-r a b (pos k) p h = mul-mono-pos a b k h
*ℤ-mono-r a b (negsuc k) p h = absurd p.le

pub *ℤ-mono-l : (a b c : ℤ) → pos 0 ≤ℤ c → a ≤ℤ b → (c *ℤ a) ≤ℤ (c *ℤ b)
*ℤ-mono-l a b c p h = rw (*ℤ_comm c a, *ℤ_comm c b) (*ℤ-mono-r a b c p h)

pub *ℤ-nonneg : (a b : ℤ) → pos 0 ≤ℤ a → pos 0 ≤ℤ b → pos 0 ≤ℤ (a *ℤ b)
*ℤ-nonneg (pos a) (pos b) p q = ≤-from (pos 0) (pos (a * b)) (omega arith)
*ℤ-nonneg (pos a) (negsuc b) p q = absurd q.le
*ℤ-nonneg (negsuc a) b p q = absurd p.le

pub *ℤ-nonpos : (a b : ℤ) → a ≤ℤ pos 0 → pos 0 ≤ℤ b → (a *ℤ b) ≤ℤ pos 0
*ℤ-nonpos a b p q = rw (← zero-*ℤ b) (*ℤ-mono-r a (pos 0) b q p)

-- by a number that is not positive, the order turns
pub *ℤ-mono-neg : (a b c : ℤ) → c ≤ℤ pos 0 → a ≤ℤ b → (c *ℤ b) ≤ℤ (c *ℤ a)
*ℤ-mono-neg a b c p h =
    let k : (neg_ℤ c *ℤ a) ≤ℤ (neg_ℤ c *ℤ b) = *ℤ-mono-l a b (neg_ℤ c) (simp znorm (simp zflat (omega (arith, zfacts)))) h in
    simp znorm (simp zflat (omega (arith, simp zflat at (simp znorm at k))))

pub eq_z-true : (a b : ℤ) → eq_z a b ≡ true → a ≡ b
eq_z-true (pos a) (pos b) e = ap pos (eqb-true a b e)
eq_z-true (pos a) (negsuc b) e = absurd (true≢false (sym e))
eq_z-true (negsuc a) (pos b) e = absurd (true≢false (sym e))
eq_z-true (negsuc a) (negsuc b) e = ap negsuc (eqb-true a b e)

pub eq_z-refl : (a : ℤ) → eq_z a a ≡ true
eq_z-refl (pos a) = eq-eqb a a refl
eq_z-refl (negsuc a) = eq-eqb a a refl

pub eq_z-false : (a b : ℤ) → eq_z a b ≡ false → a ≢ b
eq_z-false a b e q = true≢false (sym (eq_z-refl a) ∙ ap (eq_z a) q ∙ e)

-- ---- the least and the greatest of two
by-le_z : (a b x y : ℤ) (P : ℤ → Type 0) → (a ≤ℤ b → P x) → (b ≤ℤ a → P y) → P (cond (le_z a b) x y)
by-le_z a b x y P f g = go (le_z a b) refl
  where
    go : (t : Bool) → le_z a b ≡ t → P (cond t x y)
    go true e = f (≤-from a b (omega (arith, zfacts)))
    go false e = g (≤-from b a (omega (arith, zfacts)))

-- by cases: `min_ℤ-by a b (λ m. m ≤ℤ c) (λ h. ..) (λ h. ..)`
pub min_ℤ-by : (a b : ℤ) (P : ℤ → Type 0) → (a ≤ℤ b → P a) → (b ≤ℤ a → P b) → P (min_ℤ a b)
min_ℤ-by a b P f g = by-le_z a b a b P f g

pub max_ℤ-by : (a b : ℤ) (P : ℤ → Type 0) → (a ≤ℤ b → P b) → (b ≤ℤ a → P a) → P (max_ℤ a b)
max_ℤ-by a b P f g = by-le_z a b b a P f g

pub min_ℤ-l : (a b : ℤ) → min_ℤ a b ≤ℤ a
min_ℤ-l a b = min_ℤ-by a b (λ m. m ≤ℤ a) (λ h. ≤ℤ_refl a) (λ h. h)

pub min_ℤ-r : (a b : ℤ) → min_ℤ a b ≤ℤ b
min_ℤ-r a b = min_ℤ-by a b (λ m. m ≤ℤ b) (λ h. h) (λ h. ≤ℤ_refl b)

pub max_ℤ-l : (a b : ℤ) → a ≤ℤ max_ℤ a b
max_ℤ-l a b = max_ℤ-by a b (λ m. a ≤ℤ m) (λ h. h) (λ h. ≤ℤ_refl a)

pub max_ℤ-r : (a b : ℤ) → b ≤ℤ max_ℤ a b
max_ℤ-r a b = max_ℤ-by a b (λ m. b ≤ℤ m) (λ h. ≤ℤ_refl b) (λ h. h)

-- a term of an offset, stride times coordinate, of either sign: between 0 and its value at the last coordinate
pub term-low : (s c m : ℤ) → pos 0 ≤ℤ c → c ≤ℤ m → min_ℤ (pos 0) (s *ℤ m) ≤ℤ (s *ℤ c)
term-low s c m h k = ⊎_elim
    (λ p. ≤ℤ-trans (min_ℤ-l (pos 0) (s *ℤ m)) (*ℤ-nonneg s c p h))
    (λ p. ≤ℤ-trans (min_ℤ-r (pos 0) (s *ℤ m)) (*ℤ-mono-neg c m s (<ℤ→≤ℤ p) k))
    (≤ℤ-total (pos 0) s)

pub term-high : (s c m : ℤ) → pos 0 ≤ℤ c → c ≤ℤ m → (s *ℤ c) ≤ℤ max_ℤ (pos 0) (s *ℤ m)
term-high s c m h k = ⊎_elim
    (λ p. ≤ℤ-trans (*ℤ-mono-l c m s p k) (max_ℤ-r (pos 0) (s *ℤ m)))
    (λ p. ≤ℤ-trans (*ℤ-nonpos s c (<ℤ→≤ℤ p) h) (max_ℤ-l (pos 0) (s *ℤ m)))
    (≤ℤ-total (pos 0) s)

-- ---- the embedding of ℕ
pub pos-≤ : {m n : ℕ} → m ≤ n → pos m ≤ℤ pos n
pos-≤ {m} {n} h = ≤-from (pos m) (pos n) (omega arith)

pub ≤-pos : {m n : ℕ} → pos m ≤ℤ pos n → m ≤ n
≤-pos {m} {n} h = omega (arith, zfacts)

-- ---- ranges
pub sfits-between : {w : Width} (a b c : ℤ) → SFits w a → SFits w c → a ≤ℤ b → b ≤ℤ c → SFits w b
sfits-between a b c fa fc h k = simp znorm (simp zflat (omega (arith, ≤-to, known fa, known fc)))

-- ---- a sum of two naturals of which one or both are negated
pub both-minus : (a b : ℕ) → neg_ℤ (pos a) +ℤ neg_ℤ (pos b) ≡ neg_ℤ (pos (a + b))
both-minus a b = simp znorm (simp zflat (omega arith))

pub minus-below : (a b : ℕ) → a < b → pos a +ℤ neg_ℤ (pos b) ≡ neg_ℤ (pos (b - a))
minus-below a b h = simp znorm (simp zflat (omega arith))

pub minus-above : (a b : ℕ) → b ≤ a → pos a +ℤ neg_ℤ (pos b) ≡ pos (a - b)
minus-above a b h = simp znorm (simp zflat (omega arith))

pub plus-below : (a b : ℕ) → b < a → neg_ℤ (pos a) +ℤ pos b ≡ neg_ℤ (pos (a - b))
plus-below a b h = simp znorm (simp zflat (omega arith))

pub plus-above : (a b : ℕ) → a ≤ b → neg_ℤ (pos a) +ℤ pos b ≡ pos (b - a)
plus-above a b h = simp znorm (simp zflat (omega arith))

-- ---- a stride times a coordinate lies between 0 and the stride times the last
pub term_fits : (s : ℤ) (c d : ℕ) → c < d → SFits w64 (s *ℤ pos (d - 1)) → SFits w64 (s *ℤ pos c)
term_fits s c d h f =
    let z : SFits w64 (pos 0) = sfits_lit {z = pos 0} tt in
    sfits-between (min_ℤ (pos 0) (s *ℤ pos (d - 1))) (s *ℤ pos c) (max_ℤ (pos 0) (s *ℤ pos (d - 1)))
    (min_ℤ-by (pos 0) (s *ℤ pos (d - 1)) (λ x. SFits w64 x) (λ k. z) (λ k. f))
    (max_ℤ-by (pos 0) (s *ℤ pos (d - 1)) (λ x. SFits w64 x) (λ k. f) (λ k. z))
    (term-low s (pos c) (pos (d - 1)) (pos-≤ (omega arith)) (pos-≤ (omega arith)))
    (term-high s (pos c) (pos (d - 1)) (pos-≤ (omega arith)) (pos-≤ (omega arith)))
