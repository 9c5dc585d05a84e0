-- What the needs of signed code ask, from orders and equations of ℤ. Assumes nothing.
use Rattle.std.specs.Prelude.{◌≡◌, refl, Bool, true, false, not, ℕ, zero, suc, ◌+◌, ◌*◌, ◌≤◌, ◌<◌, ◌^◌, T, ltb, ℤ, pos, negsuc, nat_abs, neg_ℤ, ◌+ℤ◌, ◌*ℤ◌, ◌≤ℤ◌, ◌<ℤ◌, Option, Some, None, SomeIff, Result, Ok, Err, OkIff}
use Rattle.std.specs.Result.{result_ok}
use Rattle.std.proofs.Common.{sym, ap, subst, ◌∙◌, arith, lt-ltb, le-ltb, ltb-false, ltb-true}
use Rattle.std.specs.Int.Signed.{non_neg, mag}
use Rattle.std.specs.Int.{Width, w64}
use mir.Val.{SFits, Fits, to_z, of_z, bits, hbits}
use Rattle.std.proofs.Math.Facts.{Fits-nat_abs}
use Rattle.integer.specs.Z.{dn, zfacts, known, back, ≤-to, <-from, up, abs_is, add_is, only}
use Rattle.integer.specs.Defs.{checked, checked_u, fits_or, fits_or_u, is_neg}

-- a number that is not negative is its size, and one that is negative the opposite
pub abs-pos : (z : ℤ) → pos 0 ≤ℤ z → pos (nat_abs z) ≡ z
abs-pos (pos n) h = refl
abs-pos (negsuc n) h = absurd h.le

pub abs_neg : (z : ℤ) → z <ℤ pos 0 → pos (nat_abs z) ≡ neg_ℤ z
abs_neg (pos n) h = let x : ⊥ = omega (arith, zfacts) in absurd x
abs_neg (negsuc n) h = refl

non_neg-by : (z : ℤ) → dn z ≤ up z → T (non_neg z)
non_neg-by (pos n) h = tt
non_neg-by (negsuc n) h = let x : ⊥ = omega arith in absurd x

-- what `z as u64` (or `as usize`, `as u32`) asks of a signed number, and what it gives: `as-unsigned tt c.fits.x h`
pub as-unsigned : {w w' : Width} {z : ℤ} → T (ltb (hbits w) (bits w')) → SFits w z → pos 0 ≤ℤ z → T (non_neg (to_z w (of_z w z))) × Fits w' (nat_abs (to_z w (of_z w z)))
as-unsigned {w} {w'} {z} t f h = (non_neg-by (to_z w (of_z w z)) (omega (arith, ≤-to, known f)), subst (λ (y : ℤ). Fits w' (nat_abs y)) (sym (back f)) (Fits-nat_abs t f))

pub as-u64 : {z : ℤ} → SFits w64 z → pos 0 ≤ℤ z → T (non_neg (to_z w64 (of_z w64 z))) × Fits w64 (nat_abs (to_z w64 (of_z w64 z)))
as-u64 f h = as-unsigned tt f h

pub unsigned_is : {w : Width} {z : ℤ} → SFits w z → pos 0 ≤ℤ z → pos (nat_abs (to_z w (of_z w z))) ≡ z
unsigned_is {w} {z} f h = ap (λ (y : ℤ). pos (nat_abs y)) (back f) ∙ abs-pos z h

pub u64-is : {z : ℤ} → SFits w64 z → pos 0 ≤ℤ z → pos (nat_abs (to_z w64 (of_z w64 z))) ≡ z
u64-is f h = unsigned_is f h

-- a test `==` of two signed numbers tells of their bits
pub same_bits : {w : Width} {x y : ℤ} → SFits w x → SFits w y → of_z w x ≡ of_z w y → x ≡ y
same_bits {w} f g e = sym (back f) ∙ ap (to_z w) e ∙ back g

-- ---- `checked`
mag_is : (z : ℤ) (h : ℕ) → 0 < h → h + dn z ≤ up z → h ≤ mag z
mag_is (pos n) h p k = omega arith
mag_is (negsuc n) h p k = omega arith

mag-is' : (z : ℤ) (h : ℕ) → 0 < h → h + up z < dn z → h ≤ mag z
mag-is' (pos n) h p k = omega arith
mag-is' (negsuc n) h p k = omega arith

pub checked-yes : (z : ℤ) → SFits w64 z → Some z ≡ checked z
unfolding checked
checked-yes z f = ap (λ (t : Bool). fits_or t z) (sym (lt-ltb (mag z) (2 ^ 63) f.sfits))

pub checked-high : (z : ℤ) → pos 9223372036854775807 <ℤ z → None ≡ checked z
unfolding checked
checked-high z h = ap (λ (t : Bool). fits_or t z) (sym (le-ltb (mag z) (2 ^ 63) (mag_is z 9223372036854775808 (omega arith) (omega (arith, zfacts)))))

pub checked-low : (z : ℤ) → z <ℤ negsuc 9223372036854775807 → None ≡ checked z
unfolding checked
checked-low z h = ap (λ (t : Bool). fits_or t z) (sym (le-ltb (mag z) (2 ^ 63) (mag-is' z 9223372036854775808 (omega arith) (omega (arith, zfacts)))))

pub checked-plain : (y z : ℤ) → SFits w64 y → y ≡ z → Some y ≡ checked z
checked-plain y z f e = ap Some e ∙ checked-yes z (subst (λ (x : ℤ). SFits w64 x) e f)

-- a result of the machine's, y, that is z
pub checked-is : (y z : ℤ) → SFits w64 y → y ≡ z → Some (to_z w64 (of_z w64 y)) ≡ checked z
checked-is y z f e = ap Some (back f ∙ e) ∙ checked-yes z (subst (λ (x : ℤ). SFits w64 x) e f)

pub checked_u-yes : (n : ℕ) → n < 2 ^ 64 → Some n ≡ checked_u n
unfolding checked_u
checked_u-yes n h = ap (λ (t : Bool). fits_or_u t n) (sym (lt-ltb n (2 ^ 64) h))

pub checked_u-no : (n : ℕ) → 2 ^ 64 ≤ n → None ≡ checked_u n
unfolding checked_u
checked_u-no n h = ap (λ (t : Bool). fits_or_u t n) (sym (le-ltb n (2 ^ 64) h))

pub checked_u-is : (n m : ℕ) → n < 2 ^ 64 → n ≡ m → Some n ≡ checked_u m
checked_u-is n m h e = ap Some e ∙ checked_u-yes m (omega arith)

-- a number that is given exactly where it fits, as std's checked methods give it
pub checked-from : (r : Option ℤ) (z : ℤ) → SomeIff r (SFits w64 z) z → r ≡ checked z
unfolding checked
checked-from (Some x) z h = ap Some h.1 ∙ checked-yes z h.0
checked-from None z h = go (ltb (mag z) (2 ^ 63)) refl
  where
    go : (t : Bool) → ltb (mag z) (2 ^ 63) ≡ t → None ≡ fits_or t z
    go true e = absurd (h (record { sfits = ltb-true (mag z) (2 ^ 63) e }))
    go false e = refl

-- the same, as std's conversions give it
pub checked-ok : {E : Type 0} (r : Result ℤ E) (z : ℤ) → OkIff r (SFits w64 z) z → result_ok r ≡ checked z
checked-ok (Ok x) z h = checked-from (Some x) z h
checked-ok (Err e) z h = checked-from None z h

pub checked_u-from : (r : Option ℕ) (n : ℕ) → SomeIff r (n < 2 ^ 64) n → r ≡ checked_u n
unfolding checked_u
checked_u-from (Some x) n h = ap Some h.1 ∙ checked_u-yes n h.0
checked_u-from None n h = go (ltb n (2 ^ 64)) refl
  where
    go : (t : Bool) → ltb n (2 ^ 64) ≡ t → None ≡ fits_or_u t n
    go true e = absurd (h (ltb-true n (2 ^ 64) e))
    go false e = refl

-- and back, from a value that was matched on
fits_or_u-fits : (t : Bool) (n m : ℕ) → fits_or_u t n ≡ Some m → n ≡ m
fits_or_u-fits true n m e = cc
fits_or_u-fits false n m e = cc

pub checked_u-fits : (n m : ℕ) → checked_u n ≡ Some m → n ≡ m
unfolding checked_u
checked_u-fits n m e = fits_or_u-fits (ltb n (2 ^ 64)) n m e

fits_or_u-over : (t : Bool) (n : ℕ) → fits_or_u t n ≡ None → t ≡ false
fits_or_u-over true n e = cc
fits_or_u-over false n e = refl

pub checked_u-below : (n m : ℕ) → checked_u n ≡ Some m → n < 2 ^ 64
unfolding checked_u
checked_u-below n m e = go (ltb n (2 ^ 64)) refl e
  where
    go : (t : Bool) → ltb n (2 ^ 64) ≡ t → fits_or_u t n ≡ Some m → n < 2 ^ 64
    go true h k = ltb-true n (2 ^ 64) h
    go false h k = let z : ◌≡◌ {A = ℕ} 0 1 = cc in absurd (omega arith)

pub checked_u-over : (n : ℕ) → checked_u n ≡ None → 2 ^ 64 ≤ n
unfolding checked_u
checked_u-over n e = ltb-false n (2 ^ 64) (fits_or_u-over (ltb n (2 ^ 64)) n e)

fits_or-fits : (t : Bool) (z r : ℤ) → fits_or t z ≡ Some r → (z ≡ r) × (t ≡ true)
fits_or-fits true z r e = (cc, refl)
fits_or-fits false z r e = (cc, cc)

pub checked-fits : (z r : ℤ) → checked z ≡ Some r → z ≡ r
unfolding checked
checked-fits z r e = (fits_or-fits (ltb (mag z) (2 ^ 63)) z r e).0

pub checked-sfits : (z r : ℤ) → checked z ≡ Some r → SFits w64 z
unfolding checked
checked-sfits z r e = record { sfits = ltb-true (mag z) (2 ^ 63) (fits_or-fits (ltb (mag z) (2 ^ 63)) z r e).1 }

-- a product by the sizes and the signs
pub mul-same : (a b : ℤ) → is_neg a ≡ is_neg b → a *ℤ b ≡ pos (nat_abs a * nat_abs b)
mul-same (pos a) (pos b) e = refl
mul-same (pos a) (negsuc b) e = cc
mul-same (negsuc a) (pos b) e = cc
mul-same (negsuc a) (negsuc b) e = refl

pub mul-other : (a b : ℤ) → is_neg a ≡ not (is_neg b) → a *ℤ b ≡ neg_ℤ (pos (nat_abs a * nat_abs b))
mul-other (pos a) (pos b) e = cc
mul-other (pos a) (negsuc b) e = refl
mul-other (negsuc a) (pos b) e = refl
mul-other (negsuc a) (negsuc b) e = cc

pub is_neg-yes : (a : ℤ) → a <ℤ pos 0 → is_neg a ≡ true
is_neg-yes (pos n) h = let x : ⊥ = omega (arith, zfacts) in absurd x
is_neg-yes (negsuc n) h = refl

pub is_neg-no : (a : ℤ) → pos 0 ≤ℤ a → is_neg a ≡ false
is_neg-no (pos n) h = refl
is_neg-no (negsuc n) h = absurd h.le

-- the size of a product and of a sum
neg-abs : (n : ℕ) → nat_abs (neg_ℤ (pos n)) ≡ n
neg-abs zero = refl
neg-abs (suc n) = refl

pub abs-mul : (a b : ℤ) → nat_abs (a *ℤ b) ≡ nat_abs a * nat_abs b
abs-mul (pos a) (pos b) = refl
abs-mul (pos a) (negsuc b) = neg-abs (a * suc b)
abs-mul (negsuc a) (pos b) = neg-abs (suc a * b)
abs-mul (negsuc a) (negsuc b) = refl

pub abs-sum : (a b : ℤ) → nat_abs (a +ℤ b) ≤ nat_abs a + nat_abs b
abs-sum a b = omega (arith, abs_is a, abs_is b, abs_is (a +ℤ b), add_is a b, only (a +ℤ b))

-- a product whose size no u64 holds fits no i64
wide-no : (z : ℤ) → 2 ^ 64 ≤ nat_abs z → None ≡ checked z
wide-no (pos n) h = checked-high (pos n) (<-from (pos 9223372036854775807) (pos n) (omega arith))
wide-no (negsuc n) h = checked-low (negsuc n) (<-from (negsuc n) (negsuc 9223372036854775807) (omega arith))

pub mul_wide : (a b : ℤ) → 2 ^ 64 ≤ nat_abs a * nat_abs b → None ≡ checked (a *ℤ b)
mul_wide a b h = wide-no (a *ℤ b) (omega (arith, abs-mul a b))
