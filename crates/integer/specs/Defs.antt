-- To be believed. What the contracts of `src/` cite. Definitions only.
use Rattle.std.specs.Prelude.{Bool, true, false, cond, ℕ, ◌-◌, ◌%◌, ◌^◌, eqb, ltb, ℤ, pos, negsuc, neg_ℤ, Option, Some, None}
use Rattle.std.specs.Int.Signed.{mag, le_z}

-- z, where an i64 holds it: −2^63 .. 2^63 − 1. (`mag` is n for n and for −n − 1.)
abbrev pub fits_or : Bool → ℤ → Option ℤ
fits_or true z = Some z
fits_or false z = None

unfoldable pub checked : ℤ → Option ℤ
checked z = fits_or (ltb (mag z) (2 ^ 63)) z

-- n, where a u64 holds it: below 2^64
abbrev pub fits_or_u : Bool → ℕ → Option ℕ
fits_or_u true n = Some n
fits_or_u false n = None

unfoldable pub checked_u : ℕ → Option ℕ
checked_u n = fits_or_u (ltb n (2 ^ 64)) n

-- m, or −m
abbrev pub sign_of : Bool → ℕ → ℤ
sign_of true m = neg_ℤ (pos m)
sign_of false m = pos m

abbrev pub is_neg : ℤ → Bool
is_neg (pos n) = false
is_neg (negsuc n) = true

-- z's remainder modulo 2^32, and the number in −2^31 .. 2^31 − 1 with that remainder
abbrev pub rem32 : ℤ → ℕ
rem32 (pos n) = n % 4294967296
rem32 (negsuc n) = 4294967295 - n % 4294967296

abbrev pub half32 : Bool → ℕ → ℤ
half32 true r = pos r
half32 false r = negsuc (4294967295 - r)

unfoldable pub wrap32 : ℤ → ℤ
wrap32 z = half32 (ltb (rem32 z) 2147483648) (rem32 z)

-- the lesser and the greater of two numbers
abbrev pub min_ℤ : ℤ → ℤ → ℤ
min_ℤ a b = cond (le_z a b) a b

abbrev pub max_ℤ : ℤ → ℤ → ℤ
max_ℤ a b = cond (le_z a b) b a

-- ---- a test for equal
abbrev pub eq_z : ℤ → ℤ → Bool
eq_z (pos a) (pos b) = eqb a b
eq_z (pos a) (negsuc b) = false
eq_z (negsuc a) (pos b) = false
eq_z (negsuc a) (negsuc b) = eqb a b
