-- The bytes of a number, the highest first, as std has them. Assumes nothing.
use Rattle.std.proofs.Common.{◌≡◌, refl, ap, ap₂, ℕ, zero, suc, ◌+◌, ◌-◌, ◌*◌, ◌/◌, ◌%◌, ◌^◌, ◌≤◌, List, [], ◌∷◌, length, drop, replicate, arith}
use Rattle.std.specs.Int.{w64, from_be_bytes, bytes_high_first, byte_at}
use lib.Pow.{pow-add}
use borrow.Rule.Slice.PartMut.{put_mid}
use Rattle.job_bytes.specs.Fields.{bytes_of, number_from}

pub eight-suc : (k : ℕ) → 2 ^ (8 * suc k) ≡ 2 ^ (8 * k) * 256
eight-suc k = let e : 8 * suc k ≡ 8 * k + 8 = omega arith in rw e (pow-add 2 (8 * k) 8)

eight-pow : (k : ℕ) → 2 ^ (8 * k) ≡ 256 ^ k
eight-pow zero = refl
eight-pow (suc k) = let p = eight-pow k in let q = eight-suc k in omega arith

byte-high : (k v : ℕ) → v / 2 ^ (8 * k) % 256 ≡ byte_at k v
byte-high zero v = omega arith
byte-high (suc k) v = ap (λ (d : ℕ). v / d % 256) (eight-pow (suc k))

pub bytes-high : (k v : ℕ) → bytes_of k v ≡ bytes_high_first k v
unfolding bytes_of
bytes-high zero v = refl
bytes-high (suc k) v = ap₂ ◌∷◌ (byte-high k v) (bytes-high k v)

-- all but the first d bytes
pub bytes_last : (d n v : ℕ) → drop d (bytes_of (d + n) v) ≡ bytes_of n v
unfolding bytes_of
bytes_last zero n v = let e : 0 + n ≡ n = omega arith in rw e
bytes_last (suc d) n v = let e : suc d + n ≡ suc (d + n) = omega arith in rw e (bytes_last d n v)

-- a word whose last bytes are a field, behind zeros
pub word_of_field : (field : List ℕ) → length field ≤ 8 → from_be_bytes w64 (put_mid (8 - length field) (8 - (8 - length field)) (replicate 8 0) field) ≡ number_from 0 field
unfolding number_from
word_of_field [] h = refl
word_of_field (a ∷ []) h = omega arith
word_of_field (a ∷ b ∷ []) h = omega arith
word_of_field (a ∷ b ∷ c ∷ []) h = omega arith
word_of_field (a ∷ b ∷ c ∷ d ∷ []) h = omega arith
word_of_field (a ∷ b ∷ c ∷ d ∷ e ∷ []) h = omega arith
word_of_field (a ∷ b ∷ c ∷ d ∷ e ∷ f ∷ []) h = omega arith
word_of_field (a ∷ b ∷ c ∷ d ∷ e ∷ f ∷ g ∷ []) h = omega arith
word_of_field (a ∷ b ∷ c ∷ d ∷ e ∷ f ∷ g ∷ i ∷ []) h = omega arith
word_of_field (a ∷ b ∷ c ∷ d ∷ e ∷ f ∷ g ∷ i ∷ j ∷ rest) h = absurd (omega arith)
