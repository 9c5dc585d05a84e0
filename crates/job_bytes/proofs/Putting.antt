-- Numbers and words stored byte by byte. Assumes nothing.
use mathlib.Core.Path.{◌≡◌, refl, sym, ap, ◌∙◌}
use mathlib.Core.List.{List, [], ◌∷◌, ◌++◌, append_assoc}
use Prim.Native.Nat.{ℕ, zero, suc, ◌+◌, ◌-◌, ◌*◌, ◌≤◌, ◌<◌}
use native.Mathlib.Numerals.{add-one}
use native.Mathlib.Omega.{arith}
use lib.ListN.{length, take, drop, get_or, set, length-append, drop_of_length-le}
use lib.Seq.{sets, length-sets, drop-cons, take_all}
use Rattle.std.proofs.lemmas.List.Edits.{sets-eq, paste_all}
use Rattle.std.proofs.lemmas.Slice.{put_mid-paste}
use Rattle.std.specs.Int.{w64, to_be_bytes}
use Rattle.std.specs.List.{between}
use borrow.Rule.Slice.PartMut.{put_mid}
use Rattle.job_bytes.specs.Fields.{bytes_of, words_of}
use Rattle.job_bytes.proofs.Bytes.{bytes-high, bytes_last}

-- one run of stores behind another
pub sets-append : (l : List ℕ) (i : ℕ) (xs ys : List ℕ) → sets l i (xs ++ ys) ≡ sets (sets l i xs) (i + length xs) ys
sets-append l i [] ys = let e : i + 0 ≡ i = omega arith in rw e
sets-append l i (x ∷ xs) ys = let e : i + suc (length xs) ≡ suc i + length xs = omega arith in rw e (sets-append (set l i x) (suc i) xs ys)

pub length-bytes : (k v : ℕ) → length (bytes_of k v) ≡ k
unfolding bytes_of
length-bytes zero v = refl
length-bytes (suc k) v = ap suc (length-bytes k v)

pub length-words : (ws : List ℕ) → length (words_of ws) ≡ 8 * length ws
unfolding words_of
length-words [] = refl
length-words (w ∷ ws) = omega (arith, length-append (bytes_of 8 w) (words_of ws), length-bytes 8 w, length-words ws)

-- after i words: the rest stored gives all of them stored
pub record PuttingWords (l₀ : List ℕ) (at : ℕ) (ws : List ℕ) (l : List ℕ) (i : ℕ) : Type 0 where
  pub here : i ≤ length ws
  pub same : length l ≡ length l₀
  pub left : sets l (at + 8 * i) (words_of (drop i ws)) ≡ sets l₀ at (words_of ws)

pub word-put : (l₀ : List ℕ) (at : ℕ) (ws : List ℕ) (l m : List ℕ) (i : ℕ) → i < length ws → m ≡ sets l (at + 8 * i) (bytes_of 8 (get_or ws i 0)) → PuttingWords l₀ at ws l i → PuttingWords l₀ at ws m (i + 1)
unfolding words_of
word-put l₀ at ws l m i h e p =
    record {
      here = omega arith;
      same = ap length e ∙ length-sets l (at + 8 * i) (bytes_of 8 (get_or ws i 0)) ∙ p.same;
      left = rw e (sym (turn (omega (arith, length-bytes 8 (get_or ws i 0)))) ∙ p.left);
    }
  where
    turn : at + 8 * i + length (bytes_of 8 (get_or ws i 0)) ≡ at + 8 * (i + 1) → sets l (at + 8 * i) (words_of (drop i ws)) ≡ sets (sets l (at + 8 * i) (bytes_of 8 (get_or ws i 0))) (at + 8 * (i + 1)) (words_of (drop (i + 1) ws))
    turn n = rw (drop-cons ws i 0 h, add-one i) (sets-append l (at + 8 * i) (bytes_of 8 (get_or ws i 0)) (words_of (drop (suc i) ws)) ∙ ap (λ (k : ℕ). sets (sets l (at + 8 * i) (bytes_of 8 (get_or ws i 0))) k (words_of (drop (suc i) ws))) (n ∙ ap (λ (k : ℕ). at + 8 * k) (add-one i)))

pub all-words-put : (l₀ : List ℕ) (at : ℕ) (ws : List ℕ) (l : List ℕ) (i : ℕ) → length ws ≤ i → PuttingWords l₀ at ws l i → l ≡ sets l₀ at (words_of ws)
unfolding words_of
all-words-put l₀ at ws l i h p = none (drop_of_length-le ws h) ∙ p.left
  where
    none : drop i ws ≡ [] → l ≡ sets l (at + 8 * i) (words_of (drop i ws))
    none n = rw n

-- the last bytes of a word, stored as one part
pub put-part : (out : List ℕ) (at width v : ℕ) (part : List ℕ) → at + width ≤ length out → width ≤ 8 → part ≡ between (8 - width) 8 (to_be_bytes w64 v) → put_mid at (at + width - at) out part ≡ sets out at (bytes_of width v)
put-part out at width v part h w e =
    let n : length (bytes_of width v) ≡ width = length-bytes width v in
    let d : 8 - width + width ≡ 8 = omega arith in
    let b : drop (8 - width) (to_be_bytes w64 v) ≡ bytes_of width v = ap (drop (8 - width)) (sym (bytes-high 8 v) ∙ ap (λ (k : ℕ). bytes_of k v) (sym d)) ∙ bytes_last (8 - width) width v in
    let p : part ≡ bytes_of width v = e ∙ ap (take (8 - (8 - width))) b ∙ take_all (8 - (8 - width)) (bytes_of width v) (omega arith) in
    put_mid-paste at (at + width - at) out part (bytes_of width v) width p (omega arith) (sym n)
    ∙ paste_all out at (bytes_of width v) width (sym n)
    ∙ ap (λ (k : ℕ). take at out ++ (bytes_of width v ++ drop (at + k) out)) (sym n)
    ∙ sym (sets-eq (bytes_of width v) out at (omega arith) ∙ append_assoc (take at out) (bytes_of width v) (drop (at + length (bytes_of width v)) out))
