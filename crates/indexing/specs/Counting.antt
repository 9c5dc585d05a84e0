-- The laws of counting: a count is made a part at a time, and what has the same flags has the same count. Assumes nothing.
use Rattle.std.specs.Prelude.{◌≡◌, refl, Bool, true, false, cond, ◌||◌, ℕ, zero, suc, ◌+◌, ◌-◌, ◌*◌, ◌<◌, ◌≤◌}
use Rattle.std.proofs.Common.{sym, ap, ap₂, ◌∙◌, add-one, mul-suc, arith}
use Rattle.indexing.specs.Slid.{one_of, how_many}

-- ---- one of several
pub one_none : (p : ℕ → Bool) → false ≡ one_of 0 p
unfolding one_of
one_none p = refl

pub one_more : (n : ℕ) (p : ℕ → Bool) (a b c : Bool) → a ≡ one_of n p → b ≡ p n → c ≡ a || b → c ≡ one_of (n + 1) p
unfolding one_of
one_more n p a b c ea eb ec = ec ∙ ap₂ ◌||◌ ea eb ∙ ap (λ (k : ℕ). one_of k p) (sym (add-one n))

pub one_same : (n : ℕ) (p q : ℕ → Bool) → ((k : ℕ) → k < n → p k ≡ q k) → one_of n p ≡ one_of n q
unfolding one_of
one_same zero p q e = refl
one_same (suc n) p q e = ap₂ ◌||◌ (one_same n p q (λ k h. e k (omega arith))) (e n (omega arith))

-- ---- how many
pub many-none : (n : ℕ) (p : ℕ → Bool) → n ≡ 0 → 0 ≡ how_many n p
unfolding how_many
many-none zero p e = refl
many-none (suc n) p e = absurd (omega arith)

-- one more: b says whether it counts, and o is what it counts for
pub many_more : (n : ℕ) (p : ℕ → Bool) (c o : ℕ) (b : Bool) → c ≡ how_many n p → o ≡ cond b 1 0 → b ≡ p n → c + o ≡ how_many (n + 1) p
unfolding how_many
many_more n p c o b ec eo eb = ap₂ ◌+◌ ec (eo ∙ ap (λ (t : Bool). cond t 1 0) eb) ∙ ap (λ (k : ℕ). how_many k p) (sym (add-one n))

pub many-same : (n : ℕ) (p q : ℕ → Bool) → ((k : ℕ) → k < n → p k ≡ q k) → how_many n p ≡ how_many n q
unfolding how_many
many-same zero p q e = refl
many-same (suc n) p q e = ap₂ ◌+◌ (many-same n p q (λ k h. e k (omega arith))) (ap (λ (t : Bool). cond t 1 0) (e n (omega arith)))

pub bit_below : (b : Bool) → cond b 1 0 ≤ 1
bit_below true = omega arith
bit_below false = omega arith

pub many_below : (n : ℕ) (p : ℕ → Bool) → how_many n p ≤ n
unfolding how_many
many_below zero p = omega arith
many_below (suc n) p = omega (arith, many_below n p, bit_below (p n))

pub many-false : (n : ℕ) (p : ℕ → Bool) → ((k : ℕ) → k < n → p k ≡ false) → 0 ≡ how_many n p
unfolding how_many
many-false zero p e = refl
many-false (suc n) p e = ap₂ ◌+◌ (many-false n p (λ k h. e k (omega arith))) (ap (λ (t : Bool). cond t 1 0) (sym (e n (omega arith))))

many-split : (a b : ℕ) (p : ℕ → Bool) → how_many (a + b) p ≡ how_many a p + how_many b (λ k. p (k + a))
unfolding how_many
many-split a zero p = let e : a + zero ≡ a = omega arith in ap (λ (k : ℕ). how_many k p) e ∙ omega arith
many-split a (suc b) p =
    let e : a + suc b ≡ suc (a + b) = omega arith in
    let f : a + b ≡ b + a = omega arith in
    ap (λ (k : ℕ). how_many k p) e
    ∙ ap₂ (λ (x : ℕ) (k : ℕ). x + cond (p k) 1 0) (many-split a b p) f
    ∙ omega arith

-- those from a on behind the first a
pub many-on : (a b : ℕ) (p : ℕ → Bool) (c d : ℕ) → a ≤ b → c ≡ how_many a p → d ≡ how_many (b - a) (λ k. p (k + a)) → c + d ≡ how_many b p
many-on a b p c d h ec ed =
    let e : a + (b - a) ≡ b = omega arith in
    ap₂ ◌+◌ ec ed ∙ sym (many-split a (b - a) p) ∙ ap (λ (k : ℕ). how_many k p) e

-- a part of m behind j parts of m
pub many-part : (m j : ℕ) (p : ℕ → Bool) (c d : ℕ) → c ≡ how_many (m * j) p → d ≡ how_many m (λ k. p (k + m * j)) → c + d ≡ how_many (m * (j + 1)) p
many-part m j p c d ec ed =
    let e : m * j + m ≡ m * (j + 1) = sym (mul-suc m j) ∙ ap (λ (k : ℕ). m * k) (sym (add-one j)) in
    ap₂ ◌+◌ ec ed ∙ sym (many-split (m * j) m p) ∙ ap (λ (k : ℕ). how_many k p) e
