-- Which float the exact sum is, and so the sign of a zero: +0, unless the old value and all updates are −0, whose sum is −0. Assumes nothing.
use Rattle.std.specs.Prelude.{◌≡◌, List, [], ◌∷◌, Bool, not, ◌&&◌, cond, ℤ, negsuc, nat_abs, ◌+ℤ◌, ltb, eqb, Float, length, get_or}
use Rattle.std.proofs.Math.Path.{refl, ap}
use Rattle.std.proofs.Common.{sym, ◌∙◌, subst, lt_irrefl, mul_comm, mul-one, mul-pos, zero-mul, zero-lt-suc, eqb→eq, ltb→lt, nltb→le}
use Rattle.std.proofs.Math.Bool.{true, false}
use Prim.Native.Nat.{ℕ, zero, suc, ◌+◌, ◌-◌, ◌*◌, ◌^◌, ◌≤◌, ◌<◌}
use native.Mathlib.Omega.{arith}
use Rattle.std.proofs.Math.IntN.{pos, neg_ℤ, +ℤ_assoc, +ℤ_idr}
use Rattle.std.proofs.Math.Dec.{T, eqb-suc-zero}
use Rattle.std.specs.Float.{nan, fin, inf, Format, binary64}
use Rattle.std.specs.Float.Ieee.{prec, up, down, round, sum, add, of_int, fits}
use Rattle.std.specs.Float.Ieee.Fits.{down_pos, up_pos, of_int-fits}
use Rattle.std.specs.Float.Ieee.Exact.{HasValue}
use Rattle.std.specs.Float.Ieee.Back.{round_whole, whole_unique}
use Rattle.integer.specs.Defs.{sign_of, is_neg}
use Rattle.integer.specs.Machine.{abs-sum}
use Rattle.integer.specs.Laws.{both-minus, minus-below, minus-above, plus-below, plus-above}
use Rattle.indexing.specs.Scatter.{Scatter, placed_updates, landing, add_f64, scattered_f64}
use Rattle.indexing.specs.Updates.{in_turn}
use Rattle.indexing.specs.Sums.{total}
use Rattle.indexing.specs.Whole.{Whole, Wholes, sizes, minus_zero, all_minus_zero}
use Rattle.indexing.proofs.Exact.{sum-scaled, over, size-signed, of-value, add-whole, regroup, front, each-f64}

-- ---- a sum of two signed natural numbers, rounded
module _ (f : Format) where
  nearest : (s : Bool) (n : ℕ) (z : ℤ) → (T s → 0 < n) → z ≡ sign_of s n → round f s n 1 ≡ of_int f z
  unfolding of_int
  nearest false n z h p = ap (of_int f) (sym p)
  nearest true zero z h p = absurd (lt_irrefl 0 (h tt))
  nearest true (suc n) z h p = ap (of_int f) (sym p)

  sum-nearest : (s : Bool) (a : ℕ) (t : Bool) (b : ℕ) → (T s → T t → 0 < a + b) → sum f s a t b 1 ≡ of_int f (sign_of s a +ℤ sign_of t b)
  unfolding sum
  sum-nearest false a false b h = nearest false (a + b) (pos a +ℤ pos b) (λ t. absurd t) refl
  sum-nearest true a true b h = nearest true (a + b) (neg_ℤ (pos a) +ℤ neg_ℤ (pos b)) (h tt) (both-minus a b)
  sum-nearest false a true b h = go (ltb a b) (ltb→lt a b) (nltb→le a b)
    where
      some : a < b → 0 < b - a
      some l = omega arith

      go : (t : Bool) → (T t → a < b) → (T (not t) → b ≤ a) → cond t (round f true (b - a) 1) (round f false (a - b) 1) ≡ of_int f (pos a +ℤ neg_ℤ (pos b))
      go true l g = nearest true (b - a) (pos a +ℤ neg_ℤ (pos b)) (λ t. some (l tt)) (minus-below a b (l tt))
      go false l g = nearest false (a - b) (pos a +ℤ neg_ℤ (pos b)) (λ t. absurd t) (minus-above a b (g tt))
  sum-nearest true a false b h = go (ltb a b) (ltb→lt a b) (nltb→le a b) (ltb b a) (ltb→lt b a) (nltb→le b a)
    where
      none : b ≤ a → a ≤ b → b - a ≡ a - b
      none p q = omega arith

      some : b < a → 0 < a - b
      some l = omega arith

      le : a < b → a ≤ b
      le p = omega arith

      go : (t : Bool) → (T t → a < b) → (T (not t) → b ≤ a) → (u : Bool) → (T u → b < a) → (T (not u) → a ≤ b)
          → cond t (round f false (b - a) 1) (round f (true && u) (a - b) 1) ≡ of_int f (neg_ℤ (pos a) +ℤ pos b)
      go true l g u l' g' = nearest false (b - a) (neg_ℤ (pos a) +ℤ pos b) (λ t. absurd t) (plus-above a b (le (l tt)))
      go false l g true l' g' = nearest true (a - b) (neg_ℤ (pos a) +ℤ pos b) (λ t. some (l' tt)) (plus-below a b (l' tt))
      go false l g false l' g' = nearest false (a - b) (neg_ℤ (pos a) +ℤ pos b) (λ t. absurd t) (plus-above a b (g' tt) ∙ ap pos (none (g tt) (g' tt)))

-- ---- a float that is a whole number, and is not −0, is not 0 where it is negative
not-zero : (s : Bool) (m : ℕ) (e : ℤ) (n : ℕ) → m * up e ≡ n * down e → T (not (s && eqb m 0)) → T s → 0 < n
not-zero true m e zero h k t = absurd (clash (eqb m 0) k is)
  where
    pos_of : (m u : ℕ) → 0 < u → m * u ≡ 0 → m ≡ 0
    pos_of zero u p q = refl
    pos_of (suc m) u p q = absurd (lt_irrefl 0 (subst (λ (x : ℕ). 0 < x) q (mul-pos (zero-lt-suc m) p)))

    is : T (eqb m 0)
    is = subst (λ (x : ℕ). T (eqb x 0)) (sym (pos_of m (up e) (up_pos e) (h ∙ zero-mul (down e)))) tt

    clash : (b : Bool) → T (not b) → T b → ⊥
    clash true n x = n
    clash false n x = x
not-zero true m e (suc n) h k t = zero-lt-suc n
not-zero false m e n h k t = absurd t

-- a + b is above 0 where not both are −0
one-above : (s t : Bool) (m n : ℕ) (e d : ℤ) (a b : ℕ) → m * up e ≡ a * down e → n * up d ≡ b * down d → T (not ((s && eqb m 0) && (t && eqb n 0))) → T s → T t → 0 < a + b
one-above s t m n e d a b p q h S U = go (s && eqb m 0) refl
  where
    left : 0 < a → 0 < a + b
    left l = omega arith

    right : 0 < b → 0 < a + b
    right l = omega arith

    go : (z : Bool) → (s && eqb m 0) ≡ z → 0 < a + b
    go true r = right (not-zero t n d b q (subst (λ (x : Bool). T (not (x && (t && eqb n 0)))) r h) U)
    go false r = left (not-zero s m e a p (subst (λ (x : Bool). T (not x)) (sym r) tt) S)

-- TWO WHOLE NUMBERS add up to the float nearest to their sum, of whatever size they are, unless both are −0,
pub add-nearest : (f : Format) (x y : Float) (v w : ℤ) → Whole x v → Whole y w → T (not (minus_zero x && minus_zero y)) → add f x y ≡ of_int f (v +ℤ w)
unfolding add
add-nearest f nan y v w p q h = elim p [ ]
add-nearest f (inf _) y v w p q h = elim p [ ]
add-nearest f (fin s m e) nan v w p q h = elim q [ ]
add-nearest f (fin s m e) (inf _) v w p q h = elim q [ ]
add-nearest f (fin s m e) (fin t n d) v w p q h =
    let a = p.0 in
    let b = q.0 in
    let c = down e * down d in
    let C : 0 < c = mul-pos (down_pos e) (down_pos d) in
    let A : m * up e * down d ≡ a * c = over m (up e) (down e) (down d) a p.1 in
    let B : n * up d * down e ≡ b * c = over n (up d) (down d) (down e) b q.1 ∙ ap (λ (k : ℕ). b * k) (mul_comm (down d) (down e)) in
    ap (λ (k : ℕ). sum f s k t (n * up d * down e) c) A
    ∙ ap (λ (k : ℕ). sum f s (a * c) t k c) B
    ∙ sum-scaled f c C s a t b
    ∙ sum-nearest f s a t b (one-above s t m n e d a b p.1 q.1 h)
    ∙ ap (λ (z : ℤ). of_int f (z +ℤ sign_of t b)) (sym p.2)
    ∙ ap (λ (z : ℤ). of_int f (v +ℤ z)) (sym q.2)

-- which add up to −0
pub add-minus : (x y : Float) → T (minus_zero x) → T (minus_zero y) → add binary64 x y ≡ fin true 0 (pos 0)
unfolding add
add-minus nan y p q = elim p [ ]
add-minus (inf _) y p q = elim p [ ]
add-minus (fin true m e) nan p q = elim q [ ]
add-minus (fin true m e) (inf _) p q = elim q [ ]
add-minus (fin true m e) (fin true n d) p q =
    ap (λ (k : ℕ). add binary64 (fin true k e) (fin true n d)) (eqb→eq m 0 p)
    ∙ ap (λ (k : ℕ). add binary64 (fin true 0 e) (fin true k d)) (eqb→eq n 0 q)
    ∙ ap (λ (k : ℕ). sum binary64 true k true (0 * up d * down e) c) (nought (up e) (down d))
    ∙ ap (λ (k : ℕ). sum binary64 true (0 * c) true k c) (nought (up d) (down e))
    ∙ sum-scaled binary64 c (mul-pos (down_pos e) (down_pos d)) true 0 true 0
  where
    c : ℕ
    c = down e * down d

    nought : (j k : ℕ) → 0 * j * k ≡ 0 * c
    nought j k = ap (λ (n : ℕ). n * k) (zero-mul j) ∙ zero-mul k ∙ sym (zero-mul c)
add-minus (fin true m e) (fin false n d) p q = absurd q
add-minus (fin false m e) y p q = absurd p

-- ---- `of_int` of a number of at most 2^prec
of_int-value : (f : Format) (z : ℤ) → nat_abs z ≤ 2 ^ prec f → HasValue (of_int f z) (is_neg z) (nat_abs z) 1
unfolding of_int
of_int-value f (pos n) h = round_whole f false n h
of_int-value f (negsuc n) h = round_whole f true (suc n) h

sign-is : (z : ℤ) → z ≡ sign_of (is_neg z) (nat_abs z)
sign-is (pos n) = refl
sign-is (negsuc n) = refl

pub of_int-whole : (f : Format) (z : ℤ) → nat_abs z ≤ 2 ^ prec f → Whole (of_int f z) z
of_int-whole f z h = of-value (of_int f z) (is_neg z) (nat_abs z) z (of_int-value f z h) (sign-is z)

no_minus : (x : Float) (s : Bool) (n : ℕ) → HasValue x s n 1 → (T s → 0 < n) → T (not (minus_zero x))
no_minus nan s n v h = elim v [ ]
no_minus (inf _) s n v h = elim v [ ]
no_minus (fin false m e) s n v h = tt
no_minus (fin true zero e) s n v h = absurd (lt_irrefl 0 (subst (λ (k : ℕ). 0 < k) (sym v.1 ∙ mul-one (zero * up e) ∙ zero-mul (up e)) (mul-pos (h (subst T v.0 tt)) (down_pos e))))
no_minus (fin true (suc m) e) s n v h = subst (λ (b : Bool). T (not b)) (sym (eqb-suc-zero m)) tt

neg-size : (z : ℤ) → T (is_neg z) → 0 < nat_abs z
neg-size (pos n) t = absurd t
neg-size (negsuc n) t = zero-lt-suc n

pub of_int-no-minus : (f : Format) (z : ℤ) → nat_abs z ≤ 2 ^ prec f → T (not (minus_zero (of_int f z)))
of_int-no-minus f z h = no_minus (of_int f z) (is_neg z) (nat_abs z) (of_int-value f z h) (neg-size z)

-- ---- a float of the format that is the whole number z, and is not −0, is `of_int` of z
sign-back : (s : Bool) (n : ℕ) → (T s → 0 < n) → is_neg (sign_of s n) ≡ s
sign-back false n h = refl
sign-back true zero h = absurd (lt_irrefl 0 (h tt))
sign-back true (suc n) h = refl

pub whole_is : (f : Format) (x : Float) (z : ℤ) → T (fits f x) → Whole x z → T (not (minus_zero x)) → nat_abs z ≤ 2 ^ prec f → x ≡ of_int f z
whole_is f nan z p w h b = elim w [ ]
whole_is f (inf _) z p w h b = elim w [ ]
whole_is f (fin s m e) z p w h b =
    let n = w.0 in
    let N : n ≡ nat_abs z = sym (ap nat_abs w.2 ∙ size-signed s n) in
    let S : s ≡ is_neg z = sym (ap is_neg w.2 ∙ sign-back s n (not-zero s m e n w.1 h)) in
    let v : HasValue (fin s m e) (is_neg z) (nat_abs z) 1 = (S, mul-one (m * up e) ∙ w.1 ∙ ap (λ (k : ℕ). k * down e) N) in
    whole_unique f (fin s m e) (of_int f z) (is_neg z) (nat_abs z) p (of_int-fits f z) v (of_int-value f z b)

-- ---- of any number of updates
first-le : (x y q : ℕ) → x + y ≤ q → x ≤ q
first-le x y q h = omega arith

not-both : (p q : Bool) → T (not p) → T (not (p && q))
not-both false q t = tt
not-both true q t = absurd t

from-nearest : (us : List Float) (z : ℤ) (ws : List ℤ) → Wholes us ws → nat_abs z + sizes ws ≤ 2 ^ 53 → in_turn add_f64 (of_int binary64 z) us ≡ of_int binary64 (z +ℤ total ws)
unfolding in_turn total
from-nearest [] z [] q h = ap (of_int binary64) (sym (+ℤ_idr z))
from-nearest [] z (w ∷ ws) q h = absurd q
from-nearest (u ∷ us) z [] q h = absurd q
from-nearest (u ∷ us) z (w ∷ ws) q h =
    let b : nat_abs z ≤ 2 ^ 53 = first-le (nat_abs z) (nat_abs w + sizes ws) (2 ^ 53) h in
    ap (λ (x : Float). in_turn add_f64 x us)
    (add-nearest binary64 (of_int binary64 z) u z w (of_int-whole binary64 z b) q.0 (not-both (minus_zero (of_int binary64 z)) (minus_zero u) (of_int-no-minus binary64 z b)))
    ∙ from-nearest us (z +ℤ w) ws q.1 (regroup (nat_abs z) (nat_abs w) (sizes ws) (nat_abs (z +ℤ w)) (2 ^ 53) (abs-sum z w) h)
    ∙ ap (of_int binary64) (+ℤ_assoc z w (total ws))

-- from an f64 that is a whole number, unless it and all updates are −0: the float that the exact sum is, bit for bit
pub in-turn-float : (x : Float) (us : List Float) (z : ℤ) (ws : List ℤ) → T (fits binary64 x) → Whole x z → Wholes us ws → nat_abs z + sizes ws ≤ 2 ^ 53
    → T (not (minus_zero x && all_minus_zero us)) → in_turn add_f64 x us ≡ of_int binary64 (z +ℤ total ws)
unfolding in_turn total
in-turn-float x [] z [] f p q h n = whole_is binary64 x z f p (alone (minus_zero x) n) (first-le (nat_abs z) 0 (2 ^ 53) h) ∙ ap (of_int binary64) (sym (+ℤ_idr z))
  where
    alone : (b : Bool) → T (not (b && true)) → T (not b)
    alone true n = n
    alone false n = n
in-turn-float x [] z (w ∷ ws) f p q h n = absurd q
in-turn-float x (u ∷ us) z [] f p q h n = absurd q
in-turn-float x (u ∷ us) z (w ∷ ws) f p q h n =
    go (minus_zero x) refl (minus_zero u) refl
    (λ g m.
    in-turn-float (add binary64 x u) us (z +ℤ w) ws g (add-whole binary64 x u z w p q.0 (front (nat_abs z) (nat_abs w) (sizes ws) (2 ^ 53) h)) q.1
    (regroup (nat_abs z) (nat_abs w) (sizes ws) (nat_abs (z +ℤ w)) (2 ^ 53) (abs-sum z w) h) m)
    ∙ ap (of_int binary64) (+ℤ_assoc z w (total ws))
  where
    plain : T (not (minus_zero x && minus_zero u)) → in_turn add_f64 (add binary64 x u) us ≡ of_int binary64 (z +ℤ w +ℤ total ws)
    plain o =
        ap (λ (y : Float). in_turn add_f64 y us) (add-nearest binary64 x u z w p q.0 o)
        ∙ from-nearest us (z +ℤ w) ws q.1 (regroup (nat_abs z) (nat_abs w) (sizes ws) (nat_abs (z +ℤ w)) (2 ^ 53) (abs-sum z w) h)

    not_right : (b : Bool) → T (not (b && false))
    not_right true = tt
    not_right false = tt

    left : minus_zero x ≡ true → minus_zero u ≡ true → T (not (all_minus_zero us))
    left d e = subst (λ (t : Bool). T (not (t && all_minus_zero us))) e (subst (λ (t : Bool). T (not (t && (minus_zero u && all_minus_zero us)))) d n)

    go : (a : Bool) → minus_zero x ≡ a → (b : Bool) → minus_zero u ≡ b
        → (T (fits binary64 (add binary64 x u)) → T (not (minus_zero (add binary64 x u) && all_minus_zero us)) → in_turn add_f64 (add binary64 x u) us ≡ of_int binary64 (z +ℤ w +ℤ total ws))
        → in_turn add_f64 (add binary64 x u) us ≡ of_int binary64 (z +ℤ w +ℤ total ws)
    go false d b e ih = plain (subst (λ (t : Bool). T (not (t && minus_zero u))) (sym d) tt)
    go true d false e ih = plain (subst (λ (t : Bool). T (not (minus_zero x && t))) (sym e) (not_right (minus_zero x)))
    go true d true e ih =
        let m : add binary64 x u ≡ fin true 0 (pos 0) = add-minus x u (subst T (sym d) tt) (subst T (sym e) tt) in
        ih (subst (λ (y : Float). T (fits binary64 y)) (sym m) (unfold fits in tt)) (subst (λ (y : Float). T (not (minus_zero y && all_minus_zero us))) (sym m) (left d e))

-- and of nothing but −0 it is −0
pub in-turn-minus : (x : Float) (us : List Float) → T (minus_zero x) → T (all_minus_zero us) → T (minus_zero (in_turn add_f64 x us))
unfolding in_turn
in-turn-minus x [] p q = p
in-turn-minus x (u ∷ us) p q =
    let r = both (minus_zero u) (all_minus_zero us) q in
    in-turn-minus (add binary64 x u) us (subst (λ (y : Float). T (minus_zero y)) (sym (add-minus x u p r.0)) tt) r.1
  where
    both : (a b : Bool) → T (a && b) → T a × T b
    both true b t = (tt, t)
    both false b t = absurd t

-- ---- an element of a scatter
module _ (s : Scatter) (starts : List ℤ) (updates grid : List Float) (i : ℕ) (h : i < length grid) where
  -- THE FLOAT that the element holds, where `exact-f64` holds of it; so that a zero is +0
  pub float-f64 : (z : ℤ) (ws : List ℤ) → T (fits binary64 (get_or grid i nan)) → Whole (get_or grid i nan) z → Wholes (landing (pos i) (placed_updates nan s starts updates)) ws → nat_abs z + sizes ws ≤ 2 ^ 53
      → T (not (minus_zero (get_or grid i nan) && all_minus_zero (landing (pos i) (placed_updates nan s starts updates))))
      → get_or (scattered_f64 s starts updates grid) i nan ≡ of_int binary64 (z +ℤ total ws)
  float-f64 z ws f p q b n = each-f64 s starts updates grid i h ∙ in-turn-float (get_or grid i nan) (landing (pos i) (placed_updates nan s starts updates)) z ws f p q b n

  -- where it and all that land on it are −0 it stays −0
  pub minus-zero-f64 : T (minus_zero (get_or grid i nan)) → T (all_minus_zero (landing (pos i) (placed_updates nan s starts updates))) → T (minus_zero (get_or (scattered_f64 s starts updates grid) i nan))
  minus-zero-f64 p q = subst (λ (x : Float). T (minus_zero x)) (sym (each-f64 s starts updates grid i h)) (in-turn-minus (get_or grid i nan) (landing (pos i) (placed_updates nan s starts updates)) p q)

-- the float that 0 is
pub zero_is : of_int binary64 (pos 0) ≡ fin false 0 (pos 0)
unfolding of_int
zero_is = refl
