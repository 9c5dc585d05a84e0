-- NaN and infinities in f64 sums: when one add gives a NaN, what becomes of a NaN and of an infinity, and what an element then holds. Which NaN it is,
-- is left open. Assumes nothing.
use Rattle.std.specs.Prelude.{◌≡◌, refl, List, [], ◌∷◌, Bool, true, false, not, ◌&&◌, ◌||◌, cond, ℕ, zero, suc, ◌+◌, ◌-◌, ◌*◌, ◌^◌, ◌<◌, ℤ, pos, length, get_or, ltb, Float}
use Rattle.std.proofs.Common.{ap, ◌∙◌, arith}
use Rattle.std.specs.Bool.{beq}
use Rattle.std.specs.Float.{nan, inf, fin, Format, binary64}
use Rattle.std.specs.Float.Ieee.{prec, emax, low, up, down, odd, units, round, sum, add, is_nan}
use Rattle.std.specs.Float.Ieee.Fits.{round_is}
use Rattle.indexing.specs.Scatter.{Scatter, placed_updates, landing, add_f64, scattered_f64}
use Rattle.indexing.specs.Updates.{in_turn}
use Rattle.indexing.proofs.Exact.{each-f64}
use Rattle.indexing.specs.Nan.{unlike_infinities, compatible, all_compatible}

-- ---- rounding gives no NaN
odd_no_nan : (d : ℕ) (s : Bool) (q k l : ℕ) → is_nan (odd d s q k l) ≡ false
unfolding odd is_nan
odd_no_nan d s zero k l = refl
odd_no_nan d s (suc q) k l = refl

units-no-nan : (f : Format) (s : Bool) (q k : ℕ) → is_nan (units f s q k) ≡ false
unfolding units is_nan
units-no-nan f s q k = go (ltb (q * 2 ^ k) (2 ^ (low f + suc (emax f))))
  where
    go : (b : Bool) → is_nan (cond b (odd (suc (prec f)) s q k (low f)) (inf s)) ≡ false
    go true = odd_no_nan (suc (prec f)) s q k (low f)
    go false = refl

round-no-nan : (f : Format) (s : Bool) (num den : ℕ) → is_nan (round f s num den) ≡ false
round-no-nan f s num den = ap is_nan (round_is f s num den) ∙ units-no-nan f s _ _

cond-no-nan : (b : Bool) (x y : Float) → is_nan x ≡ false → is_nan y ≡ false → is_nan (cond b x y) ≡ false
cond-no-nan true x y p q = p
cond-no-nan false x y p q = q

sum-no-nan : (f : Format) (s : Bool) (a : ℕ) (t : Bool) (b c : ℕ) → is_nan (sum f s a t b c) ≡ false
unfolding sum
sum-no-nan f s a t b c =
    cond-no-nan (beq s t) (round f s (a + b) c) (cond (ltb a b) (round f t (b - a) c) (round f (s && ltb b a) (a - b) c)) (round-no-nan f s (a + b) c)
    (cond-no-nan (ltb a b) (round f t (b - a) c) (round f (s && ltb b a) (a - b) c) (round-no-nan f t (b - a) c) (round-no-nan f (s && ltb b a) (a - b) c))

-- ONE ADD gives a NaN exactly where an operand is one, or the operands are infinities of unlike signs
pub add-nan : (f : Format) (x y : Float) → is_nan (add f x y) ≡ (is_nan x || (is_nan y || unlike_infinities x y))
unfolding add is_nan
add-nan f nan y = refl
add-nan f (inf s) nan = refl
add-nan f (inf s) (inf t) = go (beq s t)
  where
    go : (b : Bool) → is_nan (cond b (inf s) nan) ≡ not b
    go true = refl
    go false = refl
add-nan f (inf s) (fin t n d) = refl
add-nan f (fin s m e) nan = refl
add-nan f (fin s m e) (inf t) = refl
add-nan f (fin s m e) (fin t n d) = sum-no-nan f s (m * up e * down d) t (n * up d * down e) (down e * down d)

add-nan-r : (f : Format) (x : Float) → add f x nan ≡ nan
unfolding add
add-nan-r f nan = refl
add-nan-r f (inf s) = refl
add-nan-r f (fin s m e) = refl

-- an infinity and anything compatible with it is that infinity; and anything else makes it a NaN
add-inf : (f : Format) (s : Bool) (y : Float) → add f (inf s) y ≡ cond (compatible s y) (inf s) nan
unfolding add
add-inf f s nan = refl
add-inf f s (inf t) = refl
add-inf f s (fin t n d) = refl

-- ---- updates in turn
pub in-turn-nan : (us : List Float) → in_turn add_f64 nan us ≡ nan
unfolding in_turn add
in-turn-nan [] = refl
in-turn-nan (u ∷ us) = in-turn-nan us

pub in-turn-with-nan : (x : Float) (us : List Float) (k : ℕ) → k < length us → get_or us k (inf false) ≡ nan → in_turn add_f64 x us ≡ nan
unfolding in_turn
in-turn-with-nan x [] k h p = absurd (omega arith)
in-turn-with-nan x (u ∷ us) zero h p = ap (λ (y : Float). in_turn add_f64 (add binary64 x y) us) p ∙ ap (λ (y : Float). in_turn add_f64 y us) (add-nan-r binary64 x) ∙ in-turn-nan us
in-turn-with-nan x (u ∷ us) (suc k) h p = in-turn-with-nan (add binary64 x u) us k (omega arith) p

-- from an infinity the sum is that infinity, or a NaN
pub in-turn-inf : (s : Bool) (us : List Float) → in_turn add_f64 (inf s) us ≡ cond (all_compatible s us) (inf s) nan
unfolding in_turn
in-turn-inf s [] = refl
in-turn-inf s (u ∷ us) = ap (λ (y : Float). in_turn add_f64 y us) (add-inf binary64 s u) ∙ go (compatible s u) (in-turn-inf s us)
  where
    go : (b : Bool) → in_turn add_f64 (inf s) us ≡ cond (all_compatible s us) (inf s) nan → in_turn add_f64 (cond b (inf s) nan) us ≡ cond (b && all_compatible s us) (inf s) nan
    go true e = e
    go false e = in-turn-nan us

-- ---- an element of a scatter
module _ (s : Scatter) (starts : List ℤ) (updates grid : List Float) (i : ℕ) (h : i < length grid) where
  -- a NaN stays a NaN
  pub nan-stays : get_or grid i nan ≡ nan → get_or (scattered_f64 s starts updates grid) i nan ≡ nan
  nan-stays e =
      each-f64 s starts updates grid i h ∙ ap (λ (x : Float). in_turn add_f64 x (landing (pos i) (placed_updates nan s starts updates))) e ∙ in-turn-nan (landing (pos i) (placed_updates nan s starts updates))

  -- a NaN that lands makes one
  pub nan-lands : (k : ℕ) → k < length (landing (pos i) (placed_updates nan s starts updates)) → get_or (landing (pos i) (placed_updates nan s starts updates)) k (inf false) ≡ nan
      → get_or (scattered_f64 s starts updates grid) i nan ≡ nan
  nan-lands k l e = each-f64 s starts updates grid i h ∙ in-turn-with-nan (get_or grid i nan) (landing (pos i) (placed_updates nan s starts updates)) k l e

  -- an infinity stays, unless a NaN or the other infinity lands on it, which leave a NaN
  pub infinity-stays : (t : Bool) → get_or grid i nan ≡ inf t → get_or (scattered_f64 s starts updates grid) i nan ≡ cond (all_compatible t (landing (pos i) (placed_updates nan s starts updates))) (inf t) nan
  infinity-stays t e =
      each-f64 s starts updates grid i h ∙ ap (λ (x : Float). in_turn add_f64 x (landing (pos i) (placed_updates nan s starts updates))) e ∙ in-turn-inf t (landing (pos i) (placed_updates nan s starts updates))
