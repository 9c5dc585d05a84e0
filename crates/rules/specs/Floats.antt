-- The rules over f64: what holds of a cell under Ceiling, NaN included, and that Lowest, Highest and Replace do not round. Assumes nothing.
use Rattle.std.specs.Prelude.{◌≡◌, refl, ◌≢◌, ◌⊎◌, Bool, true, false, cond, ◌&&◌, ◌||◌, ℕ, ◌+◌, ◌*◌, ◌<◌, ltb, eqb, ℤ, pos, length, get_or, Float}
use Rattle.std.proofs.Common.{sym, ap, ◌∙◌, inr, true≢false, arith, ltb-true, ltb-false, le-ltb, eq-eqb}
use mathlib.Core.List.Memᴰ
use mathlib.Core.List.{List, [], ◌∷◌, Memᴰ}
use Rattle.std.specs.Float.{nan, inf, fin}
use Rattle.std.specs.Float.Ieee.{up, down, below, level, lt, eq, le, is_nan, add}
use Rattle.indexing.specs.Scatter.{Scatter, placed_updates, landing, scattered, add_f64}
use Rattle.indexing.specs.Updates.{in_turn}
use Rattle.indexing.proofs.Demand3.{each-by}
use Rattle.rules.specs.Rules.{capped, rule_f64}
use Rattle.rules.specs.Choice.{either, in-turn-one-of}
use Rattle.rules.specs.declared.RuleF64.{RuleF64}
use Rattle.rules.specs.declared.RuleF64.TheVariants as F

-- ---- the order of floats
-- nothing is less than itself
pub lt_irrefl : (x : Float) → lt x x ≡ false
unfolding lt
lt_irrefl nan = refl
lt_irrefl (inf true) = refl
lt_irrefl (inf false) = refl
lt_irrefl (fin true m e) = le-ltb (m * up e * down e) (m * up e * down e) (omega arith)
lt_irrefl (fin false m e) = le-ltb (m * up e * down e) (m * up e * down e) (omega arith)

-- what is less, or greater, is no NaN
pub lt-left : (x y : Float) → lt x y ≡ true → is_nan x ≡ false
unfolding lt is_nan
lt-left nan y e = absurd (true≢false (sym e))
lt-left (inf s) y e = refl
lt-left (fin s m d) y e = refl

pub lt-right : (x y : Float) → lt x y ≡ true → is_nan y ≡ false
unfolding lt is_nan
lt-right nan y e = absurd (true≢false (sym e))
lt-right (inf s) nan e = absurd (true≢false (sym e))
lt-right (inf s) (inf t) e = refl
lt-right (inf s) (fin t n d) e = refl
lt-right (fin s m d) nan e = absurd (true≢false (sym e))
lt-right (fin s m d) (inf t) e = refl
lt-right (fin s m d) (fin t n e') e = refl

-- not both ways
crossed : (s : Bool) (a : ℕ) (t : Bool) (b : ℕ) → below s a t b ≡ true → below t b s a ≡ false
crossed false a false b e = le-ltb b a (omega (arith, ltb-true a b e))
crossed false a true b e = absurd (true≢false (sym e))
crossed true a false b e = refl
crossed true a true b e = le-ltb a b (omega (arith, ltb-true b a e))

pub lt-asym : (x y : Float) → lt x y ≡ true → lt y x ≡ false
unfolding lt
lt-asym nan y e = absurd (true≢false (sym e))
lt-asym (inf s) nan e = refl
lt-asym (inf true) (inf true) e = refl
lt-asym (inf true) (inf false) e = refl
lt-asym (inf false) (inf t) e = absurd (true≢false (sym e))
lt-asym (inf true) (fin t n d) e = refl
lt-asym (inf false) (fin t n d) e = absurd (true≢false (sym e))
lt-asym (fin s m c) nan e = refl
lt-asym (fin s m c) (inf true) e = absurd (true≢false (sym e))
lt-asym (fin s m c) (inf false) e = refl
lt-asym (fin s m c) (fin t n d) e = crossed s (m * up c * down d) t (n * up d * down c) e

-- of two that are no NaN, one is less than the other or at most it
turned : (s : Bool) (a : ℕ) (t : Bool) (b : ℕ) → below s a t b ≡ false → (below t b s a || level t b s a) ≡ true
turned false a false b e = go (ltb b a) refl
  where
    go : (c : Bool) → ltb b a ≡ c → (c || (eqb b a && true)) ≡ true
    go true p = refl
    go false p = ap (λ (d : Bool). d && true) (eq-eqb b a (omega (arith, ltb-false a b e, ltb-false b a p)))
turned false a true b e = go (ltb 0 (b + a)) refl
  where
    go : (c : Bool) → ltb 0 (b + a) ≡ c → (c || (eqb b a && (false || eqb b 0))) ≡ true
    go true p = refl
    go false p = let h = ltb-false 0 (b + a) p in
        ap (λ (d : Bool). d && eqb b 0) (eq-eqb b a (omega arith)) ∙ eq-eqb b 0 (omega arith)
turned true a false b e = let h = ltb-false 0 (a + b) e in
    ap (λ (d : Bool). d && eqb b 0) (eq-eqb b a (omega arith)) ∙ eq-eqb b 0 (omega arith)
turned true a true b e = go (ltb a b) refl
  where
    go : (c : Bool) → ltb a b ≡ c → (c || (eqb b a && true)) ≡ true
    go true p = refl
    go false p = ap (λ (d : Bool). d && true) (eq-eqb b a (omega (arith, ltb-false b a e, ltb-false a b p)))

pub not-less : (x y : Float) → is_nan x ≡ false → is_nan y ≡ false → lt x y ≡ false → le y x ≡ true
unfolding lt eq le is_nan
not-less nan y p q e = absurd (true≢false p)
not-less (inf s) nan p q e = absurd (true≢false q)
not-less (inf true) (inf true) p q e = refl
not-less (inf true) (inf false) p q e = absurd (true≢false e)
not-less (inf false) (inf true) p q e = refl
not-less (inf false) (inf false) p q e = refl
not-less (inf true) (fin t n d) p q e = absurd (true≢false e)
not-less (inf false) (fin t n d) p q e = refl
not-less (fin s m c) nan p q e = absurd (true≢false q)
not-less (fin s m c) (inf true) p q e = refl
not-less (fin s m c) (inf false) p q e = absurd (true≢false e)
not-less (fin s m c) (fin t n d) p q e = turned s (m * up c * down d) t (n * up d * down c) e

-- y is greater than z
abbrev pub gt : Float → Float → Bool
gt y z = lt z y

-- ---- LOWEST AND HIGHEST, and Replace: no rounding

-- What holds of the value r that is left of the old value x and the update u, where `first` is `lt` or `gt`:
pub record Chosen (first : Float → Float → Bool) (x u r : Float) : Type 0 where
  -- it is one of the two
  pub one_of : (r ≡ x) ⊎ (r ≡ u)
  -- neither is less (greater) than it
  pub not-old : first x r ≡ false
  pub not-update : first u r ≡ false
  -- it is a NaN exactly where the old value is
  pub as_nan : is_nan r ≡ is_nan x

module _ (first : Float → Float → Bool) (irrefl : (x : Float) → first x x ≡ false) (asym : (x y : Float) → first x y ≡ true → first y x ≡ false)
    (no_nan : (x y : Float) → first x y ≡ true → is_nan x ≡ is_nan y) (x u : Float) where
  chosen : Chosen first x u (cond (first u x) u x)
  chosen = record { one_of = either (first u x) x u; not-old = old (first u x) refl; not-update = update (first u x) refl; as_nan = nans (first u x) refl }
    where
      old : (b : Bool) → first u x ≡ b → first x (cond b u x) ≡ false
      old true e = asym u x e
      old false e = irrefl x

      update : (b : Bool) → first u x ≡ b → first u (cond b u x) ≡ false
      update true e = irrefl u
      update false e = e

      nans : (b : Bool) → first u x ≡ b → is_nan (cond b u x) ≡ is_nan x
      nans true e = no_nan u x e
      nans false e = refl

pub lowered : (x u : Float) → Chosen lt x u (rule_f64 F.Lowest x u)
lowered x u = chosen lt lt_irrefl lt-asym (λ x y e. lt-left x y e ∙ sym (lt-right x y e)) x u

pub heightened : (x u : Float) → Chosen gt x u (rule_f64 F.Highest x u)
heightened x u = chosen gt lt_irrefl (λ x y e. lt-asym y x e) (λ x y e. lt-right y x e ∙ sym (lt-left y x e)) x u

-- after any updates the cell holds its old value or one of them, as it was
pub lowest-one-of : (x : Float) (us : List Float) → Memᴰ (in_turn (rule_f64 F.Lowest) x us) (x ∷ us)
lowest-one-of x us = in-turn-one-of (rule_f64 F.Lowest) (λ x u. (lowered x u).one_of) x us

pub highest-one-of : (x : Float) (us : List Float) → Memᴰ (in_turn (rule_f64 F.Highest) x us) (x ∷ us)
highest-one-of x us = in-turn-one-of (rule_f64 F.Highest) (λ x u. (heightened x u).one_of) x us

pub replace-one-of : (x : Float) (us : List Float) → Memᴰ (in_turn (rule_f64 F.Replace) x us) (x ∷ us)
replace-one-of x us = in-turn-one-of (rule_f64 F.Replace) (λ x u. inr refl) x us

-- and by Lowest or Highest it is a NaN exactly where it was one
pub lowest-nan : (x : Float) (us : List Float) → is_nan (in_turn (rule_f64 F.Lowest) x us) ≡ is_nan x
unfolding in_turn
lowest-nan x [] = refl
lowest-nan x (u ∷ us) = lowest-nan (rule_f64 F.Lowest x u) us ∙ (lowered x u).as_nan

pub highest-nan : (x : Float) (us : List Float) → is_nan (in_turn (rule_f64 F.Highest) x us) ≡ is_nan x
unfolding in_turn
highest-nan x [] = refl
highest-nan x (u ∷ us) = highest-nan (rule_f64 F.Highest x u) us ∙ (heightened x u).as_nan

-- ---- CEILING: what holds of the value r that is left, of the limit and the sum
pub record Ceiled (limit sum r : Float) : Type 0 where
  -- it is the limit where the sum is greater, and the sum where it is not, as where the limit is a NaN
  pub cut : lt limit sum ≡ true → r ≡ limit
  pub uncut : lt limit sum ≡ false → r ≡ sum
  pub no-limit : limit ≡ nan → r ≡ sum
  -- it is never greater than the limit; where neither limit nor sum is a NaN it is at most the limit
  pub not-greater : lt limit r ≡ false
  pub at_most : is_nan limit ≡ false → is_nan sum ≡ false → le r limit ≡ true
  -- it is a NaN exactly where the sum is
  pub as_nan : is_nan r ≡ is_nan sum

pub ceiled : (limit x u : Float) → Ceiled limit (add_f64 x u) (rule_f64 (F.Ceiling limit) x u)
unfolding lt
ceiled limit x u =
    let sum = add_f64 x u in
    let l = lowered sum limit in
    record {
      cut = λ e. ap (λ (b : Bool). cond b limit sum) e;
      uncut = λ e. ap (λ (b : Bool). cond b limit sum) e;
      no-limit = λ e. ap (λ (l : Float). capped l sum) e;
      not-greater = l.not-update;
      at_most = λ p q. not-less limit (capped limit sum) p (l.as_nan ∙ q) l.not-update;
      as_nan = l.as_nan;
    }

-- after any updates, at least one, the cell is not greater than the limit
pub ceiling-in-turn : (limit x : Float) (us : List Float) → us ≢ [] → lt limit (in_turn (rule_f64 (F.Ceiling limit)) x us) ≡ false
unfolding in_turn
ceiling-in-turn limit x [] n = absurd (n refl)
ceiling-in-turn limit x (u ∷ us) n = go us x u
  where
    go : (us : List Float) (x u : Float) → lt limit (in_turn (rule_f64 (F.Ceiling limit)) (rule_f64 (F.Ceiling limit) x u) us) ≡ false
    go [] x u = (ceiled limit x u).not-greater
    go (v ∷ vs) x u = go vs (rule_f64 (F.Ceiling limit) x u) v

-- a NaN, once there, stays
capped-nan : (limit : Float) → capped limit nan ≡ nan
unfolding lt
capped-nan nan = refl
capped-nan (inf s) = refl
capped-nan (fin s m e) = refl

pub ceiling-nan : (limit : Float) (us : List Float) → in_turn (rule_f64 (F.Ceiling limit)) nan us ≡ nan
unfolding in_turn add
ceiling-nan limit [] = refl
ceiling-nan limit (u ∷ us) = ap (λ (x : Float). in_turn (rule_f64 (F.Ceiling limit)) x us) (capped-nan limit) ∙ ceiling-nan limit us

-- ---- SCATTERS: what element i holds after one
module _ (s : Scatter) (starts : List ℤ) (updates grid : List Float) (i : ℕ) (h : i < length grid) where
  -- the updates that land on it, and what it holds by a rule
  abbrev lands : List Float
  lands = landing (pos i) (placed_updates nan s starts updates)

  abbrev pub after : RuleF64 → Float
  after r = get_or (scattered (rule_f64 r) nan s starts updates grid) i nan

  after_is : (r : RuleF64) → after r ≡ in_turn (rule_f64 r) (get_or grid i nan) lands
  after_is r = each-by (rule_f64 r) nan s starts updates grid i h

  -- by Lowest, Highest and Replace, one of its old value and the updates that land on it, as it was: nothing is rounded
  pub lowest-each : Memᴰ (after F.Lowest) (get_or grid i nan ∷ lands)
  lowest-each = Memᴰ.cast (after_is F.Lowest) (lowest-one-of (get_or grid i nan) lands)

  pub highest-each : Memᴰ (after F.Highest) (get_or grid i nan ∷ lands)
  highest-each = Memᴰ.cast (after_is F.Highest) (highest-one-of (get_or grid i nan) lands)

  pub replace-each : Memᴰ (after F.Replace) (get_or grid i nan ∷ lands)
  replace-each = Memᴰ.cast (after_is F.Replace) (replace-one-of (get_or grid i nan) lands)

  -- by Lowest and Highest, a NaN exactly where it was one
  pub lowest-each-nan : is_nan (after F.Lowest) ≡ is_nan (get_or grid i nan)
  lowest-each-nan = ap is_nan (after_is F.Lowest) ∙ lowest-nan (get_or grid i nan) lands

  pub highest-each-nan : is_nan (after F.Highest) ≡ is_nan (get_or grid i nan)
  highest-each-nan = ap is_nan (after_is F.Highest) ∙ highest-nan (get_or grid i nan) lands

  -- by Ceiling, not greater than the limit where anything lands on it
  pub ceiling-each : (limit : Float) → lands ≢ [] → lt limit (after (F.Ceiling limit)) ≡ false
  ceiling-each limit n = ap (lt limit) (after_is (F.Ceiling limit)) ∙ ceiling-in-turn limit (get_or grid i nan) lands n
