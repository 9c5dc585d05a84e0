-- The laws of the rules: what each cell holds after one list of updates and after two, and two lists in either order. For any lists of updates and any
-- grid. Assumes nothing.
use Rattle.std.specs.Prelude.{◌≡◌, refl, Bool, true, false, cond, ℕ, ◌<◌, length, get_or, ℤ, pos, ◌+ℤ◌, ◌≤ℤ◌}
use Rattle.std.proofs.Math.Path.{sym, ap}
use Rattle.std.proofs.Common.{◌∙◌, subst, ⊎_elim, arith, ext_get_or, SFits}
use mathlib.Core.List.Memᴰ
use mathlib.Core.List.{List, [], ◌∷◌, ◌++◌, Memᴰ}
use Rattle.std.specs.Int.Signed.{lt_z, le_z}
use Rattle.std.specs.Int.{w32}
use Rattle.integer.specs.Defs.{min_ℤ, max_ℤ}
use Rattle.integer.specs.Wrap.{wrap-fits}
use Rattle.integer.specs.Z.{≡-from, zfacts}
use Rattle.indexing.specs.Scatter.{Update, combined, landing, add_i32}
use Rattle.indexing.specs.Updates.{in_turn}
use Rattle.indexing.proofs.Updates.{element, length-combined, combined-append, landing-append, in-either-order}
use Rattle.indexing.proofs.Sums.{in-turn-added, swap-i32}
use Rattle.rules.specs.Rules.{lowest, highest, rule_i32}
use Rattle.rules.specs.Swaps.{least, greatest, latest, leaves, put_on, Alike, both-add, both-lowest, both-highest, Apart, MaySwap, CellHolds}
use Rattle.rules.specs.Choice.{either, in-turn-one-of, min-best, max-best, best-swap, in-turn-best, best-of-all}
use Rattle.rules.specs.declared.Rule.{Rule}
use Rattle.rules.specs.declared.Rule.TheVariants as R

-- ---- a rule's result is an i32 where both values are
cond-fits : (b : Bool) (x u : ℤ) → SFits w32 x → SFits w32 u → SFits w32 (cond b u x)
cond-fits true x u f g = g
cond-fits false x u f g = f

pub rule_fits : (r : Rule) (x u : ℤ) → SFits w32 x → SFits w32 u → SFits w32 (rule_i32 r x u)
rule_fits R.Add x u f g = wrap-fits (x +ℤ u)
rule_fits R.Lowest x u f g = cond-fits (lt_z u x) x u f g
rule_fits R.Highest x u f g = cond-fits (lt_z x u) x u f g
rule_fits R.Replace x u f g = g

-- ---- lists of any elements and any two rules, where no element gets an update from both
module _ {A : Type 0} (r s : A → A → A) (d : A) (north south : List (Update A)) (grid : List A) where
  -- what two lists of updates leave of an element
  pub element-two : (i : ℕ) → i < length grid → get_or (combined s d south (combined r d north grid)) i d ≡ in_turn s (in_turn r (get_or grid i d) (landing (pos i) north)) (landing (pos i) south)
  element-two i h =
      element s d south (combined r d north grid) i (subst (λ (n : ℕ). i < n) (sym (length-combined r d north grid)) h)
      ∙ ap (λ (x : A). in_turn s x (landing (pos i) south)) (element r d north grid i h)

  -- where South does not land: what North leaves there alone
  pub first_alone : (i : ℕ) → i < length grid → landing (pos i) south ≡ [] → get_or (combined s d south (combined r d north grid)) i d ≡ get_or (combined r d north grid) i d
  unfolding in_turn
  first_alone i h e =
      element-two i h
      ∙ ap (in_turn s (in_turn r (get_or grid i d) (landing (pos i) north))) e
      ∙ sym (element r d north grid i h)

  -- where North does not: what South leaves there alone
  pub second-alone : (i : ℕ) → i < length grid → landing (pos i) north ≡ [] → get_or (combined s d south (combined r d north grid)) i d ≡ get_or (combined s d south grid) i d
  unfolding in_turn
  second-alone i h e =
      element-two i h
      ∙ ap (λ (us : List A). in_turn s (in_turn r (get_or grid i d) us) (landing (pos i) south)) e
      ∙ sym (element s d south grid i h)

-- either order leaves the same grid
pub apart-either-order : {A : Type 0} (r s : A → A → A) (d : A) (north south : List (Update A)) (grid : List A) → Apart (length grid) north south
    → combined s d south (combined r d north grid) ≡ combined r d north (combined s d south grid)
apart-either-order {A} r s d north south grid apart =
    ext_get_or d (combined s d south (combined r d north grid)) (combined r d north (combined s d south grid))
    (length_two r s north south ∙ sym (length_two s r south north))
    (λ i h. let h' = subst (λ (n : ℕ). i < n) (length_two r s north south) h in
    ⊎_elim
    (λ e. second-alone r s d north south grid i h' e ∙ sym (first_alone s r d south north grid i h' e))
    (λ e. first_alone r s d north south grid i h' e ∙ sym (second-alone s r d south north grid i h' e))
    (apart i h'))
  where
    length_two : (r s : A → A → A) (north south : List (Update A)) → length (combined s d south (combined r d north grid)) ≡ length grid
    length_two r s north south = length-combined s d south (combined r d north grid) ∙ length-combined r d north grid

-- ---- Lowest and Highest are the lesser and the greater of two
pub lowest-min : (x u : ℤ) → lowest x u ≡ min_ℤ u x
lowest-min x u = go (lt_z u x) refl (le_z u x) refl
  where
    go : (a : Bool) → lt_z u x ≡ a → (b : Bool) → le_z u x ≡ b → cond a u x ≡ cond b u x
    go true p true q = refl
    go true p false q = ≡-from u x (omega (arith, zfacts))
    go false p true q = ≡-from x u (omega (arith, zfacts))
    go false p false q = refl

pub highest-max : (x u : ℤ) → highest x u ≡ max_ℤ u x
highest-max x u = go (lt_z x u) refl (le_z u x) refl
  where
    go : (a : Bool) → lt_z x u ≡ a → (b : Bool) → le_z u x ≡ b → cond a u x ≡ cond b x u
    go true p true q = ≡-from u x (omega (arith, zfacts))
    go true p false q = refl
    go false p true q = refl
    go false p false q = ≡-from x u (omega (arith, zfacts))

pub swap-lowest : (x u v : ℤ) → lowest (lowest x u) v ≡ lowest (lowest x v) u
swap-lowest x u v = best-swap min-best lowest lowest-min x u v

pub swap-highest : (x u v : ℤ) → highest (highest x u) v ≡ highest (highest x v) u
swap-highest x u v = best-swap max-best highest highest-max x u v

-- ---- updates in turn: by Lowest they leave the least of all, by Highest the greatest, by Replace the last
pub in-turn-least : (old : ℤ) (us : List ℤ) → in_turn lowest old us ≡ least old us
unfolding least
in-turn-least old us = in-turn-best min-best least (λ x. refl) (λ x u us. refl) lowest lowest-min old us

pub in-turn-greatest : (old : ℤ) (us : List ℤ) → in_turn highest old us ≡ greatest old us
unfolding greatest
in-turn-greatest old us = in-turn-best max-best greatest (λ x. refl) (λ x u us. refl) highest highest-max old us

pub in-turn-latest : (old : ℤ) (us : List ℤ) → in_turn (rule_i32 R.Replace) old us ≡ latest old us
unfolding in_turn latest
in-turn-latest old [] = refl
in-turn-latest old (u ∷ us) = in-turn-latest u us

pub in-turn-leaves : (r : Rule) (old : ℤ) (us : List ℤ) → in_turn (rule_i32 r) old us ≡ leaves r old us
in-turn-leaves R.Add old us = in-turn-added old us
in-turn-leaves R.Lowest old us = in-turn-least old us
in-turn-leaves R.Highest old us = in-turn-greatest old us
in-turn-leaves R.Replace old us = in-turn-latest old us

-- `least` is at most each of them, `greatest` at least each, and both are one of them
pub least-below : (old : ℤ) (us : List ℤ) (z : ℤ) → Memᴰ z (old ∷ us) → least old us ≤ℤ z
unfolding least
least-below old us z m = best-of-all min-best least (λ x. refl) (λ x u us. refl) old us z m

pub greatest-above : (old : ℤ) (us : List ℤ) (z : ℤ) → Memᴰ z (old ∷ us) → z ≤ℤ greatest old us
unfolding greatest
greatest-above old us z m = best-of-all max-best greatest (λ x. refl) (λ x u us. refl) old us z m

pub least-one-of : (old : ℤ) (us : List ℤ) → Memᴰ (least old us) (old ∷ us)
least-one-of old us = Memᴰ.cast (sym (in-turn-least old us)) (in-turn-one-of lowest (λ x u. either (lt_z u x) x u) old us)

pub greatest-one-of : (old : ℤ) (us : List ℤ) → Memᴰ (greatest old us) (old ∷ us)
greatest-one-of old us = Memᴰ.cast (sym (in-turn-greatest old us)) (in-turn-one-of highest (λ x u. either (lt_z x u) x u) old us)

-- ---- ONE LIST: each cell holds what the rule leaves of its old value and the updates that land on it
pub one_list : (r : Rule) (us : List (Update ℤ)) (grid : List ℤ) (i : ℕ) → i < length grid → get_or (put_on r us grid) i (pos 0) ≡ leaves r (get_or grid i (pos 0)) (landing (pos i) us)
one_list r us grid i h = element (rule_i32 r) (pos 0) us grid i h ∙ in-turn-leaves r (get_or grid i (pos 0)) (landing (pos i) us)

-- ---- two lists of updates by rules that are alike
alike-one : {r s : Rule} → Alike r s → r ≡ s
alike-one both-add = refl
alike-one both-lowest = refl
alike-one both-highest = refl

pub alike-either-order : {r s : Rule} → Alike r s → (north south : List (Update ℤ)) (grid : List ℤ) → put_on s south (put_on r north grid) ≡ put_on r north (put_on s south grid)
alike-either-order both-add north south grid = in-either-order add_i32 (pos 0) swap-i32 north south grid
alike-either-order both-lowest north south grid = in-either-order lowest (pos 0) swap-lowest north south grid
alike-either-order both-highest north south grid = in-either-order highest (pos 0) swap-highest north south grid

-- ---- what a cell holds
module _ (r s : Rule) (north south : List (Update ℤ)) (grid : List ℤ) (i : ℕ) (h : i < length grid) where
  -- both by one rule: what the rule leaves of the old value and the updates of North and South
  one-rule : r ≡ s → get_or (put_on s south (put_on r north grid)) i (pos 0) ≡ leaves r (get_or grid i (pos 0)) (landing (pos i) north ++ landing (pos i) south)
  one-rule e =
      ap (λ (t : Rule). get_or (put_on t south (put_on r north grid)) i (pos 0)) (sym e)
      ∙ ap (λ (l : List ℤ). get_or l i (pos 0)) (sym (combined-append (rule_i32 r) (pos 0) north south grid))
      ∙ one_list r (north ++ south) grid i h
      ∙ ap (leaves r (get_or grid i (pos 0))) (landing-append (pos i) north south)

  -- A CELL, by any pairing
  pub cell : CellHolds r s north south grid (put_on s south (put_on r north grid)) i
  unfolding in_turn
  cell =
      record {
        alike = λ a. one-rule (alike-one a);
        north-alone = λ e. first_alone (rule_i32 r) (rule_i32 s) (pos 0) north south grid i h e;
        south-alone = λ e. second-alone (rule_i32 r) (rule_i32 s) (pos 0) north south grid i h e;
        neither = λ e f. second-alone (rule_i32 r) (rule_i32 s) (pos 0) north south grid i h e
            ∙ element (rule_i32 s) (pos 0) south grid i h
            ∙ ap (in_turn (rule_i32 s) (get_or grid i (pos 0))) f;
      }

-- TWO LISTS that may swap: both orders leave one grid
pub may-swap : (r s : Rule) (north south : List (Update ℤ)) (grid : List ℤ) → MaySwap (length grid) r s north south → put_on s south (put_on r north grid) ≡ put_on r north (put_on s south grid)
may-swap r s north south grid m = ⊎_elim (λ a. alike-either-order a north south grid) (λ a. apart-either-order (rule_i32 r) (rule_i32 s) (pos 0) north south grid a) m
