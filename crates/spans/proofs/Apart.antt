-- The nested test without an order of the axes: each axis with more than one coordinate against the sum over the others that are no larger. Assumes nothing.
use mathlib.Core.Path.{◌≡◌, refl, sym, ap, ap₂, ◌∙◌}
use mathlib.Core.Bool.{Bool, true, false, cond, ◌||◌, ◌&&◌}
use mathlib.Core.List.{List, [], ◌∷◌}
use Prim.Native.Nat.{ℕ, zero, suc, ◌+◌, ◌*◌, ◌-◌, ◌<◌, ◌≤◌}
use native.Mathlib.Nat.{add-zero, mul-le-mul_left, mul-one}
use native.Mathlib.Omega.{arith}
use borrow.Author.Tests.{lt-ltb, le-ltb, ltb-true, ltb-false, le-leb, lt-leb, leb-true, leb-false, eq-eqb, ne_eqb, eqb-true, eqb-false}
use lib.Dec.{eqb, leb, ltb}
use lib.ListN.{length, drop, get_or, drop_of_length-le}
use lib.Seq.{drop-cons}
use lib.IntN.{ℤ, pos, nat_abs}
use Rattle.integer.specs.Tests.{and-true}
use Rattle.layout.specs.Nested.{has_zero, long_axes, insert, ordered, exceeds, nested}
use Rattle.layout.specs.Sums.{weight, sum_axes, other_at, others_weight, axis_exceeds}

-- ---- plain lists of axes: the magnitude of the stride, and the extent
abbrev pub Axis : Type 0
Axis = ℕ × ℕ

abbrev reach : Axis → ℕ
reach x = x.0 * (x.1 - 1)

unfoldable pub pairs : List ℕ → List ℤ → List Axis
pairs [] ss = []
pairs (d ∷ ds) [] = []
pairs (d ∷ ds) (s ∷ ss) = (nat_abs s, d) ∷ pairs ds ss

-- what the axes up to a magnitude reach
unfoldable pub up_to : ℕ → List Axis → ℕ
up_to limit [] = 0
up_to limit (x ∷ xs) = cond (leb x.0 limit) (reach x) 0 + up_to limit xs

unfoldable pub all : (Axis → Bool) → List Axis → Bool
all f [] = true
all f (x ∷ xs) = f x && all f xs

abbrev pub apart : List Axis → Axis → Bool
apart l x = ltb (up_to x.0 l) (x.0 + reach x)

-- ---- tests
ltb-shift : (a b w : ℕ) → ltb a b ≡ ltb (a + w) (b + w)
ltb-shift a b w = go (ltb a b) refl
  where
    go : (t : Bool) → ltb a b ≡ t → ltb a b ≡ ltb (a + w) (b + w)
    go true e = rw (e, lt-ltb (a + w) (b + w) (omega (arith, ltb-true a b e)))
    go false e = rw (e, le-ltb (a + w) (b + w) (omega (arith, ltb-false a b e)))

pub and-false : (b : Bool) → (b && false) ≡ false
and-false true = refl
and-false false = refl

and-swap : (a b c : Bool) → (a && (b && c)) ≡ (b && (a && c))
and-swap true b c = refl
and-swap false true c = refl
and-swap false false c = refl

-- ---- the sum over the others is the sum over all but the axis itself
past-own : (limit axis j : ℕ) (ds : List ℕ) (ss : List ℤ) → axis < j → sum_axes (other_at limit axis) j ds ss ≡ up_to limit (pairs ds ss)
unfolding sum_axes pairs up_to
past-own limit axis j [] ss h = refl
past-own limit axis j (d ∷ ds) [] h = refl
past-own limit axis j (d ∷ ds) (s ∷ ss) h =
    rw (ne_eqb j axis (λ e. omega arith)) (ap (λ (n : ℕ). cond (leb (nat_abs s) limit) (weight d s) 0 + n) (past-own limit axis (suc j) ds ss (omega arith)))

with-own : (limit axis k j : ℕ) (ds : List ℕ) (ss : List ℤ) → axis ≡ j + k → k < length ds → length ss ≡ length ds → nat_abs (get_or ss k (pos 0)) ≤ limit
    → sum_axes (other_at limit axis) j ds ss + weight (get_or ds k 0) (get_or ss k (pos 0)) ≡ up_to limit (pairs ds ss)
unfolding sum_axes pairs up_to
with-own limit axis k j [] ss a h l m = absurd (omega arith)
with-own limit axis k j (d ∷ ds) [] a h l m = absurd (omega arith)
with-own limit axis zero j (d ∷ ds) (s ∷ ss) a h l m =
    rw (eq-eqb j axis (omega arith), le-leb (nat_abs s) limit m, past-own limit axis (suc j) ds ss (omega arith)) (omega arith)
with-own limit axis (suc k) j (d ∷ ds) (s ∷ ss) a h l m =
    let ih : sum_axes (other_at limit axis) (suc j) ds ss + weight (get_or ds k 0) (get_or ss k (pos 0)) ≡ up_to limit (pairs ds ss) = with-own limit axis k (suc j) ds ss (omega arith) (omega arith) (omega arith) m in
    rw (ne_eqb j axis (λ x. omega arith)) (omega (arith, ih))

-- an axis of the layout, as an axis of the plain list
long-or-apart : List Axis → Axis → Bool
long-or-apart l x = eqb x.1 1 || apart l x

exceeds-is : (i : ℕ) (ds : List ℕ) (ss : List ℤ) → i < length ds → length ss ≡ length ds
    → axis_exceeds i ds ss ≡ long-or-apart (pairs ds ss) (nat_abs (get_or ss i (pos 0)), get_or ds i 0)
unfolding axis_exceeds long-or-apart
exceeds-is i ds ss h l =
    ap (λ (t : Bool). eqb (get_or ds i 0) 1 || t)
    (ltb-shift (others_weight (nat_abs (get_or ss i (pos 0))) i ds ss) (nat_abs (get_or ss i (pos 0))) (weight (get_or ds i 0) (get_or ss i (pos 0)))
    ∙ ap (λ (n : ℕ). ltb n (nat_abs (get_or ss i (pos 0)) + weight (get_or ds i 0) (get_or ss i (pos 0)))) (with-own (nat_abs (get_or ss i (pos 0))) i i 0 ds ss (omega arith) h l (omega arith)))

-- ---- the axes from i on, one after another
unfoldable pub exceeds_from : ℕ → ℕ → List ℕ → List ℤ → Bool
exceeds_from zero i ds ss = true
exceeds_from (suc k) i ds ss = axis_exceeds i ds ss && exceeds_from k (suc i) ds ss

length_pairs : (ds : List ℕ) (ss : List ℤ) → length ss ≡ length ds → length (pairs ds ss) ≡ length ds
unfolding pairs
length_pairs [] ss l = refl
length_pairs (d ∷ ds) [] l = absurd (omega arith)
length_pairs (d ∷ ds) (s ∷ ss) l = ap suc (length_pairs ds ss (omega arith))

get_or-pairs : (ds : List ℕ) (ss : List ℤ) (i : ℕ) → length ss ≡ length ds → i < length ds → get_or (pairs ds ss) i (0, 0) ≡ (nat_abs (get_or ss i (pos 0)), get_or ds i 0)
unfolding pairs
get_or-pairs [] ss i l h = absurd (omega arith)
get_or-pairs (d ∷ ds) [] i l h = absurd (omega arith)
get_or-pairs (d ∷ ds) (s ∷ ss) zero l h = refl
get_or-pairs (d ∷ ds) (s ∷ ss) (suc i) l h = get_or-pairs ds ss i (omega arith) (omega arith)

from_list : (k i : ℕ) (ds : List ℕ) (ss : List ℤ) → length ss ≡ length ds → i + k ≡ length ds → exceeds_from k i ds ss ≡ all (long-or-apart (pairs ds ss)) (drop i (pairs ds ss))
unfolding exceeds_from all
from_list zero i ds ss l h = rw (drop_of_length-le (pairs ds ss) {i = i} (omega (arith, length_pairs ds ss l)))
from_list (suc k) i ds ss l h =
    let b : i < length (pairs ds ss) = omega (arith, length_pairs ds ss l) in
    rw (drop-cons (pairs ds ss) i (0, 0) b, get_or-pairs ds ss i l (omega arith))
    (ap₂ ◌&&◌ (exceeds-is i ds ss (omega arith) l) (from_list k (suc i) ds ss l (omega arith)))

-- ---- axes of extent 1 reach nothing
unfoldable longs : List Axis → List Axis
longs [] = []
longs (x ∷ xs) = cond (eqb x.1 1) (longs xs) (x ∷ longs xs)

longs-are : (ds : List ℕ) (ss : List ℤ) → long_axes ds ss ≡ longs (pairs ds ss)
unfolding long_axes longs pairs
longs-are [] ss = refl
longs-are (d ∷ ds) [] = refl
longs-are (d ∷ ds) (s ∷ ss) = ap (λ (l : List Axis). cond (eqb d 1) l ((nat_abs s, d) ∷ l)) (longs-are ds ss)

none-reached : (m d : ℕ) → d ≡ 1 → m * (d - 1) ≡ 0
none-reached m d e = rw e (omega arith)

up_to-longs : (limit : ℕ) (xs : List Axis) → up_to limit xs ≡ up_to limit (longs xs)
unfolding up_to longs
up_to-longs limit [] = refl
up_to-longs limit (x ∷ xs) = go (eqb x.1 1) refl (leb x.0 limit) refl (up_to-longs limit xs)
  where
    go : (t : Bool) → eqb x.1 1 ≡ t → (b : Bool) → leb x.0 limit ≡ b → up_to limit xs ≡ up_to limit (longs xs) → cond (leb x.0 limit) (reach x) 0 + up_to limit xs ≡ up_to limit (cond (eqb x.1 1) (longs xs) (x ∷ longs xs))
    go true e true f ih = rw (e, f) (omega (arith, ih, none-reached x.0 x.1 (eqb-true x.1 1 e)))
    go true e false f ih = rw (e, f) (omega (arith, ih))
    go false e b f ih = rw e (ap (λ (n : ℕ). cond (leb x.0 limit) (reach x) 0 + n) ih)

all_same : (f g : Axis → Bool) (xs : List Axis) → ((x : Axis) → f x ≡ g x) → all f xs ≡ all g xs
unfolding all
all_same f g [] h = refl
all_same f g (x ∷ xs) h = ap₂ ◌&&◌ (h x) (all_same f g xs h)

all-longs : (g : Axis → Bool) (xs : List Axis) → all (λ x. eqb x.1 1 || g x) xs ≡ all g (longs xs)
unfolding all longs
all-longs g [] = refl
all-longs g (x ∷ xs) = go (eqb x.1 1) refl (all-longs g xs)
  where
    go : (t : Bool) → eqb x.1 1 ≡ t → all (λ x. eqb x.1 1 || g x) xs ≡ all g (longs xs) → ((eqb x.1 1 || g x) && all (λ x. eqb x.1 1 || g x) xs) ≡ all g (cond (eqb x.1 1) (longs xs) (x ∷ longs xs))
    go true e ih = rw e ih
    go false e ih = rw e (ap (λ (b : Bool). g x && b) ih)

-- ---- the order does not matter
up_to-insert : (limit : ℕ) (x : Axis) (ys : List Axis) → up_to limit (insert x ys) ≡ up_to limit (x ∷ ys)
unfolding up_to insert
up_to-insert limit x [] = refl
up_to-insert limit x (y ∷ ys) = go (leb x.0 y.0) (up_to-insert limit x ys)
  where
    go : (t : Bool) → up_to limit (insert x ys) ≡ up_to limit (x ∷ ys) → up_to limit (cond t (x ∷ y ∷ ys) (y ∷ insert x ys)) ≡ up_to limit (x ∷ y ∷ ys)
    go true ih = refl
    go false ih = omega (arith, ih)

all_insert : (g : Axis → Bool) (x : Axis) (ys : List Axis) → all g (insert x ys) ≡ all g (x ∷ ys)
unfolding all insert
all_insert g x [] = refl
all_insert g x (y ∷ ys) = go (leb x.0 y.0) (all_insert g x ys)
  where
    go : (t : Bool) → all g (insert x ys) ≡ all g (x ∷ ys) → all g (cond t (x ∷ y ∷ ys) (y ∷ insert x ys)) ≡ all g (x ∷ y ∷ ys)
    go true ih = refl
    go false ih = ap (λ (b : Bool). g y && b) ih ∙ and-swap (g y) (g x) (all g ys)

up_to-ordered : (limit : ℕ) (xs : List Axis) → up_to limit (ordered xs) ≡ up_to limit xs
unfolding up_to ordered
up_to-ordered limit [] = refl
up_to-ordered limit (x ∷ xs) = up_to-insert limit x (ordered xs) ∙ ap (λ (n : ℕ). cond (leb x.0 limit) (reach x) 0 + n) (up_to-ordered limit xs)

all-ordered : (g : Axis → Bool) (xs : List Axis) → all g (ordered xs) ≡ all g xs
unfolding all ordered
all-ordered g [] = refl
all-ordered g (x ∷ xs) = all_insert g x (ordered xs) ∙ ap (λ (b : Bool). g x && b) (all-ordered g xs)

-- ---- what is true of each axis, also after ordering
unfoldable pub Each : (Axis → Type 0) → List Axis → Type 0
Each P [] = Unit {0}
Each P (x ∷ xs) = P x × Each P xs

pub each-insert : (P : Axis → Type 0) (x : Axis) (ys : List Axis) → P x → Each P ys → Each P (insert x ys)
unfolding Each insert
each-insert P x [] p h = (p, tt)
each-insert P x (y ∷ ys) p h = go (leb x.0 y.0) (each-insert P x ys p h.1)
  where
    go : (t : Bool) → Each P (insert x ys) → Each P (cond t (x ∷ y ∷ ys) (y ∷ insert x ys))
    go true ih = (p, h)
    go false ih = (h.0, ih)

pub each-ordered : (P : Axis → Type 0) (xs : List Axis) → Each P xs → Each P (ordered xs)
unfolding Each ordered
each-ordered P [] h = tt
each-ordered P (x ∷ xs) h = each-insert P x (ordered xs) h.0 (each-ordered P xs h.1)

each_of : (P Q : Axis → Type 0) (xs : List Axis) → ((x : Axis) → P x → Q x) → Each P xs → Each Q xs
unfolding Each
each_of P Q [] f h = tt
each_of P Q (x ∷ xs) f h = (f x h.0, each_of P Q xs f h.1)

abbrev From : ℕ → Axis → Type 0
From m x = m ≤ x.0

unfoldable Rising : List Axis → Type 0
Rising [] = Unit {0}
Rising (x ∷ xs) = Each (From x.0) xs × Rising xs

rising-insert : (x : Axis) (ys : List Axis) → Rising ys → Rising (insert x ys)
unfolding Rising insert Each
rising-insert x [] h = (tt, tt)
rising-insert x (y ∷ ys) h = go (leb x.0 y.0) refl (rising-insert x ys h.1)
  where
    go : (t : Bool) → leb x.0 y.0 ≡ t → Rising (insert x ys) → Rising (cond t (x ∷ y ∷ ys) (y ∷ insert x ys))
    go true e ih = let l : x.0 ≤ y.0 = leb-true x.0 y.0 e in ((l, each_of (From y.0) (From x.0) ys (λ z p. omega arith) h.0), h)
    go false e ih = let l : y.0 < x.0 = leb-false x.0 y.0 e in (each-insert (From y.0) x ys (omega arith) h.0, ih)

rising-ordered : (xs : List Axis) → Rising (ordered xs)
unfolding Rising ordered
rising-ordered [] = tt
rising-ordered (x ∷ xs) = rising-insert x (ordered xs) (rising-ordered xs)

-- ---- over rising magnitudes the two tests are one
abbrev Long : Axis → Type 0
Long x = 2 ≤ x.1

-- where each exceeds what is before it, none is up to a smaller magnitude
none-up-to : (limit q : ℕ) (xs : List Axis) → limit ≤ q → exceeds q xs ≡ true → up_to limit xs ≡ 0
unfolding up_to exceeds
none-up-to limit q [] h e = refl
none-up-to limit q (x ∷ xs) h e =
    let a : q < x.0 = ltb-true q x.0 (and-true (ltb q x.0) _ e).0 in
    rw (lt-leb x.0 limit (omega arith)) (omega (arith, none-up-to limit (q + reach x) xs (omega arith) (and-true (ltb q x.0) _ e).1))

abbrev apart_from : ℕ → List Axis → Axis → Bool
apart_from p l x = ltb (p + up_to x.0 l) (x.0 + reach x)

all_from : (p : ℕ) (x : Axis) (xs rest : List Axis) → Each (From x.0) rest → all (apart_from p (x ∷ xs)) rest ≡ all (apart_from (p + reach x) xs) rest
unfolding all Each
all_from p x xs [] h = refl
all_from p x xs (y ∷ ys) h = ap₂ ◌&&◌ (here y h.0) (all_from p x xs ys h.1)
  where
    here : (y : Axis) → x.0 ≤ y.0 → apart_from p (x ∷ xs) y ≡ apart_from (p + reach x) xs y
    here y l = unfold up_to in rw (le-leb x.0 y.0 l) (ap (λ (n : ℕ). ltb n (y.0 + reach y)) (omega arith))

long-reach : (m d : ℕ) → 2 ≤ d → m ≤ m * (d - 1)
long-reach m d h = omega (arith, mul-le-mul_left {m = 1} {n = d - 1} m (omega arith), mul-one m)

both-tests : (p : ℕ) (xs : List Axis) → Rising xs → Each Long xs → exceeds p xs ≡ all (apart_from p xs) xs
unfolding Rising Each exceeds all
both-tests p [] r l = refl
both-tests p (x ∷ xs) r l = go (exceeds (p + reach x) xs) refl
    (both-tests (p + reach x) xs r.1 l.1 ∙ sym (all_from p x xs xs r.0))
  where
    first : exceeds (p + reach x) xs ≡ true → ltb p x.0 ≡ apart_from p (x ∷ xs) x
    first e =
        unfold up_to in
        rw (le-leb x.0 x.0 (omega arith), none-up-to x.0 (p + reach x) xs (omega (arith, long-reach x.0 x.1 l.0)) e)
        (ltb-shift p x.0 (reach x) ∙ ap (λ (n : ℕ). ltb (p + n) (x.0 + reach x)) (sym (add-zero (reach x))))

    go : (t : Bool) → exceeds (p + reach x) xs ≡ t → exceeds (p + reach x) xs ≡ all (apart_from p (x ∷ xs)) xs → (ltb p x.0 && exceeds (p + reach x) xs) ≡ (apart_from p (x ∷ xs) x && all (apart_from p (x ∷ xs)) xs)
    go true e ih = ap₂ ◌&&◌ (first e) ih
    go false e ih = rw (← ih, e) (and-false (ltb p x.0) ∙ sym (and-false (apart_from p (x ∷ xs) x)))

-- ---- where no extent is 0, an extent that is not 1 is at least 2
no-zero-head : (d : ℕ) (ds : List ℕ) → has_zero (d ∷ ds) ≡ false → (d ≡ 0 → ⊥) × (has_zero ds ≡ false)
unfolding has_zero
no-zero-head d ds e = go (eqb d 0) refl e
  where
    go : (t : Bool) → eqb d 0 ≡ t → (t || has_zero ds) ≡ false → (d ≡ 0 → ⊥) × (has_zero ds ≡ false)
    go true f h = let z : ◌≡◌ {A = ℕ} 0 1 = cc in absurd (omega arith)
    go false f h = (eqb-false d 0 f, h)

long-axes : (ds : List ℕ) (ss : List ℤ) → has_zero ds ≡ false → Each Long (long_axes ds ss)
unfolding Each long_axes
long-axes [] ss e = tt
long-axes (d ∷ ds) [] e = tt
long-axes (d ∷ ds) (s ∷ ss) e = go (eqb d 1) refl (long-axes ds ss (no-zero-head d ds e).1)
  where
    two : (d ≡ 0 → ⊥) → (d ≡ 1 → ⊥) → 2 ≤ d
    two f g = at_least d f g
      where
        at_least : (d : ℕ) → (d ≡ 0 → ⊥) → (d ≡ 1 → ⊥) → 2 ≤ d
        at_least zero f g = absurd (f refl)
        at_least (suc zero) f g = absurd (g refl)
        at_least (suc (suc n)) f g = omega arith

    go : (t : Bool) → eqb d 1 ≡ t → Each Long (long_axes ds ss) → Each Long (cond t (long_axes ds ss) ((nat_abs s, d) ∷ long_axes ds ss))
    go true f ih = ih
    go false f ih = (two (no-zero-head d ds e).0 (eqb-false d 1 f), ih)

-- THE TEST that the code makes is the nested test
pub tests-are : (ds : List ℕ) (ss : List ℤ) → length ss ≡ length ds → has_zero ds ≡ false → exceeds_from (length ds) 0 ds ss ≡ nested ds ss
unfolding nested long-or-apart
tests-are ds ss l z =
    rw z
    (from_list (length ds) 0 ds ss l (omega arith)
    ∙ all_same (long-or-apart (pairs ds ss)) (λ x. eqb x.1 1 || apart (long_axes ds ss) x) (pairs ds ss) (λ x. ap (λ (n : ℕ). eqb x.1 1 || ltb n (x.0 + reach x)) (up_to-longs x.0 (pairs ds ss) ∙ ap (up_to x.0) (sym (longs-are ds ss))))
    ∙ all-longs (apart (long_axes ds ss)) (pairs ds ss)
    ∙ ap (all (apart (long_axes ds ss))) (sym (longs-are ds ss))
    ∙ sym (all-ordered (apart (long_axes ds ss)) (long_axes ds ss))
    ∙ all_same (apart (long_axes ds ss)) (apart_from 0 (ordered (long_axes ds ss))) (ordered (long_axes ds ss)) (λ x. ap (λ (n : ℕ). ltb n (x.0 + reach x)) (sym (up_to-ordered x.0 (long_axes ds ss)) ∙ omega arith))
    ∙ sym (both-tests 0 (ordered (long_axes ds ss)) (rising-ordered (long_axes ds ss)) (each-ordered Long (long_axes ds ss) (long-axes ds ss z))))

-- ---- a turn of the loop over the axes
module _ (n i : ℕ) (ds : List ℕ) (ss : List ℤ) (h : i < n) where
  from-turn : exceeds_from (n - i) i ds ss ≡ (axis_exceeds i ds ss && exceeds_from (n - (i + 1)) (i + 1) ds ss)
  from-turn =
      let e : n - i ≡ suc (n - (i + 1)) = omega arith in
      let f : i + 1 ≡ suc i = omega arith in
      rw (e, f) (unfold exceeds_from in refl)

  pub from-no : axis_exceeds i ds ss ≡ false → false ≡ exceeds_from (n - i) i ds ss
  from-no e = rw (from-turn, e)

  pub from-yes : axis_exceeds i ds ss ≡ true → exceeds_from (n - (i + 1)) (i + 1) ds ss ≡ exceeds_from (n - i) i ds ss
  from-yes e = rw (from-turn, e)

pub from_end : (n i : ℕ) (ds : List ℕ) (ss : List ℤ) → n ≤ i → true ≡ exceeds_from (n - i) i ds ss
from_end n i ds ss h = let e : n - i ≡ 0 = omega arith in rw e (unfold exceeds_from in refl)

-- a layout with an extent of 0 is nested
pub zero-nested : (ds : List ℕ) (ss : List ℤ) → has_zero ds ≡ true → true ≡ nested ds ss
unfolding nested
zero-nested ds ss e = rw e
