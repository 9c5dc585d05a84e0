-- Turns of the loops over axis lists: entries written into an array of axes, found, picked, spread over axes and left out. Assumes nothing.
use mathlib.Core.Path.{◌≡◌, refl, sym, ap, ap₂, ◌∙◌}
use mathlib.Core.Bool.{Bool, true, false, cond, ◌||◌}
use mathlib.Core.List.{List, [], ◌∷◌, ◌++◌}
use Prim.Native.Nat.{ℕ, zero, suc, ◌+◌, ◌-◌, ◌<◌, ◌≤◌, min}
use native.Mathlib.Numerals.{add-one}
use native.Mathlib.Omega.{arith}
use borrow.Author.Tests.{lt-ltb, le-ltb, ltb-true, ltb-false}
use lib.Dec.{eqb, ltb}
use lib.ListN.{length, take, drop, get_or, set, replicate, length-take, length-drop, length-append, drop_of_length-le}
use lib.Seq.{take_all, drop-nil, drop-cons, get_or-take, set-append_left, set_out}
use Rattle.indexing.specs.Coordinates.{has, pick, spread, others_from}
use Rattle.indexing.specs.Start.{without}
use Rattle.indexing.specs.Axes.{length-pick, get_or-pick, length-spread}
use Rattle.layout.specs.Layouts.{rank_limit, padded}
use Rattle.spans.proofs.Parts.{take_count}
use Rattle.layout.proofs.Fill.{filled, fill_one, fill_done, padded-back}
use Rattle.std.specs.List.{list_any}
use Rattle.std.proofs.lemmas.List.{drop-replicate, take-replicate, length-replicate}
use Rattle.axis_lists.specs.Held.{held, held_steps}
use lib.IntN.{ℤ, pos}

pub list-is : {A : Type 0} (z : A) (n : ℕ) (out l : List A) → n ≡ length l → out ≡ padded rank_limit z l → record { count = n; entries = out } ≡ held z l
list-is {A} z n out l e f = ap₂ (λ (c : ℕ) (xs : List A). record { count = c; entries = xs }) e f

pub steps-are : (n : ℕ) (out l : List ℤ) → n ≡ length l → out ≡ padded rank_limit (pos 0) l → record { count = n; entries = out } ≡ held_steps l
steps-are = list-is (pos 0)

-- the first entries of a list, stored at once
pub stored-at-once : {A : Type 0} (z : A) (n : ℕ) (out l : List A) → n ≡ min (length l) rank_limit → out ≡ take n l → out ++ drop n (replicate rank_limit z) ≡ padded rank_limit z l
stored-at-once {A} z n out l e f = ap₂ (λ (xs ys : List A). xs ++ ys) f (drop-replicate n rank_limit z) ∙ fill_done rank_limit z l (filled rank_limit z l n) n (omega arith) refl

-- what is written after i entries of a list
abbrev pub written : {A : Type 0} → A → List A → ℕ → List A
written d l i = filled rank_limit d l i

pub one_written : {A : Type 0} (d : A) (l out : List A) (i : ℕ) (x : A) → i < length l → length l ≤ rank_limit → out ≡ written d l i → x ≡ get_or l i d → set out i x ≡ written d l (i + 1)
one_written d l out i x h k e f = fill_one rank_limit d d l out i x (omega arith) h e f

pub next-written : {A : Type 0} (d : A) (l out : List A) (i : ℕ) (x : A) → i < min (length l) rank_limit → out ≡ written d l i → x ≡ get_or l i d → set out i x ≡ written d l (i + 1)
next-written d l out i x h e f = fill_one rank_limit d d l out i x (omega arith) (omega arith) e f

pub written-all : {A : Type 0} (d : A) (l out : List A) (i : ℕ) → i ≡ min (length l) rank_limit → out ≡ written d l i → out ≡ padded rank_limit d l
written-all d l out i h e = fill_done rank_limit d l out i (omega arith) e

pub all-written : {A : Type 0} (d : A) (l : List A) (i : ℕ) → i ≡ length l → length l ≤ rank_limit → written d l i ≡ padded rank_limit d l
all-written d l i e h = fill_done rank_limit d l (written d l i) i (omega arith) refl

-- ---- membership
pub any-has : (xs : List ℕ) (a : ℕ) → list_any (λ (y : ℕ). eqb y a) xs ≡ has xs a
unfolding has
any-has [] a = refl
any-has (x ∷ xs) a = ap (λ (t : Bool). eqb x a || t) (any-has xs a)

-- ---- an entry
pub entry-below : {A : Type 0} (n : ℕ) (xs : List A) (i : ℕ) (d : A) → i < n → get_or xs i d ≡ get_or (take n xs) i d
entry-below n xs i d h = sym (get_or-take n xs i d h)

-- the entries of an array that count
pub counted : {A : Type 0} (n k : ℕ) (xs : List A) → n ≡ min k rank_limit → length xs ≡ rank_limit → take n xs ≡ take k xs
counted n k xs e f = take_count n k xs (omega (arith, e, f))

-- ---- picking
pub picked : {A : Type 0} (d : A) (axes : List ℕ) (l : List A) (n i : ℕ) → i < min n (length axes) → get_or l (get_or axes i 0) d ≡ get_or (pick d (take n axes) l) i d
picked d axes l n i h =
    ap (λ (a : ℕ). get_or l a d) (entry-below n axes i 0 (omega arith)) ∙ sym (get_or-pick d (take n axes) l i (omega (arith, length-take n axes)))

pub length-picked : {A : Type 0} (d : A) (axes : List ℕ) (l : List A) (n : ℕ) → length (pick d (take n axes) l) ≡ min n (length axes)
length-picked d axes l n = length-pick d (take n axes) l ∙ length-take n axes

-- ---- spreading, from the last entry to the first
-- an array: n entries spread over the axes, then zeros
abbrev pub spread_in : {A : Type 0} → A → A → ℕ → List ℕ → List A → List A
spread_in z d n axes l = spread d n axes l ++ replicate (rank_limit - n) z

pub spread_none : {A : Type 0} (z d : A) (n : ℕ) (axes : List ℕ) (l : List A) (i : ℕ) → min (length axes) (length l) ≤ i → replicate n d ++ replicate (rank_limit - n) z ≡ spread_in z d n (drop i axes) (drop i l)
unfolding spread
spread_none z d n axes l i h = go (ltb i (length axes)) refl
  where
    none : (xs : List ℕ) → replicate n d ≡ spread d n xs []
    none [] = unfold spread in refl
    none (x ∷ xs) = unfold spread in refl

    go : (t : Bool) → ltb i (length axes) ≡ t → replicate n d ++ replicate (rank_limit - n) z ≡ spread_in z d n (drop i axes) (drop i l)
    go true e = let k : length l ≤ i = omega (arith, ltb-true i (length axes) e) in rw (drop_of_length-le l k) (ap (λ (t : List _). t ++ replicate (rank_limit - n) z) (none (drop i axes)))
    go false e = rw (drop_of_length-le axes (ltb-false i (length axes) e))

-- one entry more
pub spread-one : {A : Type 0} (z d : A) (n : ℕ) (axes : List ℕ) (l : List A) (i : ℕ) (x : A) → i < length axes → i < length l → x ≡ get_or l i z
    → cond (ltb (get_or axes i 0) n) (set (spread_in z d n (drop (i + 1) axes) (drop (i + 1) l)) (get_or axes i 0) x) (spread_in z d n (drop (i + 1) axes) (drop (i + 1) l)) ≡ spread_in z d n (drop i axes) (drop i l)
unfolding spread
spread-one {A} z d n axes l i x h k e = rw (e, add-one i, drop-cons axes i 0 h, drop-cons l i z k) (go (ltb (get_or axes i 0) n) refl)
  where
    rest : List A
    rest = spread d n (drop (suc i) axes) (drop (suc i) l)

    go : (t : Bool) → ltb (get_or axes i 0) n ≡ t → cond (ltb (get_or axes i 0) n) (set (rest ++ replicate (rank_limit - n) z) (get_or axes i 0) (get_or l i z)) (rest ++ replicate (rank_limit - n) z) ≡ set rest (get_or axes i 0) (get_or l i z) ++ replicate (rank_limit - n) z
    go true f = rw f (set-append_left rest (replicate (rank_limit - n) z) (get_or axes i 0) (get_or l i z) (omega (arith, ltb-true (get_or axes i 0) n f, length-spread d n (drop (suc i) axes) (drop (suc i) l))))
    go false f = rw f (ap (λ (t : List _). t ++ replicate (rank_limit - n) z) (sym (set_out rest (get_or axes i 0) (get_or l i z) (omega (arith, ltb-false (get_or axes i 0) n f, length-spread d n (drop (suc i) axes) (drop (suc i) l))))))

-- all of it, as it is held
pub spread-padded : {A : Type 0} (z d : A) (n : ℕ) (axes : List ℕ) (l : List A) → n ≤ rank_limit → spread_in z d n axes l ≡ padded rank_limit z (spread d n axes l)
unfolding padded
spread-padded z d n axes l h = rw (take_all rank_limit (spread d n axes l) (omega (arith, length-spread d n axes l)), length-spread d n axes l)

-- ---- the others, one after another
module _ (axes : List ℕ) (i n : ℕ) (h : i < n) where
  others-turn : others_from i (n - i) axes ≡ cond (has axes i) (others_from (i + 1) (n - (i + 1)) axes) (i ∷ others_from (i + 1) (n - (i + 1)) axes)
  others-turn =
      let e : n - i ≡ suc (n - (i + 1)) = omega arith in
      rw (e, add-one i) (unfold others_from in refl)

  pub others-skip : has axes i ≡ true → others_from i (n - i) axes ≡ others_from (i + 1) (n - (i + 1)) axes
  others-skip e = rw (others-turn, e)

  pub others-take : has axes i ≡ false → others_from i (n - i) axes ≡ i ∷ others_from (i + 1) (n - (i + 1)) axes
  others-take e = rw (others-turn, e)

pub others-done : (axes : List ℕ) (i n : ℕ) → n ≤ i → others_from i (n - i) axes ≡ []
others-done axes i n h = let e : n - i ≡ 0 = omega arith in rw e (unfold others_from in refl)

pub length-others : (i n : ℕ) (axes : List ℕ) → length (others_from i n axes) ≤ n
unfolding others_from
length-others i zero axes = omega arith
length-others i (suc n) axes = go (has axes i) (length-others (suc i) n axes)
  where
    go : (t : Bool) → length (others_from (suc i) n axes) ≤ n → length (cond t (others_from (suc i) n axes) (i ∷ others_from (suc i) n axes)) ≤ suc n
    go true k = omega arith
    go false k = omega arith

-- what is left of a list
pub record Head {A : Type 0} (d : A) (l : List A) (c : ℕ) (x : A) (rest : List A) : Type 0 where
  pub more : c < length l
  pub first : get_or l c d ≡ x
  pub next : drop (c + 1) l ≡ rest

pub head_of : {A : Type 0} (d : A) (l : List A) (c : ℕ) (x : A) (rest : List A) → drop c l ≡ x ∷ rest → Head d l c x rest
head_of d [] c x rest e = absurd (nil-cons (sym (drop-nil c) ∙ e))
  where
    nil-cons : {B : Type 0} {y : B} {ys : List B} → [] ≡ y ∷ ys → ⊥
    nil-cons f = let z : ◌≡◌ {A = ℕ} 0 1 = cc in omega arith
head_of d (y ∷ l) zero x rest e = record { more = omega arith; first = cc; next = cc }
head_of d (y ∷ l) (suc c) x rest e =
    let h = head_of d l c x rest e in
    record { more = omega (arith, h.more); first = h.first; next = rw (add-one (suc c)) (rw (add-one c) at h.next) }

pub at-end : {A : Type 0} (xs : List A) (k : ℕ) → k ≤ length xs → drop k xs ≡ [] → k ≡ length xs
at-end [] k h e = omega arith
at-end (x ∷ xs) zero h e = let z : ◌≡◌ {A = ℕ} 0 1 = cc in absurd (omega arith)
at-end (x ∷ xs) (suc k) h e = ap suc (at-end xs k (omega arith) e)

-- ---- leaving one axis out
pub length_without : {A : Type 0} (axis : ℕ) (l : List A) → length (without axis l) ≡ cond (ltb axis (length l)) (length l - 1) (length l)
unfolding without
length_without axis l = go (ltb axis (length l)) refl
  where
    e : length (take axis l ++ drop (suc axis) l) ≡ min axis (length l) + (length l - suc axis)
    e = length-append (take axis l) (drop (suc axis) l) ∙ ap₂ ◌+◌ (length-take axis l) (length-drop (suc axis) l)

    go : (t : Bool) → ltb axis (length l) ≡ t → length (take axis l ++ drop (suc axis) l) ≡ cond (ltb axis (length l)) (length l - 1) (length l)
    go true f = rw f (omega (arith, e, ltb-true axis (length l) f))
    go false f = rw f (omega (arith, e, ltb-false axis (length l) f))

-- the two cases of how many are left
pub fewer-left : {A : Type 0} (axis n : ℕ) (l : List A) → n ≡ length l → axis < n → n - 1 ≡ length (without axis l)
fewer-left axis n l e h = sym (length_without axis l ∙ ap (λ (t : Bool). cond t (length l - 1) (length l)) (lt-ltb axis (length l) (omega arith)) ∙ ap (λ (k : ℕ). k - 1) (sym e))

pub all-left : {A : Type 0} (axis n : ℕ) (l : List A) → n ≡ length l → n ≤ axis → n ≡ length (without axis l)
all-left axis n l e h = sym (length_without axis l ∙ ap (λ (t : Bool). cond t (length l - 1) (length l)) (le-ltb axis (length l) (omega arith)) ∙ sym e)

pub get_or-without : {A : Type 0} (d : A) (axis : ℕ) (l : List A) (i : ℕ) → get_or l (cond (ltb i axis) i (i + 1)) d ≡ get_or (without axis l) i d
unfolding without
get_or-without d zero [] i = get_or-nil d (cond (ltb i 0) i (i + 1)) ∙ sym (get_or-nil d i)
  where
    get_or-nil : {B : Type 0} (e : B) (k : ℕ) → get_or [] k e ≡ e
    get_or-nil e k = refl
get_or-without d zero (x ∷ l) i = rw (le-ltb i 0 (omega arith), add-one i)
get_or-without d (suc axis) [] i = refl
get_or-without d (suc axis) (x ∷ l) zero = rw (lt-ltb 0 (suc axis) (omega arith))
get_or-without d (suc axis) (x ∷ l) (suc i) = go (ltb i axis) refl (get_or-without d axis l i)
  where
    go : (t : Bool) → ltb i axis ≡ t → get_or l (cond (ltb i axis) i (i + 1)) d ≡ get_or (take axis l ++ drop (suc axis) l) i d → get_or (x ∷ l) (cond (ltb (suc i) (suc axis)) (suc i) (suc i + 1)) d ≡ get_or (take axis l ++ drop (suc axis) l) i d
    go true f ih = rw (lt-ltb (suc i) (suc axis) (omega (arith, ltb-true i axis f))) (rw f at ih)
    go false f ih = rw (le-ltb (suc i) (suc axis) (omega (arith, ltb-false i axis f)), add-one (suc i)) (rw (f, add-one i) at ih)

-- a turn of the loop that spreads, from entry i down to i − 1
pub spread-turn : {A : Type 0} (z d : A) (n : ℕ) (axes : List ℕ) (l entries : List A) (i : ℕ) (x : A) → n ≤ rank_limit → 0 < i → i ≤ length axes → i ≤ length l → entries ≡ spread_in z d n (drop i axes) (drop i l) → x ≡ get_or l (i - 1) z
    → cond (ltb (get_or axes (i - 1) 0) (min n rank_limit)) (set entries (get_or axes (i - 1) 0) x) entries ≡ spread_in z d n (drop (i - 1) axes) (drop (i - 1) l)
spread-turn z d n axes l entries i x m p a b e f =
    let k : i ≡ i - 1 + 1 = omega arith in
    let q : min n rank_limit ≡ n = omega arith in
    let g : entries ≡ spread_in z d n (drop (i - 1 + 1) axes) (drop (i - 1 + 1) l) = e ∙ ap (λ (j : ℕ). spread_in z d n (drop j axes) (drop j l)) k in
    rw (q, g) (spread-one z d n axes l (i - 1) x (omega arith) (omega arith) f)

-- a turn where the axis is below n, and one where it is not
pub spread-here : {A : Type 0} (z d : A) (n : ℕ) (axes : List ℕ) (l entries : List A) (i : ℕ) (x : A) → n ≤ rank_limit → 0 < i → i ≤ min (length axes) (length l) → get_or axes (i - 1) 0 < n → entries ≡ spread_in z d n (drop i axes) (drop i l) → x ≡ get_or l (i - 1) z
    → set entries (get_or axes (i - 1) 0) x ≡ spread_in z d n (drop (i - 1) axes) (drop (i - 1) l)
spread-here z d n axes l entries i x m p a h e f =
    sym (ap (λ (t : Bool). cond t (set entries (get_or axes (i - 1) 0) x) entries) (lt-ltb (get_or axes (i - 1) 0) (min n rank_limit) (omega arith)))
    ∙ spread-turn z d n axes l entries i x m p (omega arith) (omega arith) e f

pub spread-past : {A : Type 0} (z d : A) (n : ℕ) (axes : List ℕ) (l entries : List A) (i : ℕ) → n ≤ rank_limit → 0 < i → i ≤ min (length axes) (length l) → n ≤ get_or axes (i - 1) 0 → entries ≡ spread_in z d n (drop i axes) (drop i l)
    → entries ≡ spread_in z d n (drop (i - 1) axes) (drop (i - 1) l)
spread-past z d n axes l entries i m p a h e =
    sym (ap (λ (t : Bool). cond t (set entries (get_or axes (i - 1) 0) (get_or l (i - 1) z)) entries) (le-ltb (get_or axes (i - 1) 0) (min n rank_limit) (omega arith)))
    ∙ spread-turn z d n axes l entries i (get_or l (i - 1) z) m p (omega arith) (omega arith) e refl

-- before the first turn and after the last
pub spread-none-held : {A : Type 0} (z d : A) (n m : ℕ) (axes : List ℕ) (l : List A) (i : ℕ) → n ≤ rank_limit → m ≡ n → min (length axes) (length l) ≤ i → padded rank_limit z (take m (replicate rank_limit d)) ≡ spread_in z d n (drop i axes) (drop i l)
unfolding padded
spread-none-held z d n m axes l i h q k =
    rw (q, take-replicate n rank_limit d h, length-replicate n d, take_all rank_limit (replicate n d) (omega (arith, length-replicate n d)))
    (spread_none z d n axes l i k)

pub spread-all : {A : Type 0} (z d : A) (n : ℕ) (axes : List ℕ) (l entries : List A) (i : ℕ) → n ≤ rank_limit → i ≡ 0 → entries ≡ spread_in z d n (drop i axes) (drop i l) → entries ≡ padded rank_limit z (spread d n axes l)
spread-all z d n axes l entries i h k e = e ∙ ap (λ (j : ℕ). spread_in z d n (drop j axes) (drop j l)) k ∙ spread-padded z d n axes l h

-- a list that is not too long, read again
pub read_back : {A : Type 0} (d : A) (l : List A) → length l ≤ rank_limit → take (length l) (padded rank_limit d l) ≡ l
read_back d l h = padded-back rank_limit d (length l) l refl h
