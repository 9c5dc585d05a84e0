-- Coordinates inside extents: picked and spread, a component's, and a clamped start plus a window coordinate. Over lists of any length. Assumes nothing.
use Rattle.std.specs.Prelude.{◌≡◌, refl, Bool, true, false, cond, ◌||◌, List, [], ◌∷◌, ◌++◌, ℕ, zero, suc, ◌-◌, ◌<◌, ◌≤◌, min, eqb, length, get_or, set, take, drop, replicate, ℤ, pos, negsuc, ◌+ℤ◌, ◌-ℤ◌, ◌≤ℤ◌, ◌<ℤ◌}
use Rattle.std.proofs.Common.{sym, ap, ap₂, ◌∙◌, subst, true≢false, append-nil, arith, eqb-true, drop_of_length-le, take_all}
use Rattle.std.proofs.lemmas.Bool.{eqb-false}
use Rattle.integer.specs.Defs.{min_ℤ, max_ℤ}
use Rattle.integer.specs.Z.{up, only, znorm, zflat, zfacts, ≡-from, ≤-from, <-from}
use Rattle.integer.specs.Laws.{min_ℤ-by, max_ℤ-by, max_ℤ-l}
use Rattle.indexing.specs.Coordinates.{View, rank, Within, ints, plus, Inside, tabulate, pick, spread, has}
use Rattle.indexing.specs.Start.{without, components, index_coordinate, clamp, start_on, full_start}
use Rattle.indexing.specs.Axes.{Axes, spread-all, length-spread}
use Rattle.indexing.proofs.Linear.{within-at}

-- a coordinate inside extents is inside them on any axes
pub pick-within : (n : ℕ) (axes ds cs : List ℕ) → Axes n axes → n ≤ length ds → Within ds cs → Within (pick 0 axes ds) (pick 0 axes cs)
unfolding Axes pick Within
pick-within n [] ds cs p l w = tt
pick-within n (a ∷ axes) ds cs p l w = (within-at ds cs w a (omega (arith, p.0)), pick-within n axes ds cs p.2 l w)

-- on an axis that is in one of two lists
pub within_has : (axes ds cs : List ℕ) (a : ℕ) → Within (pick 0 axes ds) (pick 0 axes cs) → has axes a ≡ true → get_or cs a 0 < get_or ds a 0
unfolding pick has Within
within_has [] ds cs a w h = absurd (true≢false (sym h))
within_has (b ∷ axes) ds cs a w h = go (eqb b a) refl h (within_has axes ds cs a w.1)
  where
    go : (t : Bool) → eqb b a ≡ t → (t || has axes a) ≡ true → (has axes a ≡ true → get_or cs a 0 < get_or ds a 0) → get_or cs a 0 < get_or ds a 0
    go true e f ih = subst (λ (m : ℕ). get_or cs m 0 < get_or ds m 0) (eqb-true b a e) w.0
    go false e f ih = ih f

pub within_both : (xs ys ds cs : List ℕ) → Within (pick 0 xs ds) (pick 0 xs cs) → Within (pick 0 ys ds) (pick 0 ys cs) → Within (pick 0 (xs ++ ys) ds) (pick 0 (xs ++ ys) cs)
unfolding pick Within
within_both [] ys ds cs v w = w
within_both (x ∷ xs) ys ds cs v w = (v.0, within_both xs ys ds cs v.1 w)

pub either-has : (xs ys ds cs : List ℕ) (a : ℕ) → Within (pick 0 xs ds) (pick 0 xs cs) → Within (pick 0 ys ds) (pick 0 ys cs) → has (xs ++ ys) a ≡ true → get_or cs a 0 < get_or ds a 0
either-has xs ys ds cs a v w h = within_has (xs ++ ys) ds cs a (within_both xs ys ds cs v w) h

zero_one : (n a : ℕ) → get_or (replicate n 0) a 0 < get_or (replicate n 1) a 1
zero_one zero a = omega arith
zero_one (suc n) zero = omega arith
zero_one (suc n) (suc a) = zero_one n a

-- an entry inside its window: 0 inside 1 on every other axis
pub spread-below : (n : ℕ) (axes ws es : List ℕ) (a : ℕ) → Within ws es → get_or (spread 0 n axes es) a 0 < get_or (spread 1 n axes ws) a 1
unfolding spread Within
spread-below n [] ws es a w = zero_one n a
spread-below n (b ∷ axes) [] [] a w = zero_one n a
spread-below n (b ∷ axes) [] (e ∷ es) a w = absurd w
spread-below n (b ∷ axes) (x ∷ ws) [] a w = absurd w
spread-below n (b ∷ axes) (x ∷ ws) (e ∷ es) a w =
    both (spread 0 n axes es) (spread 1 n axes ws) b a (length-spread 0 n axes es ∙ sym (length-spread 1 n axes ws)) (spread-below n axes ws es a w.1)
  where
    both : (l m : List ℕ) (b a : ℕ) → length l ≡ length m → get_or l a 0 < get_or m a 1 → get_or (set l b e) a 0 < get_or (set m b x) a 1
    both [] [] b a q h = h
    both [] (y ∷ m) b a q h = absurd (omega arith)
    both (z ∷ l) [] b a q h = absurd (omega arith)
    both (z ∷ l) (y ∷ m) zero zero q h = w.0
    both (z ∷ l) (y ∷ m) zero (suc a) q h = h
    both (z ∷ l) (y ∷ m) (suc b) zero q h = h
    both (z ∷ l) (y ∷ m) (suc b) (suc a) q h = both l m b a (omega arith) h

length-plus : (cs : List ℤ) (ds : List ℕ) → length cs ≡ length ds → length (plus cs ds) ≡ length cs
unfolding plus
length-plus [] ds l = refl
length-plus (c ∷ cs) [] l = absurd (omega arith)
length-plus (c ∷ cs) (d ∷ ds) l = ap suc (length-plus cs ds (omega arith))

get_or-plus : (cs : List ℤ) (ds : List ℕ) (a : ℕ) → length cs ≡ length ds → get_or (plus cs ds) a (pos 0) ≡ get_or cs a (pos 0) +ℤ pos (get_or ds a 0)
unfolding plus
get_or-plus [] [] a l = refl
get_or-plus [] (d ∷ ds) a l = absurd (omega arith)
get_or-plus (c ∷ cs) [] a l = absurd (omega arith)
get_or-plus (c ∷ cs) (d ∷ ds) zero l = refl
get_or-plus (c ∷ cs) (d ∷ ds) (suc a) l = get_or-plus cs ds a (omega arith)

-- ---- inside the extents, in ℤ
inside-by : (ds : List ℕ) (cs : List ℤ) → length cs ≡ length ds → ((a : ℕ) → a < length ds → (pos 0 ≤ℤ get_or cs a (pos 0)) × (get_or cs a (pos 0) <ℤ pos (get_or ds a 0))) → Inside ds cs
unfolding Inside
inside-by [] [] l h = tt
inside-by [] (c ∷ cs) l h = absurd (omega arith)
inside-by (d ∷ ds) [] l h = absurd (omega arith)
inside-by (d ∷ ds) (c ∷ cs) l h = ((h 0 (omega arith)).0, (h 0 (omega arith)).1, inside-by ds cs (omega arith) (λ a k. h (suc a) (omega arith)))

-- it is a coordinate as a walk has it
pub inside-within : (ds : List ℕ) (zs : List ℤ) → Inside ds zs → (cs : List ℕ) × (zs ≡ ints cs) × Within ds cs
unfolding Inside Within
inside-within [] [] h = ([], refl, tt)
inside-within [] (z ∷ zs) h = absurd h
inside-within (d ∷ ds) [] h = absurd h
inside-within (d ∷ ds) (pos c ∷ zs) h =
    let r = inside-within ds zs h.2 in (c ∷ r.0, ap (λ (l : List ℤ). pos c ∷ l) r.1, (omega (arith, zfacts, h.1), r.2))
inside-within (d ∷ ds) (negsuc c ∷ zs) h = absurd h.0.le

pub within-inside : (ds cs : List ℕ) → Within ds cs → Inside ds (ints cs)
unfolding Inside Within
within-inside [] [] w = tt
within-inside [] (c ∷ cs) w = absurd w
within-inside (d ∷ ds) [] w = absurd w
within-inside (d ∷ ds) (c ∷ cs) w = (≤-from (pos 0) (pos c) (omega arith), <-from (pos c) (pos d) (omega (arith, w.0)), within-inside ds cs w.1)

-- ---- the clamp
-- in the words of ℕ: 0 for a start below 0, the start, or the last start that leaves room
pub clamp-is : (start : ℤ) (extent window : ℕ) → clamp start extent window ≡ pos (min (up start) (extent - window))
unfolding clamp
clamp-is start extent window =
    min_ℤ-by start (pos extent -ℤ pos window) (λ m. max_ℤ (pos 0) m ≡ pos (min (up start) (extent - window)))
    (λ h. max_ℤ-by (pos 0) start (λ m. m ≡ pos (min (up start) (extent - window)))
    (λ k. ≡-from start (pos (min (up start) (extent - window))) (omega (arith, zfacts, only start, k, simp zflat at (simp znorm at h))))
    (λ k. ≡-from (pos 0) (pos (min (up start) (extent - window))) (omega (arith, zfacts, only start, k, simp zflat at (simp znorm at h)))))
    (λ h. max_ℤ-by (pos 0) (pos extent -ℤ pos window) (λ m. m ≡ pos (min (up start) (extent - window)))
    (λ k. simp znorm (simp zflat (omega (arith, only start, simp zflat at (simp znorm at k), simp zflat at (simp znorm at h)))))
    (λ k. ≡-from (pos 0) (pos (min (up start) (extent - window))) (omega (arith, only start, simp zflat at (simp znorm at k), simp zflat at (simp znorm at h)))))

pub clamp-low : (start : ℤ) (extent window : ℕ) → pos 0 ≤ℤ clamp start extent window
unfolding clamp
clamp-low start extent window = max_ℤ-l (pos 0) (min_ℤ start (pos extent -ℤ pos window))

pub clamp-high : (start : ℤ) (extent window : ℕ) → clamp start extent window ≤ℤ pos (extent - window)
clamp-high start extent window = subst (λ (z : ℤ). z ≤ℤ pos (extent - window)) (sym (clamp-is start extent window)) (≤-from (pos (min (up start) (extent - window))) (pos (extent - window)) (omega arith))

-- a start that leaves room stays
pub clamp-stays : (n extent window : ℕ) → n ≤ extent - window → clamp (pos n) extent window ≡ pos n
clamp-stays n extent window h = let e : min n (extent - window) ≡ n = omega arith in clamp-is (pos n) extent window ∙ ap pos e

-- ---- the start leaves room for the window

-- START PLUS WINDOW is inside the extents, where the window fits them
pub start-inside : (extents sizes axes : List ℕ) (start : ℕ → ℤ) (offset : List ℕ) → length offset ≡ length extents
    → ((a : ℕ) → a < length extents → get_or offset a 0 < get_or sizes a 0) → ((a : ℕ) → a < length extents → get_or sizes a 0 ≤ get_or extents a 0)
    → Inside extents (plus (full_start extents sizes axes start) offset)
unfolding full_start start_on
start-inside extents sizes axes start offset l o f =
    let s : List ℤ = spread (pos 0) (length extents) axes (tabulate (length axes) (start_on extents sizes axes start)) in
    let e : length s ≡ length offset = length-spread (pos 0) (length extents) axes (tabulate (length axes) (start_on extents sizes axes start)) ∙ sym l in
    inside-by extents (plus s offset) (length-plus s offset e ∙ e ∙ l)
    (λ a h.
    subst (λ (z : ℤ). (pos 0 ≤ℤ z) × (z <ℤ pos (get_or extents a 0))) (sym (get_or-plus s offset a e))
    (room (get_or s a (pos 0)) (get_or offset a 0) (get_or sizes a 0) (get_or extents a 0)
    (spread-all (pos 0) Room (length extents) axes (start_on extents sizes axes start) (λ b. (≤-from (pos 0) (pos 0) (omega arith), ≤-from (pos 0) (pos (get_or extents b 0 - get_or sizes b 0)) (omega arith)))
    (λ c k. (clamp-low (start c) (get_or extents (get_or axes c 0) 0) (get_or sizes (get_or axes c 0) 0), clamp-high (start c) (get_or extents (get_or axes c 0) 0) (get_or sizes (get_or axes c 0) 0))) a)
    (o a h) (f a h)))
  where
    Room : ℕ → ℤ → Type 0
    Room a z = (pos 0 ≤ℤ z) × (z ≤ℤ pos (get_or extents a 0 - get_or sizes a 0))

    room : (s : ℤ) (o w e : ℕ) → (pos 0 ≤ℤ s) × (s ≤ℤ pos (e - w)) → o < w → w ≤ e → (pos 0 ≤ℤ (s +ℤ pos o)) × ((s +ℤ pos o) <ℤ pos e)
    room s o w e p q r = (simp znorm (simp zflat (omega (arith, zfacts, p.0))), simp znorm (simp zflat (omega (arith, zfacts, p.1))))

-- ---- a component's coordinate is inside the index view
insert-within : (ds : List ℕ) (v : ℕ) (batch : List ℕ) (c : ℕ) → v < length ds → c < get_or ds v 0 → Within (take v ds ++ drop (suc v) ds) batch → Within ds (take v batch ++ c ∷ drop v batch)
unfolding Within
insert-within [] v batch c h k w = absurd (omega arith)
insert-within (d ∷ ds) zero batch c h k w = (k, w)
insert-within (d ∷ ds) (suc v) [] c h k w = absurd w
insert-within (d ∷ ds) (suc v) (b ∷ batch) c h k w = (w.0, insert-within ds v batch c (omega arith) k w.1)

pub component-within : (i : View) (v : ℕ) (batch : List ℕ) (c : ℕ) → v ≤ rank i → c < components i v → Within (without v i.extents) batch → Within i.extents (index_coordinate v (rank i) batch c)
unfolding index_coordinate components without
component-within i v batch c h k w = go (eqb v (rank i)) refl k
  where
    go : (t : Bool) → eqb v (rank i) ≡ t → c < cond t 1 (get_or i.extents v 0) → Within i.extents (cond t batch (take v batch ++ c ∷ drop v batch))
    go true e k =
        let q : v ≡ rank i = eqb-true v (rank i) e in
        subst (λ (l : List ℕ). Within l batch) (ap₂ ◌++◌ (take_all v i.extents (omega arith)) (drop_of_length-le i.extents {i = suc v} (omega arith)) ∙ append-nil i.extents) w
    go false e k = insert-within i.extents v batch c (omega (arith, eqb-false v (rank i) e)) k w
