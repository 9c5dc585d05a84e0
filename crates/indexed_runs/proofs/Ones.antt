-- Runs by clamped starts where every step is 1: a cell's place, and the parts of the slices that such a run is on. Assumes nothing.
use mathlib.Core.Path.{◌≡◌, refl, sym, ap, ap₂, subst, ◌∙◌}
use mathlib.Core.List.{List, ◌++◌}
use Prim.Native.Nat.{ℕ, zero, suc, ◌+◌, ◌-◌, ◌<◌, ◌≤◌, min}
use native.Mathlib.Omega.{arith}
use lib.ListN.{length, take, drop, length-drop, take-append-drop}
use lib.Seq.{length-take-le, get_or-take, get_or-drop}
use lib.IntN.{ℤ, pos, nat_abs, ◌+ℤ◌, ◌*ℤ◌, *ℤ_comm, *ℤ-one}
use lib.Signed.{◌≤ℤ◌}
use mir.Facts.{sfits_lit}
use mir.Syntax.{w64}
use mir.Val.{SFits, to_z, of_z}
use Rattle.integer.specs.Z.{up, dn, only, back, abs_is, zfacts, ≡-from, ≤-from, <-from, <-to}
use Rattle.integer.specs.Machine.{same_bits}
use Rattle.indexing.specs.Coordinates.{InSlice, element_at, store}
use Rattle.indexing.specs.Start.{clamp}
use Rattle.indexing.proofs.Inside.{clamp-is}
use Rattle.indexing.specs.Slid.{moved, how_many}
use Rattle.indexing.specs.Counting.{many-same}
use Rattle.indexing.specs.Loops.{in_order}
use Rattle.indexing.proofs.Parts.{element-mid, store-mid}
use Rattle.runs.specs.Runs.{cell_at, line}
use Rattle.runs.proofs.Turns.{more, split, same-turns, same-places, length-cells}
use Rattle.runs.proofs.Place.{read}
use Rattle.indexed_runs.specs.IndexedRuns.{clamped_at, moves_at, Clamped, one_at, Ones}

-- ---- the clamp
pub clamped-by : (r x limit : ℤ) → pos 0 ≤ℤ limit → up r ≡ min (up x) (up limit) → dn r ≡ 0 → r ≡ clamp x (nat_abs limit) 0
clamped-by r x limit h e f = ≡-from r (pos (min (up x) (nat_abs limit - 0))) (omega (arith, zfacts, h, abs_is limit, only limit)) ∙ sym (clamp-is x (nat_abs limit) 0)

one-times : (z : ℤ) → pos 1 *ℤ z ≡ z
unfolding lib.IntN.one
one-times z = *ℤ_comm (pos 1) z ∙ *ℤ-one z

-- ---- turns
-- turns from a on: one more, and all that are made so
module _ {C : Type 0} (turn : ℕ → C → C) (a : ℕ) where
  pub turn_more : (i : ℕ) (x y z : C) → a ≤ i → y ≡ in_order (λ k. turn (k + a)) (i - a) x → z ≡ turn i y → z ≡ in_order (λ k. turn (k + a)) (i + 1 - a) x
  turn_more i x y z h e f =
      let p : i - a + a ≡ i = omega arith in
      let q : i - a + 1 ≡ i + 1 - a = omega arith in
      subst (λ (m : ℕ). z ≡ in_order (λ k. turn (k + a)) m x) q (more (λ k. turn (k + a)) (i - a) x y z e (f ∙ ap (λ (j : ℕ). turn j y) (sym p)))

  pub turns-on : (b : ℕ) (x y z : C) → a ≤ b → y ≡ in_order turn a x → z ≡ in_order (λ k. turn (k + a)) (b - a) y → z ≡ in_order turn b x
  turns-on b x y z h e f =
      let p : a + (b - a) ≡ b = omega arith in
      f ∙ ap (in_order (λ k. turn (k + a)) (b - a)) e ∙ sym (split turn a (b - a) x) ∙ ap (λ (m : ℕ). in_order turn m x) p

-- the end: the places by the parameters themselves
module _ {A : Type 0} (z : A) (rule : A → A → A) (src : List A) (starts : List ℤ) (limit : ℤ) (i n : ℕ) (x y : List A) (fl : SFits w64 limit) (e : i ≡ n) where
  pub take-ones-end : y ≡ in_order (cell_at z rule src (one_at starts (read limit)) pos) i x → y ≡ in_order (cell_at z rule src (one_at starts limit) pos) n x
  take-ones-end h = h ∙ ap₂ (λ (v : ℤ) (m : ℕ). in_order (cell_at z rule src (one_at starts v) pos) m x) (back fl) e

  pub put-ones-end : y ≡ in_order (cell_at z rule src pos (one_at starts (read limit))) i x → y ≡ in_order (cell_at z rule src pos (one_at starts limit)) n x
  put-ones-end h = h ∙ ap₂ (λ (v : ℤ) (m : ℕ). in_order (cell_at z rule src pos (one_at starts v)) m x) (back fl) e

pub take-few-end : {A : Type 0} (z : A) (rule : A → A → A) (src : List A) (starts : List ℤ) (limit : ℤ) (a i n : ℕ) (x y : List A) → SFits w64 limit → i ≡ n
    → y ≡ in_order (λ k. cell_at z rule src (one_at starts (read limit)) pos (k + a)) (i - a) x → y ≡ in_order (λ k. cell_at z rule src (one_at starts limit) pos (k + a)) (n - a) x
take-few-end z rule src starts limit a i n x y fl e h = h ∙ ap₂ (λ (v : ℤ) (m : ℕ). in_order (λ k. cell_at z rule src (one_at starts v) pos (k + a)) (m - a) x) (back fl) e

pub put-few-end : {A : Type 0} (z : A) (rule : A → A → A) (src : List A) (starts : List ℤ) (limit : ℤ) (a i n : ℕ) (x y : List A) → SFits w64 limit → i ≡ n
    → y ≡ in_order (λ k. cell_at z rule src pos (one_at starts (read limit)) (k + a)) (i - a) x → y ≡ in_order (λ k. cell_at z rule src pos (one_at starts limit) (k + a)) (n - a) x
put-few-end z rule src starts limit a i n x y fl e h = h ∙ ap₂ (λ (v : ℤ) (m : ℕ). in_order (λ k. cell_at z rule src pos (one_at starts v) (k + a)) (m - a) x) (back fl) e

-- what a cell asks, as the limit is read back and where the slices are as long as they were
pub ones-left : (starts : List ℤ) (limit : ℤ) (n cn m cm : ℕ) → SFits w64 limit → Ones starts limit n cn → m ≡ n → cm ≡ cn → Ones starts (read limit) m cm
ones-left starts limit n cn m cm f w e g = subst (λ (v : ℤ). Ones starts v m cm) (sym (back f)) (subst (λ (k : ℕ). Ones starts limit k cm) (sym e) (subst (λ (k : ℕ). Ones starts limit n k) (sym g) w))

-- ---- the parts: of the starts from index a on, p of them; of the clamped side from index c on, m of them
part-element : {A : Type 0} (z : A) (l : List A) (a p k : ℕ) → k < p → element_at z (take p (drop a l)) (pos k) ≡ element_at z l (pos a +ℤ pos k)
part-element z l a p k h = get_or-take p (drop a l) k z h ∙ get_or-drop a l k z

along : (a : ℤ) (k : ℕ) → a +ℤ pos k ≡ line a (pos 1) k
along a k = ap (λ (u : ℤ). a +ℤ u) (sym (one-times (pos k)))

module _ (starts : List ℤ) (t base other : ℤ) (limit n cn pn : ℕ) (w : Clamped starts t (pos 1) base (pos 1) other (pos 1) limit n cn pn) (a p : ℕ) (ep : p ≡ n) (ea : pos a ≡ t) (c m : ℕ) (ec : pos c ≡ base) (em : m ≡ cn - c) where
  limit_is : to_z w64 limit ≡ pos limit
  limit_is = back {w = w64} {z = pos limit} (record { sfits = omega (arith, w.small) })

  abbrev place : ℕ → ℤ
  place k = one_at (take p (drop a starts)) (to_z w64 limit) k

  pub part-place : (k : ℕ) → k < n → pos c +ℤ place k ≡ clamped_at starts (line t (pos 1)) base (pos 1) limit k
  part-place k h =
      ap₂ (λ (u v : ℤ). u +ℤ clamp (element_at (pos 0) (take p (drop a starts)) (pos k)) (nat_abs v) 0) ec limit_is
      ∙ ap (λ (u : ℤ). base +ℤ u) (sym (one-times (clamp (element_at (pos 0) (take p (drop a starts)) (pos k)) limit 0)))
      ∙ ap (λ (u : ℤ). base +ℤ pos 1 *ℤ clamp u limit 0) (part-element (pos 0) starts a p k (omega arith) ∙ ap (element_at (pos 0) starts) (along (pos a) k))
      ∙ ap (λ (u : ℤ). clamped_at starts (line u (pos 1)) base (pos 1) limit k) ea

  -- whether a start of the part is moved, and how many are
  part_moved : (k : ℕ) → k < n → moves_at (take p (drop a starts)) pos (nat_abs (to_z w64 limit)) k ≡ moves_at starts (line t (pos 1)) limit k
  part_moved k h =
      ap₂ (λ (u : ℤ) (v : ℤ). moved u (nat_abs v) 0) (part-element (pos 0) starts a p k (omega arith) ∙ ap (element_at (pos 0) starts) (along (pos a) k ∙ ap (λ (v : ℤ). line v (pos 1) k) ea)) limit_is

  pub parts-count : {A : Type 0} (xs : List A) (b q r : ℕ) → q ≡ n → b + n ≤ length xs → r ≡ how_many (length (take q (drop b xs))) (moves_at (take p (drop a starts)) pos (nat_abs (to_z w64 limit))) → r ≡ how_many n (moves_at starts (line t (pos 1)) limit)
  parts-count xs b q r eq s e =
      let lq : length (take q (drop b xs)) ≡ n = length-take-le q (drop b xs) (omega (arith, length-drop b xs)) ∙ eq in
      e ∙ ap (λ (m : ℕ). how_many m (moves_at (take p (drop a starts)) pos (nat_abs (to_z w64 limit)))) lq
      ∙ many-same n (moves_at (take p (drop a starts)) pos (nat_abs (to_z w64 limit))) (moves_at starts (line t (pos 1)) limit) part_moved

  -- a place is not below 0, and inside the part
  place_is : (k : ℕ) → place k ≡ pos (min (up (element_at (pos 0) (take p (drop a starts)) (pos k))) (nat_abs (to_z w64 limit) - 0))
  place_is k = clamp-is (element_at (pos 0) (take p (drop a starts)) (pos k)) (nat_abs (to_z w64 limit)) 0

  pub place_in : (k : ℕ) → k < n → InSlice m (place k)
  place_in k h =
      let j : ℕ = min (up (element_at (pos 0) (take p (drop a starts)) (pos k))) (nat_abs (to_z w64 limit) - 0) in
      let i : InSlice cn (pos (c + j)) = subst (InSlice cn) (sym (part-place k h) ∙ ap (λ (u : ℤ). pos c +ℤ u) (place_is k)) (w.clamped k h) in
      subst (InSlice m) (sym (place_is k)) (≤-from (pos 0) (pos j) (omega arith), <-from (pos j) (pos m) (omega (arith, <-to (pos (c + j)) (pos cn) i.1)))

  -- what the loop on the parts asks
  pub ones-ask : {A B : Type 0} (xs : List A) (b q : ℕ) (ys : List B) → q ≡ n → a + n ≤ length starts → b + n ≤ length xs → length ys ≡ cn → Ones (take p (drop a starts)) (to_z w64 limit) (length (take q (drop b xs))) (length (take m (drop c ys)))
  ones-ask xs b q ys eq r s ey =
      let lq : length (take q (drop b xs)) ≡ n = length-take-le q (drop b xs) (omega (arith, length-drop b xs)) ∙ eq in
      let lp : length (take p (drop a starts)) ≡ n = length-take-le p (drop a starts) (omega (arith, length-drop a starts)) ∙ ep in
      let lm : length (take m (drop c ys)) ≡ m = length-take-le m (drop c ys) (omega (arith, length-drop c ys)) in
      record {
        low = subst (λ (u : ℤ). pos 0 ≤ℤ u) (sym limit_is) (≤-from (pos 0) (pos limit) (omega arith));
        each = lp ∙ sym lq;
        clamped = λ k h. subst (λ (l : ℕ). InSlice l (place k)) (sym lm) (place_in k (omega (arith, lq)));
      }

  -- the element that is read in the part of a source is the source's
  pub part-read : {A : Type 0} (z : A) (src : List A) (k : ℕ) → k < n → element_at z (take m (drop c src)) (place k) ≡ element_at z src (clamped_at starts (line t (pos 1)) base (pos 1) limit k)
  part-read z src k h =
      let j : ℕ = min (up (element_at (pos 0) (take p (drop a starts)) (pos k))) (nat_abs (to_z w64 limit) - 0) in
      let i : InSlice m (pos j) = subst (InSlice m) (place_is k) (place_in k h) in
      ap (element_at z (take m (drop c src))) (place_is k)
      ∙ part-element z src c m j (omega (arith, <-to (pos j) (pos m) i.1))
      ∙ ap (element_at z src) (ap (λ (u : ℤ). pos c +ℤ u) (sym (place_is k)) ∙ part-place k h)

-- ---- a run on parts is the run on the slices
module _ {A : Type 0} (z : A) (rule : A → A → A) where
  -- cells that all lie in the middle part q
  upto : (src p q r : List A) (f g : ℕ → ℤ) (k : ℕ) → ((i : ℕ) → i < k → InSlice (length q) (g i)) → p ++ (in_order (cell_at z rule src f g) k q ++ r) ≡ in_order (cell_at z rule src f (λ i. pos (length p) +ℤ g i)) k (p ++ (q ++ r))
  unfolding in_order
  upto src p q r f g zero l = refl
  upto src p q r f g (suc k) l =
      let y : List A = in_order (cell_at z rule src f g) k q in
      let u : A = element_at z src (f k) in
      let i : InSlice (length y) (g k) = subst (λ (m : ℕ). InSlice m (g k)) (sym (length-cells z rule src f g k q)) (l k (omega arith)) in
      sym (store-mid p y r (g k) (rule (element_at z y (g k)) u) i)
      ∙ ap (λ (x : A). store (p ++ (y ++ r)) (pos (length p) +ℤ g k) (rule x u)) (sym (element-mid p y r (g k) z i))
      ∙ ap (λ (l : List A). store l (pos (length p) +ℤ g k) (rule (element_at z l (pos (length p) +ℤ g k)) u)) (upto src p q r f g k (λ i h. l i (omega arith)))

  -- what the middle part of a slice holds, from index b on, q elements of it
  part_left : (src xs ys : List A) (f g : ℕ → ℤ) (b n q : ℕ) → b + q ≤ length xs → ((k : ℕ) → k < n → InSlice q (g k)) → ys ≡ in_order (cell_at z rule src f g) n (take q (drop b xs))
      → take b xs ++ (ys ++ drop q (drop b xs)) ≡ in_order (cell_at z rule src f (λ k. pos b +ℤ g k)) n xs
  part_left src xs ys f g b n q h inside e =
      let lb : length (take b xs) ≡ b = length-take-le b xs (omega arith) in
      let lq : length (take q (drop b xs)) ≡ q = length-take-le q (drop b xs) (omega (arith, length-drop b xs)) in
      ap (λ (y : List A). take b xs ++ (y ++ drop q (drop b xs))) e
      ∙ upto src (take b xs) (take q (drop b xs)) (drop q (drop b xs)) f g n (λ k l. subst (λ (m : ℕ). InSlice m (g k)) (sym lq) (inside k l))
      ∙ ap₂ (λ (m : ℕ) (l : List A). in_order (cell_at z rule src f (λ k. pos m +ℤ g k)) n l) lb
      (ap (λ (l : List A). take b xs ++ l) (take-append-drop q (drop b xs)) ∙ take-append-drop b xs)

  -- a destination that is written in order from index b on, and a part of the source that has the same elements
  pub part-take : (part src xs ys : List A) (f g : ℕ → ℤ) (d : ℤ) (b n q : ℕ) → q ≡ n → pos b ≡ d → b + n ≤ length xs → ((k : ℕ) → k < n → element_at z part (f k) ≡ element_at z src (g k))
      → ys ≡ in_order (cell_at z rule part f pos) (length (take q (drop b xs))) (take q (drop b xs)) → take b xs ++ (ys ++ drop q (drop b xs)) ≡ in_order (cell_at z rule src g (line d (pos 1))) n xs
  part-take part src xs ys f g d b n q eq ed h same e =
      let lq : length (take q (drop b xs)) ≡ n = length-take-le q (drop b xs) (omega (arith, length-drop b xs)) ∙ eq in
      part_left part xs ys f pos b n q (omega arith) (λ k l. (≤-from (pos 0) (pos k) (omega arith), <-from (pos k) (pos q) (omega arith))) (e ∙ ap (λ (m : ℕ). in_order (cell_at z rule part f pos) m (take q (drop b xs))) lq)
      ∙ same-turns (cell_at z rule part f (λ k. pos b +ℤ pos k)) (cell_at z rule src g (line d (pos 1))) n
      (λ k l y. ap₂ (λ (u : A) (v : ℤ). store y v (rule (element_at z y v) u)) (same k l) (along (pos b) k ∙ ap (λ (v : ℤ). line v (pos 1) k) ed)) xs

  -- a source that is read in order from index a on, and the part of the destination from index b on, q elements of it
  pub part-put : (src xs ys : List A) (f g : ℕ → ℤ) (s : ℤ) (a n p b q : ℕ) → p ≡ n → pos a ≡ s → a + n ≤ length src → b + q ≤ length xs → ((k : ℕ) → k < n → InSlice q (f k)) → ((k : ℕ) → k < n → pos b +ℤ f k ≡ g k)
      → ys ≡ in_order (cell_at z rule (take p (drop a src)) pos f) (length (take p (drop a src))) (take q (drop b xs)) → take b xs ++ (ys ++ drop q (drop b xs)) ≡ in_order (cell_at z rule src (line s (pos 1)) g) n xs
  part-put src xs ys f g s a n p b q ep es h r inside same e =
      let lp : length (take p (drop a src)) ≡ n = length-take-le p (drop a src) (omega (arith, length-drop a src)) ∙ ep in
      part_left (take p (drop a src)) xs ys pos f b n q r inside (e ∙ ap (λ (m : ℕ). in_order (cell_at z rule (take p (drop a src)) pos f) m (take q (drop b xs))) lp)
      ∙ same-turns (cell_at z rule (take p (drop a src)) pos (λ k. pos b +ℤ f k)) (cell_at z rule src (line s (pos 1)) g) n
      (λ k l y. ap₂ (λ (u : A) (v : ℤ). store y v (rule (element_at z y v) u)) (part-element z src a p k (omega arith) ∙ ap (element_at z src) (along (pos a) k ∙ ap (λ (v : ℤ). line v (pos 1) k) es)) (same k l)) xs

-- ---- where the machine has found every step to be 1
module _ (ts stride by : ℤ) (ft : SFits w64 ts) (fs : SFits w64 stride) (fy : SFits w64 by) (et : of_z w64 ts ≡ 1) (es : of_z w64 stride ≡ 1) (ey : of_z w64 by ≡ 1) where
  one : (z : ℤ) → SFits w64 z → of_z w64 z ≡ 1 → z ≡ pos 1
  one z f e = same_bits {w = w64} f (sfits_lit {z = pos 1} tt) e

  pub row-asks : (starts : List ℤ) (t base other : ℤ) (limit n cn pn : ℕ) → SFits w64 t → SFits w64 base → SFits w64 other → (n ≡ 0 → ⊥)
      → Clamped starts t ts base stride other by limit n cn pn → (0 < n) × Clamped starts (read t) (pos 1) (read base) (pos 1) (read other) (pos 1) limit n cn pn
  row-asks starts t base other limit n cn pn f g k h w = (
    omega (arith, h),
    simp (back f, back g, back k)
        (subst (λ (x : ℤ). Clamped starts t x base (pos 1) other (pos 1) limit n cn pn) (one ts ft et)
        (subst (λ (x : ℤ). Clamped starts t ts base x other (pos 1) limit n cn pn) (one stride fs es)
        (subst (λ (x : ℤ). Clamped starts t ts base stride other x limit n cn pn) (one by fy ey) w))),
  )

  clamps : (starts : List ℤ) (t base : ℤ) (limit k : ℕ) → SFits w64 t → SFits w64 base → clamped_at starts (line (read t) (pos 1)) (read base) (pos 1) limit k ≡ clamped_at starts (line t ts) base stride limit k
  clamps starts t base limit k f g =
      ap₂ (λ (u v : ℤ). clamped_at starts (line u (pos 1)) v (pos 1) limit k) (back f) (back g)
      ∙ ap₂ (λ (u v : ℤ). clamped_at starts (line t u) base v limit k) (sym (one ts ft et)) (sym (one stride fs es))

  plain : (other : ℤ) (k : ℕ) → SFits w64 other → line (read other) (pos 1) k ≡ line other by k
  plain other k f = ap₂ (λ (u v : ℤ). line u v k) (back f) (sym (one by fy ey))

  pub row-count : (starts : List ℤ) (t : ℤ) (limit n c : ℕ) → SFits w64 t → c ≡ how_many n (moves_at starts (line (read t) (pos 1)) limit) → c ≡ how_many n (moves_at starts (line t ts) limit)
  row-count starts t limit n c f h = h ∙ ap₂ (λ (u v : ℤ). how_many n (moves_at starts (line u v) limit)) (back f) (sym (one ts ft et))

  module _ {A : Type 0} (z : A) (rule : A → A → A) (src : List A) (starts : List ℤ) (t base other : ℤ) (limit n : ℕ) (x y : List A) (f : SFits w64 t) (g : SFits w64 base) (k : SFits w64 other) where
    pub take-row-end : y ≡ in_order (cell_at z rule src (clamped_at starts (line (read t) (pos 1)) (read base) (pos 1) limit) (line (read other) (pos 1))) n x
        → y ≡ in_order (cell_at z rule src (clamped_at starts (line t ts) base stride limit) (line other by)) n x
    take-row-end h = h ∙ same-places z rule src _ _ _ _ n (λ i _. clamps starts t base limit i f g) (λ i _. plain other i k) x
