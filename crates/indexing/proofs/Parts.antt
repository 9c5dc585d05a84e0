-- A part lent on: where every place is inside a part of the slice, the work on the whole slice is the work on the part, places counted from
-- its start, and the rest stays. Assumes nothing.
use Rattle.std.specs.Prelude.{◌≡◌, length, set, ℤ, pos, negsuc, ◌+ℤ◌, ◌-ℤ◌, ◌≤ℤ◌, ◌<ℤ◌}
use Rattle.std.proofs.Math.Path.{refl, sym, ap}
use Rattle.std.proofs.Common.{ap₂, ◌∙◌, subst, zero-add, arith, get_or-append-add}
use mathlib.Core.List.{List, [], ◌∷◌, ◌++◌}
use Prim.Native.Nat.{ℕ, zero, suc, ◌+◌, ◌<◌}
use Rattle.std.proofs.Math.ListN.{get_or-append}
use Rattle.std.proofs.lemmas.List.{set-append_left}
use Rattle.integer.specs.Z.{<-to, znorm, zflat}
use Rattle.indexing.specs.Coordinates.{View, product, unravel, ints, dot_ℤ, place_of, InSlice, element_at, store, tabulate}
use Rattle.indexing.specs.Gather.{Gather, Read, cells, batch_dims, shown_dims, gather_start, full_offset, operand_index, read_at, write_at, reads, copy_each, gathered}
use Rattle.indexing.specs.Scatter.{Scatter, Update, scatter_dims, window_dims, batch_shape, window_shape, windows, update_index, full_window, result_index, update_at, lands_at, joined, placed_updates, combined}
use Rattle.indexing.proofs.Updates.{length-store}
use Rattle.indexing.specs.Reach.{lowest, highest}
use Rattle.indexing.specs.Valid.{Covered, ValidGather, ValidScatter}
use Rattle.indexing.proofs.Places.{writes-in, lands-in}
use Rattle.indexing.specs.Parts.{moved_by, AllInside, rebased, gather_in_part, scatter_in_part}

set-append-add : {A : Type 0} (xs ys : List A) (n : ℕ) (v : A) → set (xs ++ ys) (length xs + n) v ≡ xs ++ set ys n v
set-append-add [] ys n v = ap (λ (m : ℕ). set ys m v) (zero-add n)
set-append-add {A} (x ∷ xs) ys n v = ap (λ (m : ℕ). set (x ∷ (xs ++ ys)) m v) (move (length xs) n) ∙ ap (λ (l : List A). x ∷ l) (set-append-add xs ys n v)
  where
    move : (m n : ℕ) → suc m + n ≡ suc (m + n)
    move m n = omega arith

module _ {A : Type 0} (before part after : List A) where
  pub element-mid : (p : ℤ) (d : A) → InSlice (length part) p → element_at d (before ++ (part ++ after)) (pos (length before) +ℤ p) ≡ element_at d part p
  element-mid (pos i) d h = get_or-append-add before (part ++ after) i d ∙ get_or-append part after d i (omega (arith, <-to (pos i) (pos (length part)) h.1))
  element-mid (negsuc i) d h = absurd h.0.le

  pub store-mid : (p : ℤ) (v : A) → InSlice (length part) p → store (before ++ (part ++ after)) (pos (length before) +ℤ p) v ≡ before ++ (store part p v ++ after)
  store-mid (pos i) v h =
      set-append-add before (part ++ after) i v ∙ ap (λ (l : List A). before ++ l) (set-append_left part after i v (omega (arith, <-to (pos i) (pos (length part)) h.1)))
  store-mid (negsuc i) v h = absurd h.0.le

-- a scatter on the part
pub combined-part : {A : Type 0} (rule : A → A → A) (d : A) (cs : List (Update A)) (before part after : List A) → AllInside (length part) cs
    → combined rule d (moved_by (length before) cs) (before ++ (part ++ after)) ≡ before ++ (combined rule d cs part ++ after)
unfolding combined moved_by AllInside
combined-part rule d [] before part after h = refl
combined-part {A} rule d (c ∷ cs) before part after h =
    ap (combined rule d (moved_by (length before) cs))
    (ap (λ (x : A). store (before ++ (part ++ after)) (pos (length before) +ℤ c.0) (rule x c.1)) (element-mid before part after c.0 d h.0)
    ∙ store-mid before part after c.0 (rule (element_at d part c.0) c.1) h.0)
    ∙ combined-part rule d cs before (store part c.0 (rule (element_at d part c.0) c.1)) after
    (subst (λ (n : ℕ). AllInside n cs) (sym (length-store part c.0 (rule (element_at d part c.0) c.1))) h.1)

-- a gather into the part
pub copied-part : {A : Type 0} (d : A) (rs : List Read) (from before part after : List A) → AllInside (length part) rs
    → copy_each d (moved_by (length before) rs) from (before ++ (part ++ after)) ≡ before ++ (copy_each d rs from part ++ after)
unfolding copy_each moved_by AllInside
copied-part d [] from before part after h = refl
copied-part d (r ∷ rs) from before part after h =
    ap (copy_each d (moved_by (length before) rs) from) (store-mid before part after r.0 (element_at d from r.1) h.0)
    ∙ copied-part d rs from before (store part r.0 (element_at d from r.1)) after
    (subst (λ (n : ℕ). AllInside n rs) (sym (length-store part r.0 (element_at d from r.1))) h.1)

place-rebased : (v : View) (low : ℕ) (cs : List ℤ) → place_of v cs ≡ pos low +ℤ place_of (rebased v low) cs
unfolding place_of
place-rebased v low cs = back v.offset (pos low) (dot_ℤ v.strides cs)
  where
    back : (o l z : ℤ) → o +ℤ z ≡ l +ℤ (o -ℤ l +ℤ z)
    back o l z = simp znorm (simp zflat (omega arith))

at_same : {A : Type 0} {p q : ℤ} (x : A) → p ≡ q → ◌≡◌ {A = ℤ × A} (p, x) (q, x)
at_same x e = λ i. (e i, x)

tabulate-same : {A : Type 0} (n : ℕ) (f g : ℕ → A) → ((k : ℕ) → f k ≡ g k) → tabulate n f ≡ tabulate n g
unfolding tabulate
tabulate-same zero f g e = refl
tabulate-same (suc n) f g e = ap₂ ◌∷◌ (e 0) (tabulate-same n (λ i. f (suc i)) (λ i. g (suc i)) (λ i. e (suc i)))

moved-tabulate : {A : Type 0} (low n : ℕ) (f : ℕ → ℤ × A) → moved_by low (tabulate n f) ≡ tabulate n (λ k. (pos low +ℤ (f k).0, (f k).1))
unfolding moved_by tabulate
moved-tabulate low zero f = refl
moved-tabulate {A} low (suc n) f = ap (λ (l : List (ℤ × A)). (pos low +ℤ (f 0).0, (f 0).1) ∷ l) (moved-tabulate low n (λ i. f (suc i)))

moved-append : {A : Type 0} (low : ℕ) (xs ys : List (ℤ × A)) → moved_by low (xs ++ ys) ≡ moved_by low xs ++ moved_by low ys
unfolding moved_by
moved-append low [] ys = refl
moved-append {A} low (x ∷ xs) ys = ap (λ (l : List (ℤ × A)). (pos low +ℤ x.0, x.1) ∷ l) (moved-append low xs ys)

moved-rows : {A : Type 0} (low n m : ℕ) (f : ℕ → ℕ → ℤ × A)
    → moved_by low (joined (tabulate n (λ b. tabulate m (λ w. f b w)))) ≡ joined (tabulate n (λ b. tabulate m (λ w. (pos low +ℤ (f b w).0, (f b w).1))))
unfolding joined tabulate
moved-rows low zero m f = unfold moved_by in refl
moved-rows low (suc n) m f =
    moved-append low (tabulate m (λ w. f 0 w)) (joined (tabulate n (λ b. tabulate m (λ w. f (suc b) w))))
    ∙ ap₂ ◌++◌ (moved-tabulate low m (λ w. f 0 w)) (moved-rows low n m (λ b. f (suc b)))

inside-tabulate : {A : Type 0} (size n : ℕ) (f : ℕ → ℤ × A) → ((k : ℕ) → k < n → InSlice size (f k).0) → AllInside size (tabulate n f)
unfolding AllInside tabulate
inside-tabulate size zero f h = tt
inside-tabulate size (suc n) f h = (h 0 (omega arith), inside-tabulate size n (λ i. f (suc i)) (λ k l. h (suc k) (omega arith)))

inside-append : {A : Type 0} (size : ℕ) (xs ys : List (ℤ × A)) → AllInside size xs → AllInside size ys → AllInside size (xs ++ ys)
unfolding AllInside
inside-append size [] ys p q = q
inside-append size (x ∷ xs) ys p q = (p.0, inside-append size xs ys p.1 q)

inside-rows : {A : Type 0} (size n m : ℕ) (f : ℕ → ℕ → ℤ × A) → ((b w : ℕ) → b < n → w < m → InSlice size (f b w).0) → AllInside size (joined (tabulate n (λ b. tabulate m (λ w. f b w))))
unfolding joined tabulate
inside-rows size zero m f h = unfold AllInside in tt
inside-rows size (suc n) m f h =
    inside-append size (tabulate m (λ w. f 0 w)) (joined (tabulate n (λ b. tabulate m (λ w. f (suc b) w)))) (inside-tabulate size m (λ w. f 0 w) (λ w l. h 0 w (omega arith) l))
    (inside-rows size n m (λ b. f (suc b)) (λ b w l k. h (suc b) w (omega arith) k))

module _ {A : Type 0} (d : A) (before part after : List A) where
  low : ℕ
  low = length before

  -- A GATHER whose cells are all in the part is the gather into the part, and the rest stays
  pub gathered-part : (g : Gather) (starts : List ℤ) (operand : List A) → ((k : ℕ) → k < cells g → InSlice (length part) (write_at (gather_in_part g (length before)) k))
      → gathered d g starts operand (before ++ (part ++ after)) ≡ before ++ (gathered d (gather_in_part g (length before)) starts operand part ++ after)
  unfolding gathered reads read_at write_at cells gather_start full_offset operand_index batch_dims shown_dims low
  gathered-part g starts operand h =
      ap (λ (rs : List Read). copy_each d rs operand (before ++ (part ++ after)))
      (tabulate-same (cells g) (λ k. (write_at g k, read_at g starts k)) (λ k. (pos low +ℤ write_at (gather_in_part g low) k, read_at g starts k))
      (λ k. at_same (read_at g starts k) (place-rebased g.result low (ints (unravel g.result.extents k))))
      ∙ sym (moved-tabulate low (cells g) (λ k. (write_at (gather_in_part g low) k, read_at g starts k))))
      ∙ copied-part d (reads (gather_in_part g low) starts) operand before part after (inside-tabulate (length part) (cells g) (λ k. (write_at (gather_in_part g low) k, read_at g starts k)) h)

  -- A SCATTER whose updates all land in the part is the scatter into the part, by any rule, and the rest stays
  pub combined-in-part : (rule : A → A → A) (s : Scatter) (starts : List ℤ) (updates : List A)
      → ((b w : ℕ) → b < product (batch_shape s) → w < product (window_shape s) → InSlice (length part) (lands_at (scatter_in_part s (length before)) starts b w))
      → combined rule d (placed_updates d s starts updates) (before ++ (part ++ after)) ≡ before ++ (combined rule d (placed_updates d (scatter_in_part s (length before)) starts updates) part ++ after)
  unfolding placed_updates lands_at update_at result_index update_index full_window windows window_shape batch_shape window_dims scatter_dims low
  combined-in-part rule s starts updates h =
      ap (λ (cs : List (Update A)). combined rule d cs (before ++ (part ++ after)))
      (ap joined (tabulate-same (product (batch_shape s)) (λ b. tabulate (product (window_shape s)) (λ w. whole b w)) (λ b. tabulate (product (window_shape s)) (λ w. moved b w))
      (λ b. tabulate-same (product (window_shape s)) (λ w. whole b w) (λ w. moved b w) (λ w. same b w)))
      ∙ sym (moved-rows low (product (batch_shape s)) (product (window_shape s)) in-part))
      ∙ combined-part rule d (placed_updates d (scatter_in_part s low) starts updates) before part after (inside-rows (length part) (product (batch_shape s)) (product (window_shape s)) in-part h)
    where
      whole : ℕ → ℕ → Update A
      whole b w = (lands_at s starts b w, element_at d updates (update_at s b w))

      in-part : ℕ → ℕ → Update A
      in-part b w = (lands_at (scatter_in_part s low) starts b w, element_at d updates (update_at s b w))

      moved : ℕ → ℕ → Update A
      moved b w = (pos low +ℤ (in-part b w).0, (in-part b w).1)

      same : (b w : ℕ) → whole b w ≡ moved b w
      same b w =
          at_same (element_at d updates (update_at s b w)) (place-rebased s.result low (result_index s starts (unravel (batch_shape s) b) (unravel (window_shape s) w)))

-- ---- and so of a valid one, whose destination's cells are in the part
pub covered-part : (v : View) (low n : ℕ) → pos low ≤ℤ (v.offset +ℤ lowest v.strides v.extents) → (v.offset +ℤ highest v.strides v.extents) <ℤ pos (low + n) → Covered (rebased v low) n
covered-part v low n h k = record {
  low = down v.offset (lowest v.strides v.extents) h;
  high = up v.offset (highest v.strides v.extents) k;
}
  where
    down : (o z : ℤ) → pos low ≤ℤ (o +ℤ z) → pos 0 ≤ℤ (o -ℤ pos low +ℤ z)
    down o z h = simp znorm (simp zflat (omega (arith, simp zflat at (simp znorm at h))))

    up : (o z : ℤ) → (o +ℤ z) <ℤ pos (low + n) → (o -ℤ pos low +ℤ z) <ℤ pos n
    up o z h = simp znorm (simp zflat (omega (arith, simp zflat at (simp znorm at h))))

pub valid-gather-part : (g : Gather) (low : ℕ) → ValidGather g → ValidGather (gather_in_part g low)
unfolding shown_dims batch_dims
valid-gather-part g low v =
    record {
      operand-strided = v.operand-strided;
      indices-strided = v.indices-strided;
      result-strided = v.result-strided;
      sizes = v.sizes;
      collapsed = v.collapsed;
      mapped = v.mapped;
      vector = v.vector;
      fits = v.fits;
      collapsed-one = v.collapsed-one;
      counted = v.counted;
      shown = v.shown;
      window-shape = v.window-shape;
      batch-shape = v.batch-shape;
    }

pub valid-scatter-part : (s : Scatter) (low : ℕ) → ValidScatter s → ValidScatter (scatter_in_part s low)
unfolding scatter_dims window_dims batch_shape window_shape windows
valid-scatter-part s low v =
    record {
      indices-strided = v.indices-strided;
      updates-strided = v.updates-strided;
      result-strided = v.result-strided;
      inserted = v.inserted;
      mapped = v.mapped;
      vector = v.vector;
      counted = v.counted;
      window-count = v.window-count;
      window-axes = v.window-axes;
      batch-shape = v.batch-shape;
      fits = v.fits;
    }

module _ {A : Type 0} (d : A) (before part after : List A) where
  pub gathered-lent : (g : Gather) (starts : List ℤ) (operand : List A) → ValidGather g → Covered (rebased g.result (length before)) (length part)
      → gathered d g starts operand (before ++ (part ++ after)) ≡ before ++ (gathered d (gather_in_part g (length before)) starts operand part ++ after)
  unfolding cells
  gathered-lent g starts operand v c =
      gathered-part d before part after g starts operand (λ k h. writes-in (gather_in_part g (length before)) (valid-gather-part g (length before) v) k h (length part) c)

  pub combined-lent : (rule : A → A → A) (s : Scatter) (starts : List ℤ) (updates : List A) → ValidScatter s → Covered (rebased s.result (length before)) (length part)
      → combined rule d (placed_updates d s starts updates) (before ++ (part ++ after)) ≡ before ++ (combined rule d (placed_updates d (scatter_in_part s (length before)) starts updates) part ++ after)
  unfolding batch_shape window_shape scatter_dims
  combined-lent rule s starts updates v c =
      combined-in-part d before part after rule s starts updates
      (λ b w hb hw. lands-in (scatter_in_part s (length before)) (valid-scatter-part s (length before) v) b w hb hw (length part) starts c)
