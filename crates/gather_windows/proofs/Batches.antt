-- How many batch coordinates of a gather have a start that is moved, counted level by level. Over any rank. Assumes nothing.
use mathlib.Core.Path.{◌≡◌, refl, sym, ap, ap₂, ◌∙◌}
use mathlib.Core.Bool.{Bool, true, false, cond, ◌&&◌}
use mathlib.Core.Logic.{inl, inr}
use mathlib.Core.List.{List, [], ◌∷◌}
use Prim.Native.Nat.{ℕ, zero, suc, ◌+◌, ◌*◌, ◌<◌, ◌≤◌, ◌^◌, min}
use native.Mathlib.Nat.{mul-le-mul_left, mul-zero}
use native.Mathlib.Omega.{arith}
use borrow.Author.Tests.{ltb-true, ltb-false, ne_eqb}
use lib.Dec.{ltb}
use lib.ListN.{length, get_or, take}
use lib.IntN.{ℤ, pos}
use mir.Syntax.{w64}
use mir.Val.{SFits}
use Rattle.integer.specs.Z.{back}
use Rattle.indexing.specs.Coordinates.{product}
use Rattle.indexing.specs.Odometer.{AllPos}
use Rattle.indexing.proofs.Fusion.{product-pos}
use Rattle.indexing.specs.Slid.{how_many, slid_of}
use Rattle.indexing.specs.Counting.{many-none, many_more, many-same, many_below, many-part}
use Rattle.layout.specs.Laws.{no_cells}
use Rattle.layout.specs.Nested.{has_zero}
use Rattle.runs.specs.Runs.{line}
use Rattle.runs.proofs.Place.{read, line-zero}
use Rattle.windows.specs.Windows.{place_at, Units}
use Rattle.windows.proofs.Last.{product-top, positive-top, place-top, units-product, units-place, place-first, only_zero}
use Rattle.indexed_runs.specs.IndexedRuns.{start_moved, starts_moved}
use Rattle.indexed_runs.proofs.Counts.{none-counts, starts-end}
use Rattle.gather_windows.specs.Gathering.{StillAxis, Still, BatchAxis, Batched, WindowAxes, BatchLevel}
use Rattle.gather_windows.proofs.Stills.{unit-still, zero-still}

-- ---- one axis
batch-pos : (d b : ℕ) (t : ℤ) → BatchAxis d b t → 0 < d → 0 < b
batch-pos d b t (inl e) h = omega arith
batch-pos d b t (inr e) h = let q = e.0 in omega arith

batch-unit : (d b : ℕ) (t : ℤ) → BatchAxis d b t → d ≡ 1 → b ≡ 1
batch-unit d b t (inl e) h = e ∙ h
batch-unit d b t (inr e) h = e.0

batch-still : (d b : ℕ) (t : ℤ) → BatchAxis d b t → b ≡ 1 → StillAxis d t
batch-still d b t (inl e) h = unit-still d t (sym e ∙ h)
batch-still d b t (inr e) h = zero-still d t e.1

pub batch-most : (d b : ℕ) (t : ℤ) → BatchAxis d b t → 0 < d → b ≤ d
batch-most d b t (inl e) h = omega arith
batch-most d b t (inr e) h = let q = e.0 in omega arith

batch-own : (d b : ℕ) (t : ℤ) → BatchAxis d b t → (b ≡ 1 → ⊥) → b ≡ d
batch-own d b t (inl e) h = e
batch-own d b t (inr e) h = absurd (h e.0)

-- ---- the first axes
all-pos : (n : ℕ) (ds bs : List ℕ) → n ≤ length ds → n ≤ length bs → ((i : ℕ) → i < n → 0 < get_or ds i 0 → 0 < get_or bs i 0) → AllPos (take n ds) → AllPos (take n bs)
unfolding AllPos
all-pos zero ds bs h k e p = tt
all-pos (suc n) [] bs h k e p = absurd (omega arith)
all-pos (suc n) (d ∷ ds) [] h k e p = absurd (omega arith)
all-pos (suc n) (d ∷ ds) (b ∷ bs) h k e p = (e 0 (omega arith) p.0, all-pos n ds bs (omega arith) (omega arith) (λ i l. e (suc i) (omega arith)) p.1)

pub ones-product : (n : ℕ) (bs : List ℕ) → n ≤ length bs → Units n bs → product (take n bs) ≡ 1
unfolding product
ones-product zero bs h u = refl
ones-product (suc n) [] h u = absurd (omega arith)
ones-product (suc n) (b ∷ bs) h u = ap₂ ◌*◌ (u 0 (omega arith)) (ones-product n bs (omega arith) (λ i l. u (suc i) (omega arith)))

pub still-of : (shape batches : List ℕ) (ts : List ℤ) (wide rank : ℕ) → Batched shape batches ts rank → wide ≤ rank → Units wide batches → Still wide shape ts
still-of shape batches ts wide rank w h u i l = batch-still _ _ _ (w.each i (omega arith)) (u i l)

pub level-of-batches : (shape batches : List ℕ) (ts : List ℤ) (low wide rank : ℕ) → Batched shape batches ts rank → low < rank → Units low shape → WindowAxes wide batches rank → BatchLevel shape batches ts low wide rank
level-of-batches shape batches ts low wide rank w h u x =
    record {
      ones = x.ones;
      run = λ k. batch-own _ _ _ (w.each low h) (λ e. x.stops (omega arith) (ap (λ (i : ℕ). get_or batches i 0) (same k) ∙ e));
      batched = w;
    }
  where
    same : wide ≤ low → wide ≡ low
    same k = go (ltb wide low) refl
      where
        go : (t : Bool) → ltb wide low ≡ t → wide ≡ low
        go true e = let l : wide < low = ltb-true wide low e in absurd (x.stops (omega arith) (batch-unit _ _ _ (w.each wide (omega arith)) (u wide l)))
        go false e = let l = ltb-false wide low e in omega arith

-- ---- the counts
module _ (starts offsets : List ℤ) (limits : List ℕ) (count : ℕ) (batches : List ℕ) (ts : List ℤ) where
  abbrev pub flag : ℤ → ℕ → ℕ → Bool
  flag t rank b = start_moved starts offsets limits (place_at t batches ts rank b) count

  -- at the places of the last axis before j that have a batch coordinate of their own, where they count
  abbrev pub so_far : Bool → ℤ → ℕ → ℕ → ℕ → Type 0
  so_far counts t top j c = c ≡ cond counts (how_many (product (take top batches) * min j (get_or batches top 0)) (flag t (suc top))) 0

module _ (starts offsets : List ℤ) (limits : List ℕ) (count : ℕ) (shape batches : List ℕ) (ts : List ℤ) where
  abbrev mark : ℤ → ℕ → ℕ → Bool
  mark = flag starts offsets limits count batches ts

  -- of a window: one
  pub window-count : (t : ℤ) (low wide rank : ℕ) (b : Bool) (o : ℕ) → BatchLevel shape batches ts low wide rank → rank ≤ wide → SFits w64 t → o ≡ cond b 1 0 → b ≡ start_moved starts offsets limits (read t) count
      → o ≡ starts_moved starts offsets limits count (product (take rank batches)) (place_at t batches ts rank)
  window-count t low wide rank b o l h ft eo eb =
      let z : o ≡ 0 + o = omega arith in
      let one : product (take rank batches) ≡ 0 + 1 = ones-product rank batches l.batched.room (λ i k. l.ones i (omega arith)) in
      z ∙ many_more 0 (mark t rank) 0 o b (many-none 0 (mark t rank) refl) eo (eb ∙ ap (λ (v : ℤ). start_moved starts offsets limits v count) (back ft ∙ sym (place-first t batches ts rank)))
      ∙ ap (λ (n : ℕ). how_many n (mark t rank)) (sym one)

  -- of a run
  pub run-count : (t : ℤ) (top wide c : ℕ) → BatchLevel shape batches ts top wide (suc top) → Units top shape → suc top ≤ length ts → wide ≤ top → SFits w64 t → SFits w64 (get_or ts top (pos 0))
      → c ≡ starts_moved starts offsets limits count (get_or shape top 0) (line (read t) (read (get_or ts top (pos 0))))
      → c ≡ starts_moved starts offsets limits count (product (take (suc top) batches)) (place_at t batches ts (suc top))
  run-count t top wide c l u r h ft fs e =
      let room = l.batched.room in
      let ub : Units top batches = λ i k. batch-unit _ _ _ (l.batched.each i (omega arith)) (u i k) in
      starts-end starts t (get_or ts top (pos 0)) (get_or shape top 0) (get_or batches top 0) c ft fs (sym (l.run h)) offsets limits count e
      ∙ many-same (get_or batches top 0) (λ k. start_moved starts offsets limits (line t (get_or ts top (pos 0)) k) count) (mark t (suc top))
      (λ k g. ap (λ (v : ℤ). start_moved starts offsets limits v count) (sym (units-place t top batches ts k (omega arith) (omega arith) ub g)))
      ∙ ap (λ (n : ℕ). how_many n (mark t (suc top))) (sym (units-product top batches (omega arith) ub))

  module _ (t : ℤ) (low wide top : ℕ) (l : BatchLevel shape batches ts low wide (suc top)) (p : AllPos (take (suc top) shape)) (rs : suc top ≤ length shape) (rt : suc top ≤ length ts) where
    abbrev m : ℕ
    m = product (take top batches)

    abbrev own : ℕ
    own = get_or batches top 0

    room : top < length batches
    room = let r = l.batched.room in omega arith

    pos-here : AllPos (take (suc top) batches)
    pos-here = all-pos (suc top) shape batches rs l.batched.room (λ i h. batch-pos _ _ _ (l.batched.each i h)) p

    pos-below : AllPos (take top batches)
    pos-below = (positive-top batches top room pos-here).0

    own-pos : 0 < own
    own-pos = (positive-top batches top room pos-here).1

    pub own-most : own ≤ get_or shape top 0
    own-most = batch-most _ _ _ (l.batched.each top (omega arith)) (positive-top shape top (omega arith) p).1

    whole : product (take (suc top) batches) ≡ m * own
    whole = product-top batches top room

    pub level-below-batches : BatchLevel shape batches ts low wide top
    level-below-batches =
        record {
          ones = l.ones;
          run = l.run;
          batched = record {
            room = omega (arith, room);
            each = λ i h. l.batched.each i (omega arith);
            fits = λ _. omega (arith, l.batched.fits p, whole, mul-le-mul_left {m = 1} {n = own} m own-pos);
          };
        }

    abbrev sofar : Bool → ℕ → ℕ → Type 0
    sofar counts = so_far starts offsets limits count batches ts counts t top

    -- those below place j
    abbrev part : ℕ → ℕ
    part j = starts_moved starts offsets limits count m (place_at (line t (get_or ts top (pos 0)) j) batches ts top)

    pub none_yet : (counts : Bool) → sofar counts 0 0
    none_yet counts =
        let e : min 0 own ≡ 0 = omega arith in
        none-counts counts _ (many-none (m * min 0 own) (mark t (suc top)) (ap (λ (k : ℕ). m * k) e ∙ mul-zero m))

    pub one_on : (counts : Bool) (j c o : ℕ) → sofar counts j c → o ≡ cond (counts && ltb j own) (part j) 0 → sofar counts (j + 1) (c + o)
    one_on false j c o ec eo = omega (arith, ec, eo)
    one_on true j c o ec eo = go (ltb j own) refl
      where
        go : (u : Bool) → ltb j own ≡ u → sofar true (j + 1) (c + o)
        go true e =
            let h : j < own = ltb-true j own e in
            let a : min j own ≡ j = omega arith in
            let b : min (j + 1) own ≡ j + 1 = omega arith in
            let q : o ≡ how_many m (λ k. mark t (suc top) (k + m * j)) =
            eo ∙ ap (λ (x : Bool). cond x (part j) 0) e
            ∙ many-same m (λ k. start_moved starts offsets limits (place_at (line t (get_or ts top (pos 0)) j) batches ts top k) count) (λ k. mark t (suc top) (k + m * j))
            (λ k g. ap (λ (v : ℤ). start_moved starts offsets limits v count) (sym (place-top batches top room t ts (omega arith) pos-below k j g h))) in
            many-part m j (mark t (suc top)) c o (ec ∙ ap (λ (k : ℕ). how_many (m * k) (mark t (suc top))) a) q ∙ ap (λ (k : ℕ). how_many (m * k) (mark t (suc top))) (sym b)
        go false e =
            let h = ltb-false j own e in
            let a : min j own ≡ min (j + 1) own = omega arith in
            let z : o ≡ 0 = eo ∙ ap (λ (x : Bool). cond x (part j) 0) e in
            let y : c + o ≡ c = omega arith in
            y ∙ ec ∙ ap (λ (k : ℕ). how_many (m * k) (mark t (suc top))) a

    pub so-far-fits : (counts : Bool) (j c : ℕ) → sofar counts j c → c < 2 ^ 64
    so-far-fits false j c e = omega (arith, e)
    so-far-fits true j c e =
        omega (arith, e, many_below (m * min j own) (mark t (suc top)), mul-le-mul_left {m = min j own} {n = own} m (omega arith), whole, l.batched.fits p)

    pub all-counted : (counts : Bool) (j c : ℕ) → j ≡ get_or shape top 0 → sofar counts j c → c ≡ cond counts (starts_moved starts offsets limits count (product (take (suc top) batches)) (place_at t batches ts (suc top))) 0
    all-counted counts j c g e =
        let k = own-most in
        let a : min j own ≡ own = omega arith in
        e ∙ ap (λ (i : ℕ). cond counts (how_many (m * i) (mark t (suc top))) 0) a ∙ ap (λ (n : ℕ). cond counts (how_many n (mark t (suc top))) 0) (sym whole)

-- ---- the whole: 0 where there are no cells
module _ (starts offsets : List ℤ) (limits : List ℕ) (count : ℕ) (t : ℤ) (shape batches : List ℕ) (ts : List ℤ) (rank : ℕ) where
  pub none-counted : has_zero (take rank shape) ≡ true → 0 ≡ slid_of (product (take rank shape)) (starts_moved starts offsets limits count (product (take rank batches)) (place_at t batches ts rank))
  none-counted e = ap (λ (n : ℕ). slid_of n (starts_moved starts offsets limits count (product (take rank batches)) (place_at t batches ts rank))) (sym (no_cells (take rank shape) e))

  pub level-counted : (c : ℕ) → AllPos (take rank shape) → SFits w64 t → c ≡ starts_moved starts offsets limits count (product (take rank batches)) (place_at (read t) batches ts rank)
      → c ≡ slid_of (product (take rank shape)) (starts_moved starts offsets limits count (product (take rank batches)) (place_at t batches ts rank))
  level-counted c p ft e =
      let h : 0 < product (take rank shape) = product-pos (take rank shape) p in
      e ∙ ap (λ (v : ℤ). starts_moved starts offsets limits count (product (take rank batches)) (place_at v batches ts rank)) (back ft)
      ∙ sym (ap (λ (b : Bool). cond b 0 (starts_moved starts offsets limits count (product (take rank batches)) (place_at t batches ts rank))) (ne_eqb (product (take rank shape)) 0 (λ z. omega arith)))

  pub one-counted : (c : ℕ) → rank ≡ 0 → SFits w64 t → c ≡ starts_moved starts offsets limits count 1 (line (read t) (pos 0))
      → c ≡ slid_of (product (take rank shape)) (starts_moved starts offsets limits count (product (take rank batches)) (place_at t batches ts rank))
  unfolding product
  one-counted c z ft e =
      e ∙ ap (λ (v : ℤ). starts_moved starts offsets limits count 1 (line v (pos 0))) (back ft)
      ∙ many-same 1 (λ k. start_moved starts offsets limits (line t (pos 0) k) count) (λ k. start_moved starts offsets limits (place_at t batches ts 0 k) count)
      (only_zero (λ k. start_moved starts offsets limits (line t (pos 0) k) count ≡ start_moved starts offsets limits (place_at t batches ts 0 k) count)
      (ap (λ (v : ℤ). start_moved starts offsets limits v count) (line-zero t (pos 0) ∙ sym (place-first t batches ts 0))))
      ∙ ap (λ (r : ℕ). slid_of (product (take r shape)) (starts_moved starts offsets limits count (product (take r batches)) (place_at t batches ts r))) (sym z)
