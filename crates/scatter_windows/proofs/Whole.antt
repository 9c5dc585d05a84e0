-- All the batches of a scatter, and all cells of their windows. Assumes nothing.
use mathlib.Core.Path.{◌≡◌, refl, sym, ap, ap₂, subst, ◌∙◌}
use mathlib.Core.Bool.{true}
use mathlib.Core.List.{List}
use Prim.Native.Nat.{ℕ, zero, suc, ◌-◌, ◌<◌, ◌≤◌, ◌^◌}
use native.Mathlib.Omega.{arith}
use lib.ListN.{length, take}
use lib.IntN.{ℤ, pos, ◌+ℤ◌}
use mir.Syntax.{w64}
use mir.Val.{SFits}
use Rattle.integer.specs.Z.{back}
use Rattle.indexing.specs.Coordinates.{product, InSlice}
use Rattle.indexing.specs.Odometer.{AllPos}
use Rattle.indexing.proofs.Fusion.{product-pos}
use Rattle.indexing.specs.Loops.{in_order}
use Rattle.layout.specs.Laws.{no_cells}
use Rattle.layout.specs.Nested.{has_zero}
use Rattle.runs.specs.Runs.{cell_at, line, Line}
use Rattle.runs.proofs.Turns.{none, same-turns}
use Rattle.runs.proofs.Place.{read, line-zero}
use Rattle.windows.specs.Windows.{place_at, windowed, Region, Units}
use Rattle.windows.proofs.Last.{place-first, units-product, only_zero}
use Rattle.indexed_runs.specs.IndexedRuns.{start_at, Starting, moved_at, Putting}
use Rattle.scatter_windows.specs.Scattering.{scattered_by, put_by, Batches, Scattering, BatchPlaces, Landing}
use Rattle.scatter_windows.proofs.Batches.{over_none, first-batch, over-back, places-back}
use Rattle.scatter_windows.proofs.Levels.{put, land}

-- ---- windows of one cell, and any number of batch axes
module _ (starts offsets strides : List ℤ) (limits : List ℕ) (count : ℕ) (t u d : ℤ) (shape : List ℕ) (ts us : List ℤ) (rank sn dn : ℕ)
    (w : BatchPlaces (λ x y. Starting starts offsets strides limits d x count dn) t u shape ts us rank sn) (ft : SFits w64 t) (fu : SFits w64 u) (fd : SFits w64 d) where
  module _ (e : rank ≡ 0) where
    one_line : (base : ℤ) (steps : List ℤ) (m : ℕ) → Region base shape steps rank m → Line base (pos 0) 1 m
    unfolding product
    one_line base steps m r =
        let one : 0 < product (take rank shape) = subst (λ (k : ℕ). 0 < product (take k shape)) (sym e) (omega arith) in
        record { few = omega arith; inside = only_zero (λ k. InSlice m (line base (pos 0) k)) (subst (InSlice m) (place-first base shape steps rank ∙ sym (line-zero base (pos 0))) (r.inside 0 one)) }

    pub one_batch : Putting starts offsets strides limits count (read u) (read t) (read d) (pos 0) (pos 0) 1 sn dn
    one_batch =
        simp (back ft, back fu, back fd)
        (record {
          source = one_line u us sn w.updates;
          index = one_line t ts (2 ^ 63 - 1) w.index;
          starting = only_zero (λ k. Starting starts offsets strides limits d (line t (pos 0) k) count dn)
              (subst (λ (x : ℤ). Starting starts offsets strides limits d x count dn) (sym (line-zero t (pos 0))) (first-batch (λ x y. Starting starts offsets strides limits d x count dn) t u shape ts us rank sn w e));
        })

    pub one_end : {A : Type 0} (z : A) (rule : A → A → A) (src x y : List A)
        → y ≡ in_order (cell_at z rule src (line (read u) (pos 0)) (moved_at starts offsets strides limits count (λ _. read d) (line (read t) (pos 0)))) 1 x
        → y ≡ put_by z rule src starts offsets strides limits count t u d shape ts us rank x
    unfolding in_order
    one_end z rule src x y h =
        h
        ∙ ap₂ (λ (a b : ℤ). put z rule src starts offsets strides limits count (read d) a b x) (line-zero (read t) (pos 0) ∙ back ft) (line-zero (read u) (pos 0) ∙ back fu)
        ∙ ap (λ (a : ℤ). put z rule src starts offsets strides limits count a t u x) (back fd)
        ∙ over_none (put z rule src starts offsets strides limits count d) shape ts us t u x
        ∙ ap (λ (k : ℕ). put_by z rule src starts offsets strides limits count t u d shape ts us k x) (sym e)

-- ---- what a test of the window tells
pub not_none : (shape : List ℕ) (rank : ℕ) → (Units rank shape → ⊥) → 0 < rank
not_none shape zero h = absurd (h (λ i l. absurd (omega arith)))
not_none shape (suc rank) h = omega arith

-- turns that do nothing
idle : {C : Type 0} (turn : ℕ → C → C) (n : ℕ) → ((k : ℕ) (y : C) → y ≡ turn k y) → (x : C) → x ≡ in_order turn n x
unfolding in_order
idle turn zero e x = refl
idle turn (suc n) e x = idle turn n e x ∙ e n (in_order turn n x)

units-one : (rank : ℕ) (shape : List ℕ) → rank ≤ length shape → Units rank shape → product (take rank shape) ≡ 1
unfolding product
units-one zero shape h g = refl
units-one (suc low) shape h g = units-product low shape (omega arith) (λ i l. g i (omega arith)) ∙ g low (omega arith)

-- a window of one cell is that cell
unit-window : {A : Type 0} (z : A) (rule : A → A → A) (src : List A) (s d : ℤ) (shape : List ℕ) (ss ds : List ℤ) (rank : ℕ) → rank ≤ length shape → Units rank shape → (x : List A)
    → cell_at z rule src (λ _. s) (λ _. d) 0 x ≡ windowed z rule src s d shape ss ds rank x
unfolding in_order
unit-window z rule src s d shape ss ds rank h g x =
    ap₂ (λ (a b : ℤ). cell_at z rule src (λ _. a) (λ _. b) 0 x) (sym (place-first s shape ss rank)) (sym (place-first d shape ds rank))
    ∙ ap (λ (n : ℕ). in_order (cell_at z rule src (place_at s shape ss rank) (place_at d shape ds rank)) n x) (sym (units-one rank shape h g))

-- ---- the whole
module _ (starts offsets strides : List ℤ) (limits : List ℕ) (count : ℕ) (t u d : ℤ) (bshape : List ℕ) (ts us : List ℤ) (brank : ℕ) (wshape : List ℕ) (ws ds : List ℤ) (wrank : ℕ) where
  -- nothing where there is no batch, or no cell of a window
  pub no-batch : {A : Type 0} (z : A) (rule : A → A → A) (src x : List A) → has_zero (take brank bshape) ≡ true → x ≡ scattered_by z rule src starts offsets strides limits count t u d bshape ts us brank wshape ws ds wrank x
  no-batch z rule src x e = none _ (product (take brank bshape)) x (no_cells (take brank bshape) e)

  pub no-window : {A : Type 0} (z : A) (rule : A → A → A) (src x : List A) → has_zero (take wrank wshape) ≡ true → x ≡ scattered_by z rule src starts offsets strides limits count t u d bshape ts us brank wshape ws ds wrank x
  no-window z rule src x e = idle _ (product (take brank bshape)) (λ b y. none _ (product (take wrank wshape)) y (no_cells (take wrank wshape) e)) x

  module _ (sn dn : ℕ) (w : Scattering starts offsets strides limits count t u d bshape ts us brank wshape ws ds wrank sn dn) (few : product (take brank bshape) < 2 ^ 64) (bp : AllPos (take brank bshape)) (wp : AllPos (take wrank wshape)) (ft : SFits w64 t) (fu : SFits w64 u) (fd : SFits w64 d) where
    here : Batches starts offsets strides limits count t u d bshape ts us brank wshape ws ds wrank sn dn
    here = w.batches (product-pos (take brank bshape) bp) (product-pos (take wrank wshape) wp)

    -- the first updates of the batches
    firsts : Region u bshape us brank sn
    firsts =
        let g = here in
        record {
          extents = g.index.extents;
          strided = g.strided;
          few = g.index.few;
          inside = λ b h. subst (InSlice sn) (place-first (place_at u bshape us brank b) wshape ws wrank) ((g.source b h).inside 0 (product-pos (take wrank wshape) wp));
        }

    places_of : (P : ℤ → ℤ → Type 0) → ((b : ℕ) → b < product (take brank bshape) → P (place_at t bshape ts brank b) (place_at u bshape us brank b)) → BatchPlaces P t u bshape ts us brank sn
    places_of P f = record { small = w.small; few-batches = few; positive = bp; index = here.index; updates = firsts; each = f }

    -- windows of one cell
    pub each-asks : BatchPlaces (λ x y. Starting starts offsets strides limits (read d) x count dn) (read t) (read u) bshape ts us brank sn
    each-asks = places-back (λ d x y. Starting starts offsets strides limits d x count dn) t u d bshape ts us brank sn ft fu fd (places_of (λ x y. Starting starts offsets strides limits d x count dn) here.starting)

    pub each-end : {A : Type 0} (z : A) (rule : A → A → A) (src x y : List A) → Units wrank wshape → y ≡ put_by z rule src starts offsets strides limits count (read t) (read u) (read d) bshape ts us brank x
        → y ≡ scattered_by z rule src starts offsets strides limits count t u d bshape ts us brank wshape ws ds wrank x
    each-end z rule src x y g h =
        over-back (put z rule src starts offsets strides limits count) t u d bshape ts us brank ft fu fd x y h
        ∙ same-turns (λ b. put z rule src starts offsets strides limits count d (place_at t bshape ts brank b) (place_at u bshape us brank b)) (λ b. land z rule src starts offsets strides limits count wshape ws ds wrank d (place_at t bshape ts brank b) (place_at u bshape us brank b)) (product (take brank bshape))
        (λ b l v. unit-window z rule src (place_at u bshape us brank b) (d +ℤ start_at starts offsets strides limits (place_at t bshape ts brank b) count) wshape ws ds wrank (here.source b l).extents g v) x

    -- windows of more
    pub axes-asks : (low : ℕ) → low < wrank → Units low wshape → BatchPlaces (Landing starts offsets strides limits count (read d) wshape ws ds low wrank sn dn) (read t) (read u) bshape ts us brank sn
    axes-asks low h g =
        places-back (λ d. Landing starts offsets strides limits count d wshape ws ds low wrank sn dn) t u d bshape ts us brank sn ft fu fd
        (places_of (Landing starts offsets strides limits count d wshape ws ds low wrank sn dn)
        (λ b l. record { starting = here.starting b l; window = record { below = h; units = g; positive = wp; window = record { small = w.window-small; source = here.source b l; dest = here.dest b l } } }))

    pub axes-end : {A : Type 0} (z : A) (rule : A → A → A) (src x y : List A) → y ≡ scattered_by z rule src starts offsets strides limits count (read t) (read u) (read d) bshape ts us brank wshape ws ds wrank x
        → y ≡ scattered_by z rule src starts offsets strides limits count t u d bshape ts us brank wshape ws ds wrank x
    axes-end z rule src x y h = over-back (land z rule src starts offsets strides limits count wshape ws ds wrank) t u d bshape ts us brank ft fu fd x y h
