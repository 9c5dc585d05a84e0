-- The cells of a gather are those below the places of its last axis; where no axis moves a start they are a window, and below the last axis there is a
-- run. Over any elements and any rank. Assumes nothing.
use mathlib.Core.Path.{◌≡◌, refl, sym, ap, ap₂, subst, ◌∙◌}
use mathlib.Core.List.{List, [], ◌∷◌}
use Prim.Native.Nat.{ℕ, zero, suc, ◌+◌, ◌*◌, ◌-◌, ◌/◌, ◌%◌, ◌<◌, ◌≤◌, ◌^◌}
use native.Mathlib.Nat.{mod-lt}
use native.Mathlib.Omega.{arith}
use lib.ListN.{get_or, take}
use lib.IntN.{ℤ, pos, ◌+ℤ◌, +ℤ_idr}
use mir.Syntax.{w64}
use mir.Val.{SFits}
use Rattle.integer.specs.Z.{back}
use Rattle.integer.specs.Laws.{+ℤ-ac}
use Rattle.indexing.specs.Coordinates.{product, unravel, dot, InSlice}
use Rattle.indexing.specs.Odometer.{AllPos, offset_at}
use Rattle.indexing.proofs.Linear.{head-pos, div_below}
use Rattle.indexing.proofs.Fusion.{product-pos}
use Rattle.indexing.specs.Loops.{in_order}
use Rattle.runs.specs.Runs.{cell_at, line}
use Rattle.runs.proofs.Turns.{more, in-runs, same-turns, same-places}
use Rattle.runs.proofs.Place.{read, machine, in-fits, Step, step}
use Rattle.windows.specs.Windows.{place_at, windowed, Level}
use Rattle.windows.proofs.Last.{product-top, positive-top, place-top, digit-below, units-product, units-place, place-first}
use Rattle.windows.proofs.Levels.{region-below, region-line, region-bases}
use Rattle.indexed_runs.specs.IndexedRuns.{start_at, Starting, moved_at, Taking}
use Rattle.indexed_runs.proofs.Starts.{wider}
use Rattle.indexed_runs.proofs.Cells.{cells-end}
use Rattle.gather_windows.specs.Gathering.{gathered_by, Gathering, Still, GatherLevel}

module _ (starts offsets strides : List ℤ) (limits : List ℕ) (count : ℕ) (shape : List ℕ) (ss ts ds : List ℤ) where
  -- ---- below place j of the last axis
  gathering-below : (s t d : ℤ) (top sn dn : ℕ) → Gathering starts offsets strides limits count s t d shape ss ts ds (suc top) sn dn → AllPos (take top shape) → (j : ℕ) → j < get_or shape top 0
      → Gathering starts offsets strides limits count (line s (get_or ss top (pos 0)) j) (line t (get_or ts top (pos 0)) j) (line d (get_or ds top (pos 0)) j) shape ss ts ds top sn dn
  gathering-below s t d top sn dn g p j h =
      let le = g.source.extents in
      let ls = g.source.strided in
      let lt = g.index.strided in
      let small = g.small in
      record {
        small = omega arith;
        source = region-below s shape ss top sn g.source p j h;
        index = region-below t shape ts top (2 ^ 63 - 1) g.index p j h;
        dest = region-below d shape ds top dn g.dest p j h;
        starting = λ i l.
            subst (λ (x : ℤ). Starting starts offsets strides limits x (place_at (line t (get_or ts top (pos 0)) j) shape ts top i) count sn) (place-top shape top (omega arith) s ss (omega arith) p i j l h)
            (subst (λ (x : ℤ). Starting starts offsets strides limits (place_at s shape ss (suc top) (i + product (take top shape) * j)) x count sn) (place-top shape top (omega arith) t ts (omega arith) p i j l h)
            (g.starting (i + product (take top shape) * j) (subst (λ (q : ℕ). i + product (take top shape) * j < q) (sym (product-top shape top (omega arith))) (digit-below i (product (take top shape)) j (get_or shape top 0) l h))));
      }

  -- one axis left
  taking : (s t d : ℤ) (top wide sn dn : ℕ) → GatherLevel starts offsets strides limits count s t d shape ss ts ds top wide (suc top) sn dn
      → Taking starts offsets strides limits count s t d (get_or ss top (pos 0)) (get_or ts top (pos 0)) (get_or ds top (pos 0)) (get_or shape top 0) sn dn
  taking s t d top wide sn dn l =
      let g = l.walk in
      let le = g.source.extents in
      let ls = g.source.strided in
      let lt = g.index.strided in
      record {
        source = region-line s shape ss top sn g.source l.units;
        index = region-line t shape ts top (2 ^ 63 - 1) g.index l.units;
        dest = region-line d shape ds top dn g.dest l.units;
        starting = λ k h.
            subst (λ (x : ℤ). Starting starts offsets strides limits x (line t (get_or ts top (pos 0)) k) count sn) (units-place s top shape ss k (omega arith) (omega arith) l.units h)
            (subst (λ (x : ℤ). Starting starts offsets strides limits (place_at s shape ss (suc top) k) x count sn) (units-place t top shape ts k (omega arith) (omega arith) l.units h)
            (g.starting k (subst (λ (q : ℕ). k < q) (sym (units-product top shape (omega arith) l.units)) h)));
      }

  -- below the last axis, at place j of it
  level-below : (s t d : ℤ) (low wide top sn dn : ℕ) → GatherLevel starts offsets strides limits count s t d shape ss ts ds low wide (suc top) sn dn → low < top → (j : ℕ) → j < get_or shape top 0
      → GatherLevel starts offsets strides limits count (line s (get_or ss top (pos 0)) j) (line t (get_or ts top (pos 0)) j) (line d (get_or ds top (pos 0)) j) shape ss ts ds low wide top sn dn
  level-below s t d low wide top sn dn l h j k =
      let p : AllPos (take top shape) = (positive-top shape top (omega (arith, l.walk.source.extents)) l.positive).0 in
      record { below = h; units = l.units; positive = p; still = l.still; walk = gathering-below s t d top sn dn l.walk p j k }

  -- ---- where no axis moves a start
  still-dot : (rank : ℕ) (shape : List ℕ) (ts : List ℤ) → Still rank shape ts → (k : ℕ) → k < product (take rank shape) → dot (take rank ts) (unravel (take rank shape) k) ≡ pos 0
  unfolding dot unravel product
  still-dot zero shape ts q k h = refl
  still-dot (suc r) [] [] q k h = refl
  still-dot (suc r) [] (t ∷ ts) q k h = refl
  still-dot (suc r) (d ∷ ds) [] q k h = refl
  still-dot (suc r) (d ∷ ds) (t ∷ ts) q k h =
      ap₂ ◌+ℤ◌ (q 0 (omega arith) (k % d) (mod-lt k (head-pos d (product (take r ds)) k h))) (still-dot r ds ts (λ i l. q (suc i) (omega arith)) (k / d) (div_below k d (product (take r ds)) h))

  still-place : (t : ℤ) (wide rank : ℕ) → Still wide shape ts → rank ≤ wide → (k : ℕ) → k < product (take rank shape) → place_at t shape ts rank k ≡ t
  unfolding offset_at
  still-place t wide rank q h k l = ap (λ (x : ℤ). t +ℤ x) (still-dot rank shape ts (λ i m. q i (omega arith)) k l) ∙ +ℤ_idr t

  moved-place : (s a : ℤ) (rank k : ℕ) → place_at (s +ℤ a) shape ss rank k ≡ place_at s shape ss rank k +ℤ a
  unfolding offset_at
  moved-place s a rank k = aside s a (dot (take rank ss) (unravel (take rank shape) k))
    where
      aside : (a b c : ℤ) → a +ℤ b +ℤ c ≡ a +ℤ c +ℤ b
      aside a b c = simp +ℤ-ac

  module _ (s t d : ℤ) (low wide rank sn dn : ℕ) (l : GatherLevel starts offsets strides limits count s t d shape ss ts ds low wide rank sn dn) (few : rank ≤ wide) where
    same_place : (k : ℕ) → k < product (take rank shape) → place_at (s +ℤ start_at starts offsets strides limits t count) shape ss rank k ≡ moved_at starts offsets strides limits count (place_at s shape ss rank) (place_at t shape ts rank) k
    same_place k h =
        moved-place s (start_at starts offsets strides limits t count) rank k
        ∙ ap (λ (x : ℤ). place_at s shape ss rank k +ℤ start_at starts offsets strides limits x count) (sym (still-place t wide rank l.still few k h))

    -- the window that is left
    window-level : Level (s +ℤ start_at starts offsets strides limits t count) d shape ss ds low rank sn dn
    window-level =
        let g = l.walk in
        record {
          below = l.below;
          units = l.units;
          positive = l.positive;
          window = record {
            small = g.small;
            source = record {
              extents = g.source.extents;
              strided = g.source.strided;
              few = g.source.few;
              inside = λ k h. subst (InSlice sn) (sym (same_place k h)) ((g.starting k h).partly count (omega arith));
            };
            dest = g.dest;
          };
        }

    -- and the first start
    first-start : Starting starts offsets strides limits s t count sn
    first-start =
        let p : 0 < product (take rank shape) = product-pos (take rank shape) l.positive in
        subst (λ (x : ℤ). Starting starts offsets strides limits x t count sn) (place-first s shape ss rank)
        (subst (λ (x : ℤ). Starting starts offsets strides limits (place_at s shape ss rank 0) x count sn) (place-first t shape ts rank) (l.walk.starting 0 p))

    window-is : {A : Type 0} (z : A) (rule : A → A → A) (src x : List A)
        → windowed z rule src (s +ℤ start_at starts offsets strides limits t count) d shape ss ds rank x ≡ gathered_by z rule src starts offsets strides limits count s t d shape ss ts ds rank x
    window-is z rule src x =
        same-places z rule src (place_at (s +ℤ start_at starts offsets strides limits t count) shape ss rank) (place_at d shape ds rank) (moved_at starts offsets strides limits count (place_at s shape ss rank) (place_at t shape ts rank)) (place_at d shape ds rank)
        (product (take rank shape)) same_place (λ k h. refl) x

  -- ---- what is done
  module _ {A : Type 0} (z : A) (rule : A → A → A) (src : List A) where
    -- the cells below place j of the last axis
    abbrev pub below : ℤ → ℤ → ℤ → ℤ → ℤ → ℤ → ℕ → ℕ → List A → List A
    below s t d a b c top j = gathered_by z rule src starts offsets strides limits count (line s a j) (line t b j) (line d c j) shape ss ts ds top

    module _ (s t d : ℤ) where
      abbrev from : ℕ → ℕ → ℤ
      from rank = moved_at starts offsets strides limits count (place_at s shape ss rank) (place_at t shape ts rank)

      run_is : (top wide sn dn : ℕ) → GatherLevel starts offsets strides limits count s t d shape ss ts ds top wide (suc top) sn dn → (x : List A)
          → in_order (cell_at z rule src (moved_at starts offsets strides limits count (line s (get_or ss top (pos 0))) (line t (get_or ts top (pos 0)))) (line d (get_or ds top (pos 0)))) (get_or shape top 0) x
          ≡ gathered_by z rule src starts offsets strides limits count s t d shape ss ts ds (suc top) x
      run_is top wide sn dn l x =
          let le = l.walk.source.extents in
          let ls = l.walk.source.strided in
          let lt = l.walk.index.strided in
          let ld = l.walk.dest.strided in
          sym (same-places z rule src (from (suc top)) (place_at d shape ds (suc top)) (moved_at starts offsets strides limits count (line s (get_or ss top (pos 0))) (line t (get_or ts top (pos 0)))) (line d (get_or ds top (pos 0))) (get_or shape top 0)
          (λ k h. ap₂ (λ (a b : ℤ). a +ℤ start_at starts offsets strides limits b count) (units-place s top shape ss k (omega arith) (omega arith) l.units h) (units-place t top shape ts k (omega arith) (omega arith) l.units h))
          (λ k h. units-place d top shape ds k (omega arith) (omega arith) l.units h) x)
          ∙ ap (λ (n : ℕ). in_order (cell_at z rule src (from (suc top)) (place_at d shape ds (suc top))) n x) (sym (units-product top shape (omega arith) l.units))

      -- THE LAW OF LEVELS
      level-is : (low wide top sn dn : ℕ) → GatherLevel starts offsets strides limits count s t d shape ss ts ds low wide (suc top) sn dn → (x : List A)
          → in_order (below s t d (get_or ss top (pos 0)) (get_or ts top (pos 0)) (get_or ds top (pos 0)) top) (get_or shape top 0) x ≡ gathered_by z rule src starts offsets strides limits count s t d shape ss ts ds (suc top) x
      level-is low wide top sn dn l x =
          let le = l.walk.source.extents in
          let ls = l.walk.source.strided in
          let lt = l.walk.index.strided in
          let ld = l.walk.dest.strided in
          let p : AllPos (take top shape) = (positive-top shape top (omega arith) l.positive).0 in
          let n : ℕ = product (take top shape) in
          same-turns (below s t d (get_or ss top (pos 0)) (get_or ts top (pos 0)) (get_or ds top (pos 0)) top) (λ j. in_order (λ i. cell_at z rule src (from (suc top)) (place_at d shape ds (suc top)) (i + n * j)) n) (get_or shape top 0)
          (λ j h. same-places z rule src (moved_at starts offsets strides limits count (place_at (line s (get_or ss top (pos 0)) j) shape ss top) (place_at (line t (get_or ts top (pos 0)) j) shape ts top)) (place_at (line d (get_or ds top (pos 0)) j) shape ds top)
          (λ i. from (suc top) (i + n * j)) (λ i. place_at d shape ds (suc top) (i + n * j)) n
          (λ i g. ap₂ (λ (a b : ℤ). a +ℤ start_at starts offsets strides limits b count) (sym (place-top shape top (omega arith) s ss (omega arith) p i j g h)) (sym (place-top shape top (omega arith) t ts (omega arith) p i j g h)))
          (λ i g. sym (place-top shape top (omega arith) d ds (omega arith) p i j g h)))
          x
          ∙ sym (in-runs (cell_at z rule src (from (suc top)) (place_at d shape ds (suc top))) n (get_or shape top 0) x)
          ∙ ap (λ (k : ℕ). in_order (cell_at z rule src (from (suc top)) (place_at d shape ds (suc top))) k x) (sym (product-top shape top (omega arith)))

-- ---- the same as the machine has it: numbers read back, and `top` for `rank - 1`
module _ (starts offsets strides : List ℤ) (limits : List ℕ) (count : ℕ) (s t d : ℤ) (shape : List ℕ) (ss ts ds : List ℤ) (low wide rank sn dn : ℕ) (w : GatherLevel starts offsets strides limits count s t d shape ss ts ds low wide rank sn dn) (fs : SFits w64 s) (ft : SFits w64 t) (fd : SFits w64 d) where
  -- only axes that move no start
  module _ (few : rank ≤ wide) (r : sn < 2 ^ 63) where
    pub start-asks : Starting starts offsets strides limits (read s) (read t) count (2 ^ 63 - 1)
    start-asks = simp (back fs, back ft) (wider starts offsets strides limits s t count sn (2 ^ 63 - 1) (omega arith) (first-start starts offsets strides limits count shape ss ts ds s t d low wide rank sn dn w few))

    module _ (a : ℤ) (e : a ≡ read s +ℤ start_at starts offsets strides limits (read t) count) where
      base-is : a ≡ s +ℤ start_at starts offsets strides limits t count
      base-is = e ∙ ap₂ (λ (u v : ℤ). u +ℤ start_at starts offsets strides limits v count) (back fs) (back ft)

      base-fits : SFits w64 a
      base-fits = in-fits a sn (subst (InSlice sn) (sym base-is) ((first-start starts offsets strides limits count shape ss ts ds s t d low wide rank sn dn w few).partly count (omega arith))) r

      pub window-asks : Level (read a) (read d) shape ss ds low rank sn dn
      window-asks =
          subst (λ (x : ℤ). Level x (read d) shape ss ds low rank sn dn) (sym (back base-fits ∙ base-is))
          (subst (λ (x : ℤ). Level (s +ℤ start_at starts offsets strides limits t count) x shape ss ds low rank sn dn) (sym (back fd)) (window-level starts offsets strides limits count shape ss ts ds s t d low wide rank sn dn w few))

      pub window-end : {A : Type 0} (z : A) (rule : A → A → A) (src x y : List A) → y ≡ windowed z rule src (read a) (read d) shape ss ds rank x → y ≡ gathered_by z rule src starts offsets strides limits count s t d shape ss ts ds rank x
      window-end z rule src x y h =
          h
          ∙ ap₂ (λ (u v : ℤ). windowed z rule src u v shape ss ds rank x) (back base-fits ∙ base-is) (back fd)
          ∙ window-is starts offsets strides limits count shape ss ts ds s t d low wide rank sn dn w few z rule src x

  module _ (top : ℕ) (e : rank ≡ suc top) (fa : SFits w64 (get_or ss top (pos 0))) (fb : SFits w64 (get_or ts top (pos 0))) (fc : SFits w64 (get_or ds top (pos 0))) where
    here : GatherLevel starts offsets strides limits count s t d shape ss ts ds low wide (suc top) sn dn
    here = subst (λ (r : ℕ). GatherLevel starts offsets strides limits count s t d shape ss ts ds low wide r sn dn) e w

    -- what is computed at place j of the last axis
    module _ (r : sn < 2 ^ 63) (q : dn < 2 ^ 63) (j : ℕ) (h : j < get_or shape top 0) where
      cells : AllPos (take top shape)
      cells = (positive-top shape top (omega (arith, here.walk.source.extents)) here.positive).0

      pub step-source : Step s (get_or ss top (pos 0)) j sn
      step-source = step s (get_or ss top (pos 0)) (get_or shape top 0) sn fs fa (region-bases s shape ss top sn here.walk.source cells) r j h

      pub step-index : Step t (get_or ts top (pos 0)) j (2 ^ 63 - 1)
      step-index = step t (get_or ts top (pos 0)) (get_or shape top 0) (2 ^ 63 - 1) ft fb (region-bases t shape ts top (2 ^ 63 - 1) here.walk.index cells) (omega arith) j h

      pub step-dest : Step d (get_or ds top (pos 0)) j dn
      step-dest = step d (get_or ds top (pos 0)) (get_or shape top 0) dn fd fc (region-bases d shape ds top dn here.walk.dest cells) q j h

      pub step-level : low < top
          → GatherLevel starts offsets strides limits count (machine s (get_or ss top (pos 0)) j) (machine t (get_or ts top (pos 0)) j) (machine d (get_or ds top (pos 0)) j) shape ss ts ds low wide top sn dn
      step-level k =
          subst (λ (x : ℤ). GatherLevel starts offsets strides limits count x (machine t (get_or ts top (pos 0)) j) (machine d (get_or ds top (pos 0)) j) shape ss ts ds low wide top sn dn) (sym step-source.is)
          (subst (λ (x : ℤ). GatherLevel starts offsets strides limits count (line s (get_or ss top (pos 0)) j) x (machine d (get_or ds top (pos 0)) j) shape ss ts ds low wide top sn dn) (sym step-index.is)
          (subst (λ (x : ℤ). GatherLevel starts offsets strides limits count (line s (get_or ss top (pos 0)) j) (line t (get_or ts top (pos 0)) j) x shape ss ts ds low wide top sn dn) (sym step-dest.is)
          (level-below starts offsets strides limits count shape ss ts ds s t d low wide top sn dn here k j h)))

    run-here : top ≡ low → GatherLevel starts offsets strides limits count s t d shape ss ts ds top wide (suc top) sn dn
    run-here g = subst (λ (k : ℕ). GatherLevel starts offsets strides limits count s t d shape ss ts ds k wide (suc top) sn dn) (sym g) here

    pub run-asks : top ≡ low → Taking starts offsets strides limits count (read s) (read t) (read d) (read (get_or ss top (pos 0))) (read (get_or ts top (pos 0))) (read (get_or ds top (pos 0))) (get_or shape top 0) sn dn
    run-asks g = simp (back fs, back ft, back fd, back fa, back fb, back fc) (taking starts offsets strides limits count shape ss ts ds s t d top wide sn dn (run-here g))

    module _ {A : Type 0} (z : A) (rule : A → A → A) (src : List A) where
      -- the loop's turns, by what it reads back
      abbrev pub level_at : ℕ → List A → List A
      level_at = below starts offsets strides limits count shape ss ts ds z rule src (read s) (read t) (read d) (read (get_or ss top (pos 0))) (read (get_or ts top (pos 0))) (read (get_or ds top (pos 0))) top

      pub levels-more : (j m n : ℕ) (x y u : List A) → Step s (get_or ss top (pos 0)) j m → Step t (get_or ts top (pos 0)) j (2 ^ 63 - 1) → Step d (get_or ds top (pos 0)) j n → y ≡ in_order level_at j x
          → u ≡ gathered_by z rule src starts offsets strides limits count (machine s (get_or ss top (pos 0)) j) (machine t (get_or ts top (pos 0)) j) (machine d (get_or ds top (pos 0)) j) shape ss ts ds top y → u ≡ in_order level_at (j + 1) x
      levels-more j m n x y u p o q f h =
          more level_at j x y u f
          (h ∙ ap₂ (λ (a b : ℤ). gathered_by z rule src starts offsets strides limits count a b (machine d (get_or ds top (pos 0)) j) shape ss ts ds top y) p.read_is o.read_is
          ∙ ap (λ (b : ℤ). gathered_by z rule src starts offsets strides limits count (line (read s) (read (get_or ss top (pos 0))) j) (line (read t) (read (get_or ts top (pos 0))) j) b shape ss ts ds top y) q.read_is)

      module _ (x y : List A) where
        at-rank : gathered_by z rule src starts offsets strides limits count s t d shape ss ts ds (suc top) x ≡ gathered_by z rule src starts offsets strides limits count s t d shape ss ts ds rank x
        at-rank = ap (λ (r : ℕ). gathered_by z rule src starts offsets strides limits count s t d shape ss ts ds r x) (sym e)

        pub levels-end : (j : ℕ) → j ≡ get_or shape top 0 → y ≡ in_order level_at j x → y ≡ gathered_by z rule src starts offsets strides limits count s t d shape ss ts ds rank x
        levels-end j g h =
            h
            ∙ ap₂ (λ (u v : ℤ). in_order (below starts offsets strides limits count shape ss ts ds z rule src u v (read d) (read (get_or ss top (pos 0))) (read (get_or ts top (pos 0))) (read (get_or ds top (pos 0))) top) j x) (back fs) (back ft)
            ∙ ap₂ (λ (u v : ℤ). in_order (below starts offsets strides limits count shape ss ts ds z rule src s t u v (read (get_or ts top (pos 0))) (read (get_or ds top (pos 0))) top) j x) (back fd) (back fa)
            ∙ ap₂ (λ (u v : ℤ). in_order (below starts offsets strides limits count shape ss ts ds z rule src s t d (get_or ss top (pos 0)) u v top) j x) (back fb) (back fc)
            ∙ ap (λ (k : ℕ). in_order (below starts offsets strides limits count shape ss ts ds z rule src s t d (get_or ss top (pos 0)) (get_or ts top (pos 0)) (get_or ds top (pos 0)) top) k x) g
            ∙ level-is starts offsets strides limits count shape ss ts ds z rule src s t d low wide top sn dn here x
            ∙ at-rank

        pub run_end : top ≡ low
            → y ≡ in_order (cell_at z rule src (moved_at starts offsets strides limits count (line (read s) (read (get_or ss top (pos 0)))) (line (read t) (read (get_or ts top (pos 0))))) (line (read d) (read (get_or ds top (pos 0))))) (get_or shape top 0) x
            → y ≡ gathered_by z rule src starts offsets strides limits count s t d shape ss ts ds rank x
        run_end g h =
            cells-end z rule src starts offsets strides limits count s t d (get_or ss top (pos 0)) (get_or ts top (pos 0)) (get_or ds top (pos 0)) (get_or shape top 0) (get_or shape top 0) x y fs ft fd fa fb fc refl h
            ∙ run_is starts offsets strides limits count shape ss ts ds z rule src s t d top wide sn dn (run-here g) x
            ∙ at-rank
