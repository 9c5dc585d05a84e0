-- Batches whose windows have one cell end in runs. Over any elements and any rank. Assumes nothing.
use mathlib.Core.Path.{◌≡◌, refl, sym, ap, subst, ◌∙◌}
use mathlib.Core.Bool.{Bool}
use mathlib.Core.List.{List}
use Prim.Native.Nat.{ℕ, suc, ◌+◌, ◌*◌, ◌-◌, ◌<◌, ◌^◌}
use native.Mathlib.Omega.{arith}
use lib.ListN.{length, get_or, take}
use lib.IntN.{ℤ, pos, ◌+ℤ◌}
use mir.Syntax.{w64}
use mir.Val.{SFits}
use Rattle.integer.specs.Z.{back}
use Rattle.indexing.specs.Coordinates.{product}
use Rattle.indexing.specs.Odometer.{AllPos}
use Rattle.indexing.specs.Loops.{in_order}
use Rattle.runs.specs.Runs.{cell_at, line}
use Rattle.runs.proofs.Turns.{same-places}
use Rattle.runs.proofs.Place.{read, machine, Step}
use Rattle.windows.specs.Windows.{place_at, windowed}
use Rattle.windows.proofs.Last.{product-top, positive-top, units-product, units-place}
use Rattle.windows.proofs.Levels.{region-line}
use Rattle.indexed_runs.specs.IndexedRuns.{start_at, start_moved, starts_moved, Starting, moved_at, Putting}
use Rattle.indexed_runs.proofs.Puts.{puts-end}
use Rattle.scatter_windows.specs.Scattering.{put_by, PutLevel}
use Rattle.scatter_windows.proofs.Batches.{step-places}
use Rattle.scatter_windows.proofs.Counted.{parts_below, counted-run, counted-more, counted-end}

module _ {A : Type 0} (z : A) (rule : A → A → A) (src : List A) (starts offsets strides : List ℤ) (limits : List ℕ) (count : ℕ) where
  -- what is done at a batch whose start is read at x and whose first update is at y: where its window has one cell, and else
  abbrev pub put : ℤ → ℤ → ℤ → List A → List A
  put d x y = cell_at z rule src (λ _. y) (λ _. d +ℤ start_at starts offsets strides limits x count) 0

  abbrev pub land : List ℕ → List ℤ → List ℤ → ℕ → ℤ → ℤ → ℤ → List A → List A
  land shape ws ds rank d x y = windowed z rule src y (d +ℤ start_at starts offsets strides limits x count) shape ws ds rank

-- ---- windows of one cell: one axis left
module _ (starts offsets strides : List ℤ) (limits : List ℕ) (count : ℕ) (t u d : ℤ) (shape : List ℕ) (ts us : List ℤ) (top sn dn : ℕ) (l : PutLevel starts offsets strides limits count t u d shape ts us top (suc top) sn dn) where
  putting : Putting starts offsets strides limits count u t d (get_or us top (pos 0)) (get_or ts top (pos 0)) (get_or shape top 0) sn dn
  putting =
      let w = l.places in
      let le = w.index.extents in
      let lt = w.index.strided in
      record {
        source = region-line u shape us top sn w.updates l.units;
        index = region-line t shape ts top (2 ^ 63 - 1) w.index l.units;
        starting = λ k h.
            subst (λ (x : ℤ). Starting starts offsets strides limits d x count dn) (units-place t top shape ts k (omega arith) (omega arith) l.units h)
            (w.each k (subst (λ (q : ℕ). k < q) (sym (units-product top shape (omega arith) l.units)) h));
      }

  run_is : {A : Type 0} (z : A) (rule : A → A → A) (src x : List A)
      → in_order (cell_at z rule src (line u (get_or us top (pos 0))) (moved_at starts offsets strides limits count (λ _. d) (line t (get_or ts top (pos 0))))) (get_or shape top 0) x
      ≡ put_by z rule src starts offsets strides limits count t u d shape ts us (suc top) x
  run_is z rule src x =
      let le = l.places.index.extents in
      let lt = l.places.index.strided in
      let lu = l.places.updates.strided in
      sym (same-places z rule src (place_at u shape us (suc top)) (moved_at starts offsets strides limits count (λ _. d) (place_at t shape ts (suc top))) (line u (get_or us top (pos 0))) (moved_at starts offsets strides limits count (λ _. d) (line t (get_or ts top (pos 0)))) (get_or shape top 0)
      (λ k h. units-place u top shape us k (omega arith) (omega arith) l.units h)
      (λ k h. ap (λ (a : ℤ). d +ℤ start_at starts offsets strides limits a count) (units-place t top shape ts k (omega arith) (omega arith) l.units h)) x)
      ∙ ap (λ (n : ℕ). in_order (cell_at z rule src (place_at u shape us (suc top)) (moved_at starts offsets strides limits count (λ _. d) (place_at t shape ts (suc top)))) n x) (sym (units-product top shape (omega arith) l.units))

-- ---- the same as the machine has it: numbers read back, and `top` for `rank - 1`
module _ (starts offsets strides : List ℤ) (limits : List ℕ) (count : ℕ) (t u d : ℤ) (shape : List ℕ) (ts us : List ℤ) (low rank sn dn : ℕ) (w : PutLevel starts offsets strides limits count t u d shape ts us low rank sn dn) (ft : SFits w64 t) (fu : SFits w64 u) (fd : SFits w64 d)
    (top : ℕ) (e : rank ≡ suc top) (fa : SFits w64 (get_or ts top (pos 0))) (fc : SFits w64 (get_or us top (pos 0))) where
  pub step-put : sn < 2 ^ 63 → (j : ℕ) → j < get_or shape top 0 → low < top
      → PutLevel starts offsets strides limits count (machine t (get_or ts top (pos 0)) j) (machine u (get_or us top (pos 0)) j) (read d) shape ts us low top sn dn
  step-put r j h k = record { below = k; units = w.units; places = step-places (λ d x y. Starting starts offsets strides limits d x count dn) t u d shape ts us rank sn w.places ft fu fd top e fa fc r j h }

  run-here : top ≡ low → PutLevel starts offsets strides limits count t u d shape ts us top (suc top) sn dn
  run-here g = subst (λ (k : ℕ). PutLevel starts offsets strides limits count t u d shape ts us k (suc top) sn dn) (sym g) (subst (λ (r : ℕ). PutLevel starts offsets strides limits count t u d shape ts us low r sn dn) e w)

  pub run-asks : top ≡ low → Putting starts offsets strides limits count (read u) (read t) (read d) (read (get_or us top (pos 0))) (read (get_or ts top (pos 0))) (get_or shape top 0) sn dn
  run-asks g = simp (back ft, back fu, back fd, back fa, back fc) (putting starts offsets strides limits count t u d shape ts us top sn dn (run-here g))

  pub run_end : {A : Type 0} (z : A) (rule : A → A → A) (src x y : List A) → top ≡ low
      → y ≡ in_order (cell_at z rule src (line (read u) (read (get_or us top (pos 0)))) (moved_at starts offsets strides limits count (λ _. read d) (line (read t) (read (get_or ts top (pos 0)))))) (get_or shape top 0) x
      → y ≡ put_by z rule src starts offsets strides limits count t u d shape ts us rank x
  run_end z rule src x y g h =
      puts-end z rule src starts offsets strides limits count u t d (get_or us top (pos 0)) (get_or ts top (pos 0)) (get_or shape top 0) (get_or shape top 0) x y fu ft fd fc fa refl h
      ∙ run_is starts offsets strides limits count t u d shape ts us top sn dn (run-here g) z rule src x
      ∙ ap (λ (r : ℕ). put_by z rule src starts offsets strides limits count t u d shape ts us r x) (sym e)

  -- ---- how many of the batches have a start that is moved
  abbrev flag : ℤ → Bool
  flag x = start_moved starts offsets limits x count

  shape-room : top < length shape
  shape-room = omega (arith, w.places.index.extents)

  steps-room : top < length ts
  steps-room = omega (arith, w.places.index.strided)

  pub run-count : (c : ℕ) → top ≡ low → c ≡ starts_moved starts offsets limits count (get_or shape top 0) (line (read t) (read (get_or ts top (pos 0)))) → c ≡ starts_moved starts offsets limits count (product (take rank shape)) (place_at t shape ts rank)
  run-count c g h = counted-run flag shape ts t rank top e shape-room steps-room ft c fa (run-here g).units h

  pub part-fits : (j c d : ℕ) (x : ℤ) → j < get_or shape top 0 → c ≡ starts_moved starts offsets limits count (product (take top shape) * j) (place_at (read t) shape ts rank) → d ≡ starts_moved starts offsets limits count (product (take top shape)) (place_at x shape ts top) → c + d < 2 ^ 64
  part-fits j c d x h ec ed =
      let f : product (take (suc top) shape) < 2 ^ 64 = subst (λ (r : ℕ). product (take r shape) < 2 ^ 64) e w.places.few-batches in
      omega (arith, f, product-top shape top shape-room, parts_below (product (take top shape)) j (get_or shape top 0) _ _ c d h ec ed)

  pub part-more : (j m c d : ℕ) → j < get_or shape top 0 → Step t (get_or ts top (pos 0)) j m
      → c ≡ starts_moved starts offsets limits count (product (take top shape) * j) (place_at (read t) shape ts rank) → d ≡ starts_moved starts offsets limits count (product (take top shape)) (place_at (machine t (get_or ts top (pos 0)) j) shape ts top)
      → c + d ≡ starts_moved starts offsets limits count (product (take top shape) * (j + 1)) (place_at (read t) shape ts rank)
  part-more j m c d h q ec ed =
      let p : AllPos (take (suc top) shape) = subst (λ (r : ℕ). AllPos (take r shape)) e w.places.positive in
      counted-more flag shape ts t rank top e shape-room steps-room ft (positive-top shape top shape-room p).0 j m c d h q ec ed

  pub parts-end : (j c : ℕ) → j ≡ get_or shape top 0 → c ≡ starts_moved starts offsets limits count (product (take top shape) * j) (place_at (read t) shape ts rank) → c ≡ starts_moved starts offsets limits count (product (take rank shape)) (place_at t shape ts rank)
  parts-end j c g h = counted-end flag shape ts t rank top e shape-room steps-room ft j c g h
