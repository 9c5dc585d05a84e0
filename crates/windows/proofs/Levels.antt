-- A window is the windows below the places of its last axis; below the last there is a run. Over any elements, any rule and any rank. Assumes nothing.
use mathlib.Core.Path.{◌≡◌, refl, sym, ap, ap₂, subst, ◌∙◌}
use mathlib.Core.Bool.{Bool, true, false, cond}
use mathlib.Core.List.{List}
use Prim.Native.Nat.{ℕ, suc, ◌+◌, ◌*◌, ◌<◌, ◌≤◌, ◌^◌}
use native.Mathlib.Omega.{arith}
use borrow.Author.Tests.{eqb-true, eqb-false}
use lib.Dec.{eqb}
use lib.ListN.{get_or, take}
use lib.IntN.{ℤ, pos}
use mir.Syntax.{w64}
use mir.Val.{SFits}
use Rattle.integer.specs.Z.{back}
use Rattle.indexing.specs.Coordinates.{product, InSlice}
use Rattle.indexing.specs.Odometer.{AllPos}
use Rattle.indexing.proofs.Fusion.{product-pos}
use Rattle.indexing.specs.Loops.{in_order}
use Rattle.runs.specs.Runs.{cell_at, line, Line, Run, Plane, run_at}
use Rattle.runs.proofs.Turns.{more, in-runs, same-turns, same-places}
use Rattle.runs.proofs.Place.{read, machine, Step, step}
use Rattle.runs.proofs.Runs.{runs-end, one-plane, one-row}
use Rattle.windows.specs.Windows.{place_at, windowed, Region, Units, row_count, Level}
use Rattle.windows.proofs.Last.{product-top, positive-top, place-top, digit-below, units-product, units-place, place-first}

-- ---- where the cells lie
module _ (base : ℤ) (shape : List ℕ) (strides : List ℤ) (top m : ℕ) (w : Region base shape strides (suc top) m) where
  -- below each place of the last axis
  pub region-below : AllPos (take top shape) → (j : ℕ) → j < get_or shape top 0 → Region (line base (get_or strides top (pos 0)) j) shape strides top m
  region-below p j h =
      let le = w.extents in
      let ls = w.strided in
      record {
        extents = omega arith;
        strided = omega arith;
        few = λ i l. w.few i (omega arith);
        inside = λ i l. subst (InSlice m) (place-top shape top (omega arith) base strides (omega arith) p i j l h)
            (w.inside (i + product (take top shape) * j) (subst (λ (q : ℕ). i + product (take top shape) * j < q) (sym (product-top shape top (omega arith))) (digit-below i (product (take top shape)) j (get_or shape top 0) l h)));
      }

  -- axes of one place below the last: a line
  pub region-line : Units top shape → Line base (get_or strides top (pos 0)) (get_or shape top 0) m
  region-line u =
      let le = w.extents in
      let ls = w.strided in
      record {
        few = w.few top (omega arith);
        inside = λ i l. subst (InSlice m) (units-place base top shape strides i (omega arith) (omega arith) u l) (w.inside i (subst (λ (q : ℕ). i < q) (sym (units-product top shape (omega arith) u)) l));
      }

  -- the bases of the windows below are places themselves
  pub region-bases : AllPos (take top shape) → Line base (get_or strides top (pos 0)) (get_or shape top 0) m
  region-bases p =
      let le = w.extents in
      record {
        few = w.few top (omega arith);
        inside = λ j h. subst (InSlice m) (place-first (line base (get_or strides top (pos 0)) j) shape strides top) ((region-below p j h).inside 0 (product-pos (take top shape) p));
      }

-- the axes below the last, at place j of it
pub level-below : (s d : ℤ) (shape : List ℕ) (ss ds : List ℤ) (low top sn dn : ℕ) → Level s d shape ss ds low (suc top) sn dn → low < top → (j : ℕ) → j < get_or shape top 0
    → Level (line s (get_or ss top (pos 0)) j) (line d (get_or ds top (pos 0)) j) shape ss ds low top sn dn
level-below s d shape ss ds low top sn dn l h j k =
    let w = l.window in
    let small = w.small in
    let p : AllPos (take top shape) = (positive-top shape top (omega (arith, w.source.extents)) l.positive).0 in
    record {
      below = h;
      units = l.units;
      positive = p;
      window = record { small = omega arith; source = region-below s shape ss top sn w.source p j k; dest = region-below d shape ds top dn w.dest p j k };
    }

-- one axis left: a run
pub level-run : (s d : ℤ) (shape : List ℕ) (ss ds : List ℤ) (top sn dn : ℕ) → Level s d shape ss ds top (suc top) sn dn → Run s d (get_or ss top (pos 0)) (get_or ds top (pos 0)) (get_or shape top 0) sn dn
level-run s d shape ss ds top sn dn l = record { source = region-line s shape ss top sn l.window.source l.units; dest = region-line d shape ds top dn l.window.dest l.units }

-- two axes left: a plane
pub level-plane : (s d : ℤ) (shape : List ℕ) (ss ds : List ℤ) (low sn dn : ℕ) → Level s d shape ss ds low (suc (suc low)) sn dn
    → Plane s d (get_or ss low (pos 0)) (get_or ds low (pos 0)) (get_or ss (suc low) (pos 0)) (get_or ds (suc low) (pos 0)) (get_or shape low 0) (get_or shape (suc low) 0) sn dn
level-plane s d shape ss ds low sn dn l =
    let w = l.window.source in
    let le = w.extents in
    record {
      some = (positive-top shape low (omega arith) (positive-top shape (suc low) (omega arith) l.positive).0).1;
      few = w.few (suc low) (omega arith);
      runs = λ j h. level-run (line s (get_or ss (suc low) (pos 0)) j) (line d (get_or ds (suc low) (pos 0)) j) shape ss ds low sn dn (level-below s d shape ss ds low (suc low) sn dn l (omega arith) j h);
    }

-- ---- what is done
module _ {A : Type 0} (z : A) (rule : A → A → A) (src : List A) (s d : ℤ) (shape : List ℕ) (ss ds : List ℤ) where
  -- the window below place j of the last axis
  abbrev pub below : ℤ → ℤ → ℕ → ℕ → List A → List A
  below a b top j = windowed z rule src (line s a j) (line d b j) shape ss ds top

  run_is : (top sn dn : ℕ) → Level s d shape ss ds top (suc top) sn dn → (x : List A)
      → in_order (cell_at z rule src (line s (get_or ss top (pos 0))) (line d (get_or ds top (pos 0)))) (get_or shape top 0) x ≡ windowed z rule src s d shape ss ds (suc top) x
  run_is top sn dn l x =
      let le = l.window.source.extents in
      let ls = l.window.source.strided in
      let ld = l.window.dest.strided in
      sym (same-places z rule src (place_at s shape ss (suc top)) (place_at d shape ds (suc top)) (line s (get_or ss top (pos 0))) (line d (get_or ds top (pos 0))) (get_or shape top 0)
      (λ k h. units-place s top shape ss k (omega arith) (omega arith) l.units h) (λ k h. units-place d top shape ds k (omega arith) (omega arith) l.units h) x)
      ∙ ap (λ (n : ℕ). in_order (cell_at z rule src (place_at s shape ss (suc top)) (place_at d shape ds (suc top))) n x) (sym (units-product top shape (omega arith) l.units))

  -- THE LAW OF LEVELS: a window is the windows below the places of its last axis
  level-is : (low top sn dn : ℕ) → Level s d shape ss ds low (suc top) sn dn → (x : List A)
      → in_order (below (get_or ss top (pos 0)) (get_or ds top (pos 0)) top) (get_or shape top 0) x ≡ windowed z rule src s d shape ss ds (suc top) x
  level-is low top sn dn l x =
      let le = l.window.source.extents in
      let ls = l.window.source.strided in
      let ld = l.window.dest.strided in
      let p : AllPos (take top shape) = (positive-top shape top (omega arith) l.positive).0 in
      let n : ℕ = product (take top shape) in
      same-turns (below (get_or ss top (pos 0)) (get_or ds top (pos 0)) top) (λ j. in_order (λ i. cell_at z rule src (place_at s shape ss (suc top)) (place_at d shape ds (suc top)) (i + n * j)) n) (get_or shape top 0)
      (λ j h. same-places z rule src (place_at (line s (get_or ss top (pos 0)) j) shape ss top) (place_at (line d (get_or ds top (pos 0)) j) shape ds top) (λ i. place_at s shape ss (suc top) (i + n * j)) (λ i. place_at d shape ds (suc top) (i + n * j)) n
      (λ i g. sym (place-top shape top (omega arith) s ss (omega arith) p i j g h)) (λ i g. sym (place-top shape top (omega arith) d ds (omega arith) p i j g h)))
      x
      ∙ sym (in-runs (cell_at z rule src (place_at s shape ss (suc top)) (place_at d shape ds (suc top))) n (get_or shape top 0) x)
      ∙ ap (λ (k : ℕ). in_order (cell_at z rule src (place_at s shape ss (suc top)) (place_at d shape ds (suc top))) k x) (sym (product-top shape top (omega arith)))

-- and so is a plane
plane-is : {A : Type 0} (z : A) (rule : A → A → A) (src : List A) (s d : ℤ) (shape : List ℕ) (ss ds : List ℤ) (low sn dn : ℕ) → Level s d shape ss ds low (suc (suc low)) sn dn → (x : List A)
    → in_order (run_at z rule src s d (get_or ss low (pos 0)) (get_or ds low (pos 0)) (get_or ss (suc low) (pos 0)) (get_or ds (suc low) (pos 0)) (get_or shape low 0)) (get_or shape (suc low) 0) x ≡ windowed z rule src s d shape ss ds (suc (suc low)) x
plane-is z rule src s d shape ss ds low sn dn l x =
    same-turns (run_at z rule src s d (get_or ss low (pos 0)) (get_or ds low (pos 0)) (get_or ss (suc low) (pos 0)) (get_or ds (suc low) (pos 0)) (get_or shape low 0)) (below z rule src s d shape ss ds (get_or ss (suc low) (pos 0)) (get_or ds (suc low) (pos 0)) (suc low)) (get_or shape (suc low) 0)
    (λ j h y. run_is z rule src (line s (get_or ss (suc low) (pos 0)) j) (line d (get_or ds (suc low) (pos 0)) j) shape ss ds low sn dn (level-below s d shape ss ds low (suc low) sn dn l (omega arith) j h) y)
    x
    ∙ level-is z rule src s d shape ss ds low (suc low) sn dn l x

-- ---- the same as the machine has it: numbers read back, and `top` for `rank - 1`
module _ (s d : ℤ) (shape : List ℕ) (ss ds : List ℤ) (low rank top sn dn : ℕ) (e : rank ≡ suc top) (w : Level s d shape ss ds low rank sn dn) where
  here : Level s d shape ss ds low (suc top) sn dn
  here = subst (λ (r : ℕ). Level s d shape ss ds low r sn dn) e w

  -- what is computed at place j of the last axis
  module _ (r : sn < 2 ^ 63) (q : dn < 2 ^ 63) (fs : SFits w64 s) (fd : SFits w64 d) (fa : SFits w64 (get_or ss top (pos 0))) (fb : SFits w64 (get_or ds top (pos 0))) (j : ℕ) (h : j < get_or shape top 0) where
    cells : AllPos (take top shape)
    cells = (positive-top shape top (omega (arith, here.window.source.extents)) here.positive).0

    pub step-source : Step s (get_or ss top (pos 0)) j sn
    step-source = step s (get_or ss top (pos 0)) (get_or shape top 0) sn fs fa (region-bases s shape ss top sn here.window.source cells) r j h

    pub step-dest : Step d (get_or ds top (pos 0)) j dn
    step-dest = step d (get_or ds top (pos 0)) (get_or shape top 0) dn fd fb (region-bases d shape ds top dn here.window.dest cells) q j h

    pub step-level : low < top → Level (machine s (get_or ss top (pos 0)) j) (machine d (get_or ds top (pos 0)) j) shape ss ds low top sn dn
    step-level k =
        subst (λ (x : ℤ). Level x (machine d (get_or ds top (pos 0)) j) shape ss ds low top sn dn) (sym step-source.is)
        (subst (λ (x : ℤ). Level (line s (get_or ss top (pos 0)) j) x shape ss ds low top sn dn) (sym step-dest.is) (level-below s d shape ss ds low top sn dn here k j h))

  -- one axis left or two: by which of the two `low` is
  by-axes : top ≤ low + 1 → (P : ℕ → ℕ → Type 0) → (top ≡ low → P low 1) → (top ≡ suc low → P (suc low) (get_or shape (suc low) 0)) → P top (row_count top low (get_or shape top 0))
  by-axes t P f g = go (eqb top low) refl
    where
      go : (c : Bool) → eqb top low ≡ c → P top (cond c 1 (get_or shape top 0))
      go true q = let k = eqb-true top low q in subst (λ (i : ℕ). P i 1) (sym k) (f k)
      go false q = let k : top ≡ suc low = omega (arith, eqb-false top low q, here.below) in subst (λ (i : ℕ). P i (get_or shape i 0)) (sym k) (g k)

  pub plane-read : top ≤ low + 1 → SFits w64 s → SFits w64 d → SFits w64 (get_or ss low (pos 0)) → SFits w64 (get_or ds low (pos 0)) → SFits w64 (get_or ss top (pos 0)) → SFits w64 (get_or ds top (pos 0))
      → Plane (read s) (read d) (read (get_or ss low (pos 0))) (read (get_or ds low (pos 0))) (read (get_or ss top (pos 0))) (read (get_or ds top (pos 0))) (get_or shape low 0) (row_count top low (get_or shape top 0)) sn dn
  plane-read t fs fd fx fy fa fb =
      simp (back fs, back fd, back fx, back fy, back fa, back fb)
      (by-axes t (λ k m. Plane s d (get_or ss low (pos 0)) (get_or ds low (pos 0)) (get_or ss k (pos 0)) (get_or ds k (pos 0)) (get_or shape low 0) m sn dn)
      (λ q. let l = subst (λ (k : ℕ). Level s d shape ss ds low (suc k) sn dn) q here in
      one-plane s d (get_or ss low (pos 0)) (get_or ds low (pos 0)) (get_or ss low (pos 0)) (get_or ds low (pos 0)) (get_or shape low 0) sn dn (positive-top shape low (omega (arith, l.window.source.extents)) l.positive).1 (level-run s d shape ss ds low sn dn l))
      (λ q. level-plane s d shape ss ds low sn dn (subst (λ (k : ℕ). Level s d shape ss ds low (suc k) sn dn) q here)))

  module _ {A : Type 0} (z : A) (rule : A → A → A) (src : List A) where
    -- the loop's turns, by what it reads back
    abbrev pub level_at : ℕ → List A → List A
    level_at = below z rule src (read s) (read d) shape ss ds (read (get_or ss top (pos 0))) (read (get_or ds top (pos 0))) top

    pub levels-more : (j m n : ℕ) (x y t : List A) → Step s (get_or ss top (pos 0)) j m → Step d (get_or ds top (pos 0)) j n → y ≡ in_order level_at j x
        → t ≡ windowed z rule src (machine s (get_or ss top (pos 0)) j) (machine d (get_or ds top (pos 0)) j) shape ss ds top y → t ≡ in_order level_at (j + 1) x
    levels-more j m n x y t p q f h =
        more level_at j x y t f (h ∙ ap₂ (λ (u v : ℤ). windowed z rule src u v shape ss ds top y) p.read_is q.read_is)

    module _ (fs : SFits w64 s) (fd : SFits w64 d) (fa : SFits w64 (get_or ss top (pos 0))) (fb : SFits w64 (get_or ds top (pos 0))) (x y : List A) where
      at-rank : windowed z rule src s d shape ss ds (suc top) x ≡ windowed z rule src s d shape ss ds rank x
      at-rank = ap (λ (r : ℕ). windowed z rule src s d shape ss ds r x) (sym e)

      pub levels-end : (j : ℕ) → j ≡ get_or shape top 0 → y ≡ in_order level_at j x → y ≡ windowed z rule src s d shape ss ds rank x
      levels-end j g h =
          h
          ∙ ap₂ (λ (u v : ℤ). in_order (below z rule src u v shape ss ds (read (get_or ss top (pos 0))) (read (get_or ds top (pos 0))) top) j x) (back fs) (back fd)
          ∙ ap₂ (λ (u v : ℤ). in_order (below z rule src s d shape ss ds u v top) j x) (back fa) (back fb)
          ∙ ap (λ (k : ℕ). in_order (below z rule src s d shape ss ds (get_or ss top (pos 0)) (get_or ds top (pos 0)) top) k x) g
          ∙ level-is z rule src s d shape ss ds low top sn dn here x
          ∙ at-rank

      pub plane-end : top ≤ low + 1 → SFits w64 (get_or ss low (pos 0)) → SFits w64 (get_or ds low (pos 0))
          → y ≡ in_order (run_at z rule src (read s) (read d) (read (get_or ss low (pos 0))) (read (get_or ds low (pos 0))) (read (get_or ss top (pos 0))) (read (get_or ds top (pos 0))) (get_or shape low 0)) (row_count top low (get_or shape top 0)) x
          → y ≡ windowed z rule src s d shape ss ds rank x
      plane-end t fx fy h =
          let n = row_count top low (get_or shape top 0) in
          runs-end z rule src s d (get_or ss low (pos 0)) (get_or ds low (pos 0)) (get_or ss top (pos 0)) (get_or ds top (pos 0)) (get_or shape low 0) n n x y fs fd fx fy fa fb refl h
          ∙ by-axes t (λ k m. in_order (run_at z rule src s d (get_or ss low (pos 0)) (get_or ds low (pos 0)) (get_or ss k (pos 0)) (get_or ds k (pos 0)) (get_or shape low 0)) m x ≡ windowed z rule src s d shape ss ds (suc k) x)
          (λ q. one-row z rule src s d (get_or ss low (pos 0)) (get_or ds low (pos 0)) (get_or ss low (pos 0)) (get_or ds low (pos 0)) (get_or shape low 0) x
          ∙ run_is z rule src s d shape ss ds low sn dn (subst (λ (k : ℕ). Level s d shape ss ds low (suc k) sn dn) q here) x)
          (λ q. plane-is z rule src s d shape ss ds low sn dn (subst (λ (k : ℕ). Level s d shape ss ds low (suc k) sn dn) q here) x)
          ∙ at-rank
