-- The window over the chosen axes: its cells lie in the slices, and what it leaves is the operand's copy. So is what the window over the given axes leaves. Any element type. Assumes nothing.
use mathlib.Core.Path.{◌≡◌, refl, sym, ap, ap₂, subst, ◌∙◌}
use mathlib.Core.List.{List, map}
use Prim.Native.Nat.{ℕ, ◌<◌, ◌≤◌, ◌^◌}
use native.Mathlib.Omega.{arith}
use lib.ListN.{length, take, get_or, length-take}
use lib.Seq.{get_or-take}
use lib.IntN.{ℤ}
use mir.Syntax.{w64}
use mir.Val.{SFits}
use Rattle.integer.specs.Z.{back}
use Rattle.indexing.specs.Coordinates.{product, InSlice}
use Rattle.indexing.specs.Odometer.{AllPos, offset_at}
use Rattle.indexing.proofs.Linear.{index-pos}
use Rattle.indexing.specs.Operand.{operand_copied}
use Rattle.layout.specs.Layouts.{rank_limit, padded}
use Rattle.runs.proofs.Place.{read}
use Rattle.runs.proofs.Turns.{none}
use Rattle.windows.specs.Windows.{windowed, Region, Window}
use Rattle.fused_axes.specs.declared.FusedAxis.{FusedAxis}
use Rattle.fused_axes.specs.declared.FusedAxes.{FusedAxes}
use Rattle.fused_axes.specs.Fusing.{cells_copied, dims, dsts, srcs, unit_axis, copy_axes, held_axes}
use Rattle.fused_axes.specs.Fused.{copied_is, operand-chosen, chosen-has, chosen-total}
use Rattle.fused_axes.proofs.Counts.{each-most, chosen-count, chosen-some, held-part, held-length}
use Rattle.operand_copy.specs.Views.{held_view, Cells}

-- ---- over arrays that a call returned, by the numbers that the machine holds
module _ (s d : ℤ) (ext : List ℕ) (ss ts : List ℤ) (rank : ℕ) (fs : SFits w64 s) (fd : SFits w64 d) where
  module _ (ext' : List ℕ) (ss' ts' : List ℤ) (a : ext' ≡ ext) (b : ss' ≡ ss) (c : ts' ≡ ts) where
    pub cells-by : (sn dn : ℕ) → Cells s d ext ss ts rank sn dn → Cells (read s) (read d) ext' ss' ts' rank sn dn
    cells-by sn dn w = rw (a, b, c) (simp (back fs, back fd) w)

    pub left_by : {A : Type 0} (z : A) (rule : A → A → A) (src x y : List A) → y ≡ windowed z rule src (read s) (read d) ext' ss' ts' rank x → y ≡ windowed z rule src s d ext ss ts rank x
    left_by z rule src x y e =
        e
        ∙ ap₂ (λ (p q : ℤ). windowed z rule src p q ext' ss' ts' rank x) (back fs) (back fd)
        ∙ ap (λ (l : List ℕ). windowed z rule src s d l ss' ts' rank x) a
        ∙ ap₂ (λ (l m : List ℤ). windowed z rule src s d ext l m rank x) b c

-- ---- the window
module _ (s d : ℤ) (ext : List ℕ) (ss ts : List ℤ) (rank sn dn : ℕ) (w : Window s d ext ss ts rank sn dn) where
  axes : List FusedAxis
  axes = copy_axes (take rank ext) (take rank ts) (take rank ss)

  short : length (take rank ext) ≤ rank_limit
  short = omega (arith, length-take rank ext, w.small)

  operand-strides : length (take rank ss) ≡ length (take rank ext)
  operand-strides = omega (arith, length-take rank ext, length-take rank ss, w.source.extents, w.source.strided)

  dest-strides : length (take rank ts) ≡ length (take rank ext)
  dest-strides = omega (arith, length-take rank ext, length-take rank ts, w.dest.extents, w.dest.strided)

  few-axes : length axes ≤ rank_limit
  unfolding axes
  few-axes = chosen-count (take rank ext) (take rank ts) (take rank ss) short

  -- what it leaves
  chosen_is : (f : FusedAxes) → f ≡ held_axes (copy_axes (take rank ext) (take rank ts) (take rank ss)) → {A : Type 0} (z : A) (from x : List A)
      → windowed z (λ y u. u) from s d (dims f.axes) (srcs f.axes) (dsts f.axes) f.rank x ≡ operand_copied z (held_view ext ss rank s) (held_view ext ts rank d) from x
  unfolding axes
  chosen_is f e z from x =
      let l : List FusedAxis = axes in
      ap (λ (g : FusedAxes). windowed z (λ y u. u) from s d (dims g.axes) (srcs g.axes) (dsts g.axes) g.rank x) e
      ∙ ap (λ (m : List ℕ). cells_copied z from s d m (take (length l) (srcs (padded rank_limit unit_axis l))) (take (length l) (dsts (padded rank_limit unit_axis l))) x) (held-part (λ (a : FusedAxis). a.dim) l few-axes)
      ∙ ap₂ (λ (m n : List ℤ). cells_copied z from s d (dims l) m n x) (held-part (λ (a : FusedAxis). a.src) l few-axes) (held-part (λ (a : FusedAxis). a.dst) l few-axes)
      ∙ operand-chosen z (held_view ext ss rank s) (held_view ext ts rank d) from x dest-strides operand-strides

  -- and where there are cells, few enough, they lie in the slices
  module _ (some : 0 < product (take rank ext)) (few : product (take rank ext) ≤ 2 ^ 63) where
    total : product (dims axes) ≡ product (take rank ext)
    unfolding axes
    total = chosen-total (take rank ext) (take rank ts) (take rank ss) dest-strides operand-strides

    positive-axes : AllPos (dims axes)
    positive-axes = index-pos (dims axes) 0 (omega (arith, total))

    small-axes : (i : ℕ) → i < length axes → get_or (dims (padded rank_limit unit_axis axes)) i 0 ≤ 2 ^ 63
    small-axes i h =
        let e : get_or (dims (padded rank_limit unit_axis axes)) i 0 ≡ get_or (dims axes) i 0 = sym (get_or-take (length axes) (dims (padded rank_limit unit_axis axes)) i 0 h) ∙ ap (λ (m : List ℕ). get_or m i 0) (held-part (λ (a : FusedAxis). a.dim) axes few-axes) in
        omega (arith, each-most (dims axes) i positive-axes, total)

    -- one side
    side : (base : ℤ) (f : FusedAxis → ℤ) (n : ℕ) → ((k : ℕ) → k < product (dims axes) → InSlice n (offset_at base (dims axes) (map f axes) k))
        → Region base (dims (padded rank_limit unit_axis axes)) (map f (padded rank_limit unit_axis axes)) (length axes) n
    side base f n g =
        let e : take (length axes) (dims (padded rank_limit unit_axis axes)) ≡ dims axes = held-part (λ (a : FusedAxis). a.dim) axes few-axes in
        let q : take (length axes) (map f (padded rank_limit unit_axis axes)) ≡ map f axes = held-part f axes few-axes in
        record {
          extents = omega (arith, held-length (λ (a : FusedAxis). a.dim) axes few-axes, few-axes);
          strided = omega (arith, held-length f axes few-axes, few-axes);
          few = small-axes;
          inside = λ k h. subst (λ (m : List ℤ). InSlice n (offset_at base (take (length axes) (dims (padded rank_limit unit_axis axes))) m k)) (sym q)
              (subst (λ (m : List ℕ). InSlice n (offset_at base m (map f axes) k)) (sym e) (g k (subst (λ (m : List ℕ). k < product m) e h)));
        }

    pub chosen-cells : (f : FusedAxes) → f ≡ held_axes (copy_axes (take rank ext) (take rank ts) (take rank ss)) → Cells s d (dims f.axes) (srcs f.axes) (dsts f.axes) f.rank sn dn
    unfolding axes
    chosen-cells f e =
        subst (λ (g : FusedAxes). Cells s d (dims g.axes) (srcs g.axes) (dsts g.axes) g.rank sn dn) (sym e)
        (record {
          some = chosen-some (take rank ext) (take rank ts) (take rank ss);
          positive = subst AllPos (sym (held-part (λ (a : FusedAxis). a.dim) axes few-axes)) positive-axes;
          window = record { small = few-axes; source = side s (λ (a : FusedAxis). a.src) sn reads; dest = side d (λ (a : FusedAxis). a.dst) dn writes };
        })
      where
        reads : (k : ℕ) → k < product (dims axes) → InSlice sn (offset_at s (dims axes) (srcs axes) k)
        reads k h = let u = chosen-has (take rank ext) (take rank ts) (take rank ss) dest-strides operand-strides s d k h in subst (λ (p : ℤ). InSlice sn p) u.2 (w.source.inside u.0 u.1)

        writes : (k : ℕ) → k < product (dims axes) → InSlice dn (offset_at d (dims axes) (dsts axes) k)
        writes k h = let u = chosen-has (take rank ext) (take rank ts) (take rank ss) dest-strides operand-strides s d k h in subst (λ (p : ℤ). InSlice dn p) u.3 (w.dest.inside u.0 u.1)

-- ---- over the given axes
pub given-cells : (s d : ℤ) (ext : List ℕ) (ss ts : List ℤ) (rank sn dn : ℕ) → Window s d ext ss ts rank sn dn → 0 < rank → 0 < product (take rank ext) → Cells s d ext ss ts rank sn dn
given-cells s d ext ss ts rank sn dn w h k = record { some = h; positive = index-pos (take rank ext) 0 k; window = w }

module _ {A : Type 0} (z : A) (s d : ℤ) (ext : List ℕ) (ss ts : List ℤ) (rank : ℕ) (from x : List A) where
  given_is : windowed z (λ y u. u) from s d ext ss ts rank x ≡ operand_copied z (held_view ext ss rank s) (held_view ext ts rank d) from x
  given_is = sym (copied_is z (held_view ext ss rank s) (held_view ext ts rank d) from x)

  -- where there are no cells nothing is done
  pub none_end : product (take rank ext) ≡ 0 → x ≡ operand_copied z (held_view ext ss rank s) (held_view ext ts rank d) from x
  none_end e = none _ (product (take rank ext)) x e ∙ given_is

  -- what the calls leave
  module _ (fs : SFits w64 s) (fd : SFits w64 d) (y : List A) where
    pub given-end : y ≡ windowed z (λ y u. u) from (read s) (read d) ext ss ts rank x → y ≡ operand_copied z (held_view ext ss rank s) (held_view ext ts rank d) from x
    given-end e = left_by s d ext ss ts rank fs fd ext ss ts refl refl refl z (λ y u. u) from x y e ∙ given_is

    pub chosen-end : (sn dn : ℕ) → Window s d ext ss ts rank sn dn → (f : FusedAxes) → f ≡ held_axes (copy_axes (take rank ext) (take rank ts) (take rank ss))
        → y ≡ windowed z (λ y u. u) from (read s) (read d) (dims f.axes) (srcs f.axes) (dsts f.axes) f.rank x → y ≡ operand_copied z (held_view ext ss rank s) (held_view ext ts rank d) from x
    chosen-end sn dn w f q e =
        left_by s d (dims f.axes) (srcs f.axes) (dsts f.axes) f.rank fs fd (dims f.axes) (srcs f.axes) (dsts f.axes) refl refl refl z (λ y u. u) from x y e ∙ chosen_is s d ext ss ts rank sn dn w f q z from x
