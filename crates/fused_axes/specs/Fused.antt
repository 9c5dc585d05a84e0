-- The copy over the fused axes is the operand's copy where no two cells of the destination share a place, and in general it is not; over the axes in their order it always is. For any rank and any element type. Assumes nothing.
use Rattle.std.specs.Prelude.{◌≡◌, Bool, not, ℕ, ◌<◌, length, ℤ, ◌+ℤ◌}
use Rattle.std.proofs.Math.Path.{refl, ap, subst}
use Rattle.std.proofs.Common.{sym, ap₂, ◌∙◌, arith}
use Rattle.std.proofs.Math.Bool.{true, false, cond}
use mathlib.Core.List.{List, [], ◌∷◌}
use Rattle.std.proofs.Math.Nat.{zero-mul}
use Rattle.std.proofs.Math.IntN.{+ℤ_comm}
use Rattle.integer.specs.Tests.{and-true}
use Rattle.integer.specs.Laws.{+ℤ-cancel-r}
use Rattle.indexing.specs.Coordinates.{View, product, unravel, dot, Within, element_at, store}
use Rattle.indexing.specs.Odometer.{offset_at}
use Rattle.indexing.proofs.Linear.{unravel-within, unravel-one}
use Rattle.indexing.specs.Loops.{in_order}
use Rattle.indexing.proofs.Loops.{in_order-same}
use Rattle.indexing.specs.Operand.{cell_place, operand_copied}
use Rattle.indexing.proofs.OperandCells.{cell-offset, copied-loop}
use Rattle.layout.specs.Nested.{has_zero, nested}
use Rattle.layout.specs.Distinct.{nested-distinct}
use Rattle.layout.specs.Laws.{no_cells}
use Rattle.fused_axes.specs.declared.FusedAxis.{FusedAxis}
use Rattle.fused_axes.specs.Fusing.{copy_turn, cells_copied, axes_copied, dims, dsts, srcs, axes_of, long_axes, sorted, merged, zero_axis, fused, kept, rising, sorts, copy_axes}
use Rattle.fused_axes.specs.Copies.{Has}
use Rattle.fused_axes.specs.Same.{Same, long_same, merged-same, same-copied}
use Rattle.fused_axes.specs.Orders.{read_at, write_at, Once, has-cell, sorted-alike, product-sorted, alike-copied}

-- axes are put into another order only where they are nested
sorts-nested : (ds : List ℕ) (ts : List ℤ) → sorts ds ts ≡ true → nested ds ts ≡ true
unfolding sorts
sorts-nested ds ts e = (and-true (not (rising ts)) (nested ds ts) e).1

-- no two coordinates share an offset
abbrev pub Apart : List ℕ → List ℤ → Type 0
Apart ds ts = (cs es : List ℕ) → Within ds cs → Within ds es → dot ts cs ≡ dot ts es → cs ≡ es

pub nested-apart : (ds : List ℕ) (ts : List ℤ) → length ts ≡ length ds → nested ds ts ≡ true → Apart ds ts
nested-apart ds ts l n cs es w x e = nested-distinct ds ts cs es l n w x e

-- so no two cells share a place
pub apart-one : (ds : List ℕ) (ts : List ℤ) → Apart ds ts → (d : ℤ) (k m : ℕ) → k < product ds → m < product ds → offset_at d ds ts k ≡ offset_at d ds ts m → k ≡ m
unfolding offset_at
apart-one ds ts apart d k m h g e =
    let a : ℤ = dot ts (unravel ds k) in
    let b : ℤ = dot ts (unravel ds m) in
    unravel-one ds k m h g (apart (unravel ds k) (unravel ds m) (unravel-within ds k h) (unravel-within ds m g) (+ℤ-cancel-r a b d (+ℤ_comm a d ∙ e ∙ +ℤ_comm d b)))

-- ---- the operand's copy, by extents and strides
pub copied_is : {A : Type 0} (z : A) (operand result : View) (from into : List A)
    → operand_copied z operand result from into ≡ cells_copied z from operand.offset result.offset result.extents operand.strides result.strides into
copied_is {A} z operand result from into =
    copied-loop z operand result from into
    ∙ in_order-same (λ k x. store x (cell_place result result.extents k) (element_at z from (cell_place operand result.extents k)))
    (copy_turn z from (offset_at operand.offset result.extents operand.strides) (offset_at result.offset result.extents result.strides)) (product result.extents) into
    (λ k x. ap₂ (λ (a b : ℤ). store x b (element_at z from a)) (cell-offset operand result.extents k) (cell-offset result result.extents k))

-- ---- the axes as they were given
pub dims-of : (ds : List ℕ) (ts ss : List ℤ) → length ts ≡ length ds → length ss ≡ length ds → (dims (axes_of ds ts ss) ≡ ds) × (dsts (axes_of ds ts ss) ≡ ts) × (srcs (axes_of ds ts ss) ≡ ss)
unfolding axes_of
dims-of [] [] [] a b = (refl, refl, refl)
dims-of [] [] (s ∷ ss) a b = absurd (omega arith)
dims-of [] (t ∷ ts) ss a b = absurd (omega arith)
dims-of (d ∷ ds) [] ss a b = absurd (omega arith)
dims-of (d ∷ ds) (t ∷ ts) [] a b = absurd (omega arith)
dims-of (d ∷ ds) (t ∷ ts) (s ∷ ss) a b =
    let u = dims-of ds ts ss (omega arith) (omega arith) in
    (ap (λ (l : List ℕ). d ∷ l) u.0, ap (λ (l : List ℤ). t ∷ l) u.1, ap (λ (l : List ℤ). s ∷ l) u.2)

module _ (ds : List ℕ) (ts ss : List ℤ) (lt : length ts ≡ length ds) (ls : length ss ≡ length ds) where
  given : List FusedAxis
  given = axes_of ds ts ss

  long : List FusedAxis
  long = long_axes given

  -- what holds of the given axes holds of the extents and strides
  as-given : (P : List ℕ → List ℤ → List ℤ → Type 0) → P (dims given) (dsts given) (srcs given) → P ds ts ss
  unfolding given
  as-given P h =
      let u = dims-of ds ts ss lt ls in
      subst (λ (x : List ℤ). P ds ts x) u.2 (subst (λ (x : List ℤ). P ds x (srcs given)) u.1 (subst (λ (x : List ℕ). P x (dsts given) (srcs given)) u.0 h))

  from-given : (P : List ℕ → List ℤ → List ℤ → Type 0) → P ds ts ss → P (dims given) (dsts given) (srcs given)
  unfolding given
  from-given P h =
      let u = dims-of ds ts ss lt ls in
      subst (λ (x : List ℕ). P x (dsts given) (srcs given)) (sym u.0) (subst (λ (x : List ℤ). P ds x (srcs given)) (sym u.1) (subst (λ (x : List ℤ). P ds ts x) (sym u.2) h))

  long-given : Same given long
  unfolding long
  long-given = long_same given

  module _ (o d : ℤ) where
    once-given : Apart ds ts → Once o d given
    once-given apart k m hk hm e = apart-one (dims given) (dsts given) (from-given (λ x y w. Apart x y) apart) d k m hk hm e

    once-long : Apart ds ts → Once o d long
    unfolding offset_at
    once-long apart k m hk hm e =
        let s = long-given in
        once-given apart k m (subst (λ (n : ℕ). k < n) s.total hk) (subst (λ (n : ℕ). m < n) s.total hm)
        (ap (λ (x : ℤ). d +ℤ x) (sym (s.writes k)) ∙ e ∙ ap (λ (x : ℤ). d +ℤ x) (s.writes m))

    -- THE COPY OVER THE FUSED AXES
    pub fused-copied : {A : Type 0} (z : A) (from into : List A) → Apart ds ts → axes_copied z from o d (fused ds ts ss) into ≡ cells_copied z from o d ds ss ts into
    unfolding fused product in_order given long
    fused-copied {A} z from into apart = go (has_zero ds) refl
      where
        go : (t : Bool) → has_zero ds ≡ t → axes_copied z from o d (cond t (zero_axis ∷ []) (merged (sorted (long_axes (axes_of ds ts ss))))) into ≡ cells_copied z from o d ds ss ts into
        go true h = rw (no_cells ds h)
        go false h =
            same-copied z from o d (sorted long) (merged (sorted long)) into (merged-same (sorted long))
            ∙ alike-copied z from o d long (sorted long) into (sorted-alike long) (once-long apart)
            ∙ same-copied z from o d given long into long-given
            ∙ as-given (λ x y w. axes_copied z from o d given into ≡ cells_copied z from o d x w y into) refl

    -- THE COPY OVER THE AXES IN THEIR ORDER, whatever the layouts
    pub kept-copied : {A : Type 0} (z : A) (from into : List A) → axes_copied z from o d (kept ds ts ss) into ≡ cells_copied z from o d ds ss ts into
    unfolding kept given long
    kept-copied z from into =
        same-copied z from o d long (merged long) into (merged-same long)
        ∙ same-copied z from o d given long into long-given
        ∙ as-given (λ x y w. axes_copied z from o d given into ≡ cells_copied z from o d x w y into) refl

    -- and so over the axes chosen
    pub chosen-copied : {A : Type 0} (z : A) (from into : List A) → axes_copied z from o d (copy_axes ds ts ss) into ≡ cells_copied z from o d ds ss ts into
    unfolding copy_axes
    chosen-copied z from into = go (sorts ds ts) refl
      where
        go : (t : Bool) → sorts ds ts ≡ t → axes_copied z from o d (cond t (fused ds ts ss) (kept ds ts ss)) into ≡ cells_copied z from o d ds ss ts into
        go true n = fused-copied z from into (nested-apart ds ts lt (sorts-nested ds ts n))
        go false n = kept-copied z from into

    -- ---- where the cells are
    same-has : (l l' : List FusedAxis) → Same l l' → (k : ℕ) → k < product (dims l') → Has (read_at o d l) (write_at o d l) (product (dims l)) (read_at o d l' k) (write_at o d l' k)
    unfolding offset_at
    same-has l l' s k h = (k, subst (λ (n : ℕ). k < n) s.total h, ap (λ (x : ℤ). o +ℤ x) (sym (s.reads k)), ap (λ (x : ℤ). d +ℤ x) (sym (s.writes k)))

    has-then : (l m : List FusedAxis) (a b : ℤ) → ((k : ℕ) → k < product (dims m) → Has (read_at o d l) (write_at o d l) (product (dims l)) (read_at o d m k) (write_at o d m k))
        → Has (read_at o d m) (write_at o d m) (product (dims m)) a b → Has (read_at o d l) (write_at o d l) (product (dims l)) a b
    has-then l m a b f h = let u = f h.0 h.1 in (u.0, u.1, u.2 ∙ h.2, u.3 ∙ h.3)

    kept-has : (k : ℕ) → k < product (dims (merged long)) → Has (read_at o d given) (write_at o d given) (product (dims given)) (read_at o d (merged long) k) (write_at o d (merged long) k)
    kept-has k h =
        has-then given long (read_at o d (merged long) k) (write_at o d (merged long) k) (λ j b. same-has given long long-given j b) (same-has long (merged long) (merged-same long) k h)

    fused-has : (k : ℕ) → k < product (dims (merged (sorted long))) → Has (read_at o d given) (write_at o d given) (product (dims given)) (read_at o d (merged (sorted long)) k) (write_at o d (merged (sorted long)) k)
    fused-has k h =
        let l : List FusedAxis = merged (sorted long) in
        has-then given long (read_at o d l k) (write_at o d l k) (λ j b. same-has given long long-given j b)
        (has-then long (sorted long) (read_at o d l k) (write_at o d l k) (λ j b. has-cell o d (sorted long) long (sorted-alike long).back j b)
        (same-has (sorted long) l (merged-same (sorted long)) k h))

    -- every cell over the chosen axes is a cell of the extents
    pub chosen-has : (k : ℕ) → k < product (dims (copy_axes ds ts ss)) → Has (λ j. offset_at o ds ss j) (λ j. offset_at d ds ts j) (product ds) (read_at o d (copy_axes ds ts ss) k) (write_at o d (copy_axes ds ts ss) k)
    unfolding copy_axes fused kept given long product
    chosen-has k = go (sorts ds ts) (has_zero ds) k
      where
        go : (t u : Bool) (k : ℕ)
            → let l = cond t (cond u (zero_axis ∷ []) (merged (sorted long))) (merged long) in
            k < product (dims l) → Has (λ j. offset_at o ds ss j) (λ j. offset_at d ds ts j) (product ds) (read_at o d l k) (write_at o d l k)
        go true true k h = absurd (omega (arith, zero-mul 1))
        go true false k h = as-given (λ x y w. Has (λ j. offset_at o x w j) (λ j. offset_at d x y j) (product x) (read_at o d (merged (sorted long)) k) (write_at o d (merged (sorted long)) k)) (fused-has k h)
        go false u k h = as-given (λ x y w. Has (λ j. offset_at o x w j) (λ j. offset_at d x y j) (product x) (read_at o d (merged long) k) (write_at o d (merged long) k)) (kept-has k h)

  -- and there are as many
  pub chosen-total : product (dims (copy_axes ds ts ss)) ≡ product ds
  unfolding copy_axes fused kept given long product
  chosen-total = go (sorts ds ts) (has_zero ds) refl
    where
      back : product (dims given) ≡ product ds
      back = as-given (λ x y w. product (dims given) ≡ product x) refl

      go : (t u : Bool) → has_zero ds ≡ u → product (dims (cond t (cond u (zero_axis ∷ []) (merged (sorted long))) (merged long))) ≡ product ds
      go true true h = sym (no_cells ds h)
      go true false h = (merged-same (sorted long)).total ∙ product-sorted long ∙ long-given.total ∙ back
      go false u h = (merged-same long).total ∙ long-given.total ∙ back

-- THE OPERAND'S COPY goes over the chosen axes
pub operand-chosen : {A : Type 0} (z : A) (operand result : View) (from into : List A) → length result.strides ≡ length result.extents → length operand.strides ≡ length result.extents
    → axes_copied z from operand.offset result.offset (copy_axes result.extents result.strides operand.strides) into ≡ operand_copied z operand result from into
operand-chosen z operand result from into lt ls =
    chosen-copied result.extents result.strides operand.strides lt ls operand.offset result.offset z from into ∙ sym (copied_is z operand result from into)
