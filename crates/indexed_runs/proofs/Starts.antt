-- The components of a start as the machine adds them. Assumes nothing.
use mathlib.Core.Path.{◌≡◌, sym, ap, ap₂, subst, ◌∙◌}
use mathlib.Core.Bool.{Bool}
use mathlib.Core.List.{List}
use Prim.Native.Nat.{ℕ, ◌+◌, ◌<◌, ◌≤◌, ◌^◌}
use native.Mathlib.Numerals.{add-one}
use native.Mathlib.Omega.{arith}
use lib.ListN.{length, get_or}
use lib.IntN.{ℤ, pos, ◌+ℤ◌, ◌*ℤ◌, +ℤ_assoc, +ℤ_idr}
use mir.Syntax.{w64}
use mir.Val.{SFits, to_z}
use Rattle.integer.specs.Z.{back, zfacts, <-from, <-to}
use Rattle.indexing.specs.Coordinates.{InSlice, element_at}
use Rattle.indexing.specs.Start.{clamp}
use Rattle.indexing.specs.Slid.{moved}
use Rattle.indexing.specs.Axes.{sum_of}
use Rattle.runs.proofs.Place.{read, in-fits, gap-fits, Index, index}
use Rattle.indexed_runs.specs.IndexedRuns.{component_at, start_at, component_moved, Starting}
use Rattle.indexed_runs.proofs.Places.{clamped-fits}

-- inside a slice is inside a longer one
pub in-wider : (m n : ℕ) (p : ℤ) → m ≤ n → InSlice m p → InSlice n p
in-wider m n p h (l, u) = (l, <-from p (pos n) (omega (arith, zfacts, <-to p (pos m) u)))

module _ (starts offsets strides : List ℤ) (limits : List ℕ) where
  pub start-next : (t : ℤ) (c : ℕ) → start_at starts offsets strides limits t (c + 1) ≡ start_at starts offsets strides limits t c +ℤ component_at starts offsets strides limits t c
  unfolding sum_of
  start-next t c = ap (start_at starts offsets strides limits t) (add-one c)

  pub none_yet : (s t : ℤ) → s ≡ s +ℤ start_at starts offsets strides limits t 0
  unfolding sum_of
  none_yet s t = sym (+ℤ_idr s)

  pub wider : (s t : ℤ) (count m n : ℕ) → m ≤ n → Starting starts offsets strides limits s t count m → Starting starts offsets strides limits s t count n
  wider s t count m n h w = record { few = w.few; small = w.small; reads = w.reads; partly = λ c l. in-wider m n _ h (w.partly c l) }

  module _ (s t : ℤ) (count m : ℕ) (w : Starting starts offsets strides limits s t count m) (r : m < 2 ^ 63) (fs : SFits w64 s) (ft : SFits w64 t) (c : ℕ) (h : c < count) (fo : SFits w64 (get_or offsets c (pos 0))) where
    -- where the component is read
    pub component-index : length starts < 2 ^ 63 → Index (read t +ℤ read (get_or offsets c (pos 0))) (length starts)
    component-index q = index _ (length starts) (subst (InSlice (length starts)) (sym (ap₂ ◌+ℤ◌ (back ft) (back fo))) (w.reads c h)) q

    -- whether it is moved, where i is its index
    pub component-moved : (i : ℕ) → pos i ≡ read t +ℤ read (get_or offsets c (pos 0)) → SFits w64 (get_or starts i (pos 0)) → (b : Bool) → b ≡ moved (read (get_or starts i (pos 0))) (get_or limits c 0) 0 → b ≡ component_moved starts offsets limits (read t) c
    component-moved i ei fx b e =
        e ∙ ap (λ (u : ℤ). moved u (get_or limits c 0) 0) (back fx)
        ∙ ap (λ (u : ℤ). moved (element_at (pos 0) starts u) (get_or limits c 0) 0) (ei ∙ ap (λ (v : ℤ). read t +ℤ v) (back fo))

    -- what is added, where a is the place so far, i the index of the component, x what is read there and y that clamped
    module _ (fk : SFits w64 (get_or strides c (pos 0))) (a : ℤ) (ea : a ≡ read s +ℤ start_at starts offsets strides limits (read t) c) (i : ℕ) (ei : pos i ≡ read t +ℤ read (get_or offsets c (pos 0)))
        (fx : SFits w64 (get_or starts i (pos 0))) (y : ℕ) (ey : pos y ≡ clamp (read (get_or starts i (pos 0))) (get_or limits c 0) 0) where
      pub start_fits : SFits w64 (pos y)
      start_fits = clamped-fits (read (get_or starts i (pos 0))) (get_or limits c 0) y (w.small c h) ey

      product_is : read (get_or strides c (pos 0)) *ℤ to_z w64 y ≡ component_at starts offsets strides limits t c
      product_is =
          ap₂ ◌*ℤ◌ (back fk)
          (back start_fits ∙ ey ∙ ap (λ (u : ℤ). clamp u (get_or limits c 0) 0) (back fx)
          ∙ ap (λ (u : ℤ). clamp (element_at (pos 0) starts u) (get_or limits c 0) 0) (ei ∙ ap₂ ◌+ℤ◌ (back ft) (back fo)))

      so_far : a ≡ s +ℤ start_at starts offsets strides limits t c
      so_far = ea ∙ ap₂ (λ (u v : ℤ). u +ℤ start_at starts offsets strides limits v c) (back fs) (back ft)

      next-in : InSlice m (a +ℤ component_at starts offsets strides limits t c)
      next-in =
          subst (InSlice m)
          (ap (λ (u : ℤ). s +ℤ u) (start-next t c) ∙ sym (+ℤ_assoc s (start_at starts offsets strides limits t c) (component_at starts offsets strides limits t c)) ∙ ap (λ (u : ℤ). u +ℤ component_at starts offsets strides limits t c) (sym so_far))
          (w.partly (c + 1) (omega arith))

      pub product-fits : SFits w64 (read (get_or strides c (pos 0)) *ℤ to_z w64 y)
      product-fits = subst (SFits w64) (sym product_is) (gap-fits a (component_at starts offsets strides limits t c) m (subst (InSlice m) (sym so_far) (w.partly c (omega arith))) next-in r)

      sum_is : a +ℤ read (read (get_or strides c (pos 0)) *ℤ to_z w64 y) ≡ a +ℤ component_at starts offsets strides limits t c
      sum_is = ap (λ (u : ℤ). a +ℤ u) (back product-fits ∙ product_is)

      pub sum_fits : SFits w64 (a +ℤ read (read (get_or strides c (pos 0)) *ℤ to_z w64 y))
      sum_fits = subst (SFits w64) (sym sum_is) (in-fits _ m next-in r)

      pub sum-next : read (a +ℤ read (read (get_or strides c (pos 0)) *ℤ to_z w64 y)) ≡ read s +ℤ start_at starts offsets strides limits (read t) (c + 1)
      sum-next =
          back sum_fits ∙ sum_is
          ∙ ap₂ ◌+ℤ◌ ea (ap (λ (u : ℤ). component_at starts offsets strides limits u c) (sym (back ft)))
          ∙ +ℤ_assoc (read s) (start_at starts offsets strides limits (read t) c) (component_at starts offsets strides limits (read t) c)
          ∙ ap (λ (u : ℤ). read s +ℤ u) (sym (start-next (read t) c))
