-- All the cells of a gather: with no axes there is one, and with an extent of 0 there is none. Assumes nothing.
use mathlib.Core.Path.{◌≡◌, sym, ap, ap₂, subst, ◌∙◌}
use mathlib.Core.Bool.{true}
use mathlib.Core.List.{List}
use Prim.Native.Nat.{ℕ, ◌-◌, ◌<◌, ◌^◌}
use native.Mathlib.Omega.{arith}
use lib.ListN.{take}
use lib.IntN.{ℤ, pos, ◌+ℤ◌}
use mir.Syntax.{w64}
use mir.Val.{SFits}
use Rattle.integer.specs.Z.{back}
use Rattle.indexing.specs.Coordinates.{product, InSlice}
use Rattle.indexing.specs.Odometer.{AllPos}
use Rattle.indexing.specs.Loops.{in_order}
use Rattle.layout.specs.Laws.{no_cells}
use Rattle.layout.specs.Nested.{has_zero}
use Rattle.runs.specs.Runs.{cell_at, line, Line}
use Rattle.runs.proofs.Turns.{none, same-places}
use Rattle.runs.proofs.Place.{read, line-zero}
use Rattle.windows.specs.Windows.{place_at, Region, Units}
use Rattle.windows.proofs.Last.{place-first, only_zero}
use Rattle.indexed_runs.specs.IndexedRuns.{start_at, Starting, moved_at, Taking}
use Rattle.gather_windows.specs.Gathering.{gathered_by, Gathering, Still, GatherLevel}

module _ (starts offsets strides : List ℤ) (limits : List ℕ) (count : ℕ) (s t d : ℤ) (shape : List ℕ) (ss ts ds : List ℤ) (rank sn dn : ℕ) (w : Gathering starts offsets strides limits count s t d shape ss ts ds rank sn dn) (fs : SFits w64 s) (ft : SFits w64 t) (fd : SFits w64 d) where
  module _ (e : rank ≡ 0) where
    one : 0 < product (take rank shape)
    unfolding product
    one = subst (λ (k : ℕ). 0 < product (take k shape)) (sym e) (omega arith)

    one_line : (base : ℤ) (steps : List ℤ) (m : ℕ) → Region base shape steps rank m → Line base (pos 0) 1 m
    one_line base steps m r = record { few = omega arith; inside = only_zero (λ k. InSlice m (line base (pos 0) k)) (subst (InSlice m) (place-first base shape steps rank ∙ sym (line-zero base (pos 0))) (r.inside 0 one)) }

    pub one_cell : Taking starts offsets strides limits count (read s) (read t) (read d) (pos 0) (pos 0) (pos 0) 1 sn dn
    one_cell =
        simp (back fs, back ft, back fd)
        (record {
          source = one_line s ss sn w.source;
          index = one_line t ts (2 ^ 63 - 1) w.index;
          dest = one_line d ds dn w.dest;
          starting = only_zero (λ k. Starting starts offsets strides limits (line s (pos 0) k) (line t (pos 0) k) count sn)
              (subst (λ (x : ℤ). Starting starts offsets strides limits x (line t (pos 0) 0) count sn) (place-first s shape ss rank ∙ sym (line-zero s (pos 0)))
              (subst (λ (x : ℤ). Starting starts offsets strides limits (place_at s shape ss rank 0) x count sn) (place-first t shape ts rank ∙ sym (line-zero t (pos 0))) (w.starting 0 one)));
        })

    same : (b : ℤ) (us : List ℤ) (k : ℕ) → k < 1 → line b (pos 0) k ≡ place_at b shape us 0 k
    same b us = only_zero (λ k. line b (pos 0) k ≡ place_at b shape us 0 k) (line-zero b (pos 0) ∙ sym (place-first b shape us 0))

    pub one_end : {A : Type 0} (z : A) (rule : A → A → A) (src x y : List A)
        → y ≡ in_order (cell_at z rule src (moved_at starts offsets strides limits count (line (read s) (pos 0)) (line (read t) (pos 0))) (line (read d) (pos 0))) 1 x
        → y ≡ gathered_by z rule src starts offsets strides limits count s t d shape ss ts ds rank x
    unfolding product
    one_end z rule src x y h =
        h
        ∙ ap₂ (λ (u v : ℤ). in_order (cell_at z rule src (moved_at starts offsets strides limits count (line u (pos 0)) (line v (pos 0))) (line (read d) (pos 0))) 1 x) (back fs) (back ft)
        ∙ ap (λ (u : ℤ). in_order (cell_at z rule src (moved_at starts offsets strides limits count (line s (pos 0)) (line t (pos 0))) (line u (pos 0))) 1 x) (back fd)
        ∙ same-places z rule src (moved_at starts offsets strides limits count (line s (pos 0)) (line t (pos 0))) (line d (pos 0)) (moved_at starts offsets strides limits count (place_at s shape ss 0) (place_at t shape ts 0)) (place_at d shape ds 0) 1
        (λ k l. ap₂ (λ (u v : ℤ). u +ℤ start_at starts offsets strides limits v count) (same s ss k l) (same t ts k l)) (λ k l. same d ds k l) x
        ∙ ap (λ (r : ℕ). gathered_by z rule src starts offsets strides limits count s t d shape ss ts ds r x) (sym e)

  pub level-of : (low wide : ℕ) → low < rank → Units low shape → AllPos (take rank shape) → Still wide shape ts
      → GatherLevel starts offsets strides limits count (read s) (read t) (read d) shape ss ts ds low wide rank sn dn
  level-of low wide h u p q = simp (back fs, back ft, back fd) (record { below = h; units = u; positive = p; still = q; walk = w })

  pub level-end : {A : Type 0} (z : A) (rule : A → A → A) (src x y : List A) → y ≡ gathered_by z rule src starts offsets strides limits count (read s) (read t) (read d) shape ss ts ds rank x
      → y ≡ gathered_by z rule src starts offsets strides limits count s t d shape ss ts ds rank x
  level-end z rule src x y h =
      h ∙ ap₂ (λ (u v : ℤ). gathered_by z rule src starts offsets strides limits count u v (read d) shape ss ts ds rank x) (back fs) (back ft)
      ∙ ap (λ (u : ℤ). gathered_by z rule src starts offsets strides limits count s t u shape ss ts ds rank x) (back fd)

  pub nothing : {A : Type 0} (z : A) (rule : A → A → A) (src x : List A) → has_zero (take rank shape) ≡ true → x ≡ gathered_by z rule src starts offsets strides limits count s t d shape ss ts ds rank x
  nothing z rule src x e = none (cell_at z rule src (moved_at starts offsets strides limits count (place_at s shape ss rank) (place_at t shape ts rank)) (place_at d shape ds rank)) (product (take rank shape)) x (no_cells (take rank shape) e)
