-- Cells that are put where starts say, read one by one, as the machine makes them. Assumes nothing.
use mathlib.Core.Path.{◌≡◌, sym, ap, ap₂, subst, ◌∙◌}
use mathlib.Core.List.{List}
use Prim.Native.Nat.{ℕ, ◌*◌, ◌-◌, ◌<◌, ◌^◌}
use native.Mathlib.Omega.{arith}
use lib.IntN.{ℤ, pos, nat_abs, ◌+ℤ◌}
use mir.Syntax.{w64}
use mir.Val.{SFits}
use Rattle.integer.specs.Z.{back}
use Rattle.indexing.specs.Coordinates.{InSlice}
use Rattle.indexing.specs.Loops.{in_order}
use Rattle.indexing.specs.Axes.{sum_of}
use Rattle.runs.specs.Runs.{cell_at, line, Run}
use Rattle.runs.proofs.Turns.{same-places}
use Rattle.runs.proofs.Place.{read, machine, Step, step, Index, index}
use Rattle.indexed_runs.specs.IndexedRuns.{start_at, Starting, moved_at, Putting}
use Rattle.indexed_runs.proofs.Starts.{wider}

module _ (starts offsets strides : List ℤ) (limits : List ℕ) (count : ℕ) (s t d ss ts : ℤ) (n sn dn : ℕ) (w : Putting starts offsets strides limits count s t d ss ts n sn dn) (i : ℕ) (h : i < n) where
  -- what is computed at cell i
  pub source-step : SFits w64 s → SFits w64 ss → sn < 2 ^ 63 → Step s ss i sn
  source-step fs fss r = step s ss n sn fs fss w.source r i h

  pub index-step : SFits w64 t → SFits w64 ts → Step t ts i (2 ^ 63 - 1)
  index-step ft fts = step t ts n (2 ^ 63 - 1) ft fts w.index (omega arith) i h

  module _ (q : Step t ts i (2 ^ 63 - 1)) (fd : SFits w64 d) (l : dn < 2 ^ 63) where
    asked : Starting starts offsets strides limits (read d) (machine t ts i) count dn
    asked = subst (λ (x : ℤ). Starting starts offsets strides limits x (machine t ts i) count dn) (sym (back fd)) (subst (λ (x : ℤ). Starting starts offsets strides limits d x count dn) (sym q.is) (w.starting i h))

    pub started-asks : Starting starts offsets strides limits (read d) (machine t ts i) count (2 ^ 63 - 1)
    started-asks = wider starts offsets strides limits _ _ count dn (2 ^ 63 - 1) (omega arith) asked

    -- where r is the place that was computed
    module _ (r : ℤ) (e : r ≡ read d +ℤ start_at starts offsets strides limits (machine t ts i) count) where
      pub place-index : Index r dn
      place-index = index r dn (subst (InSlice dn) (sym e) (asked.partly count (omega arith))) l

      pub place_is : pos (nat_abs (read r)) ≡ moved_at starts offsets strides limits count (λ _. read d) (line (read t) (read ts)) i
      place_is = place-index.is ∙ e ∙ ap (λ (v : ℤ). read d +ℤ start_at starts offsets strides limits v count) q.read_is

pub puts-end : {A : Type 0} (z : A) (rule : A → A → A) (src : List A) (starts offsets strides : List ℤ) (limits : List ℕ) (count : ℕ) (s t d ss ts : ℤ) (i n : ℕ) (x y : List A)
    → SFits w64 s → SFits w64 t → SFits w64 d → SFits w64 ss → SFits w64 ts → i ≡ n
    → y ≡ in_order (cell_at z rule src (line (read s) (read ss)) (moved_at starts offsets strides limits count (λ _. read d) (line (read t) (read ts)))) i x
    → y ≡ in_order (cell_at z rule src (line s ss) (moved_at starts offsets strides limits count (λ _. d) (line t ts))) n x
puts-end z rule src starts offsets strides limits count s t d ss ts i n x y fs ft fd fss fts e h =
    h
    ∙ same-places z rule src _ _ (line s ss) (moved_at starts offsets strides limits count (λ _. d) (line t ts)) i
    (λ k _. line-back s ss k fs fss) (λ k _. ap₂ (λ (u v : ℤ). u +ℤ start_at starts offsets strides limits v count) (back fd) (line-back t ts k ft fts)) x
    ∙ ap (λ (m : ℕ). in_order (cell_at z rule src (line s ss) (moved_at starts offsets strides limits count (λ _. d) (line t ts))) m x) e
  where
    line-back : (s ss : ℤ) (k : ℕ) → SFits w64 s → SFits w64 ss → line (read s) (read ss) k ≡ line s ss k
    line-back s ss k fs fss = ap₂ (λ (u v : ℤ). line u v k) (back fs) (back fss)

-- ---- where starts have no components: all cells are put on the element at d
module _ (starts offsets strides : List ℤ) (limits : List ℕ) (count : ℕ) (e : count ≡ 0) (s t d ss ts : ℤ) where
  still : (k : ℕ) → line d (pos 0) k ≡ moved_at starts offsets strides limits count (λ _. d) (line t ts) k
  unfolding sum_of
  still k =
      let h : 0 * k ≡ 0 = omega arith in
      ap (λ (m : ℕ). d +ℤ pos m) h ∙ ap (λ (c : ℕ). d +ℤ start_at starts offsets strides limits (line t ts k) c) (sym e)

  pub still-asks : (n sn dn : ℕ) → SFits w64 s → SFits w64 d → SFits w64 ss → Putting starts offsets strides limits count s t d ss ts n sn dn → Run (read s) (read d) (read ss) (pos 0) n sn dn
  still-asks n sn dn fs fd fss w =
      let r : Run s d ss (pos 0) n sn dn = record {
        source = w.source;
        dest = record { few = w.source.few; inside = λ i h. subst (InSlice dn) (sym (still i)) ((w.starting i h).partly count (omega arith)) };
      } in
      simp (back fs, back fd, back fss) r

  pub still-end : {A : Type 0} (z : A) (rule : A → A → A) (src : List A) (n : ℕ) (x y : List A) → SFits w64 s → SFits w64 d → SFits w64 ss
      → y ≡ in_order (cell_at z rule src (line (read s) (read ss)) (line (read d) (pos 0))) n x
      → y ≡ in_order (cell_at z rule src (line s ss) (moved_at starts offsets strides limits count (λ _. d) (line t ts))) n x
  still-end z rule src n x y fs fd fss h =
      h
      ∙ same-places z rule src _ _ (line s ss) (moved_at starts offsets strides limits count (λ _. d) (line t ts)) n
      (λ k _. ap₂ (λ (u v : ℤ). line u v k) (back fs) (back fss)) (λ k _. ap (λ (u : ℤ). line u (pos 0) k) (back fd) ∙ still k) x
