-- Cells whose starts are read one by one, as the machine makes them. Assumes nothing.
use mathlib.Core.Path.{◌≡◌, sym, ap, ap₂, subst, ◌∙◌}
use mathlib.Core.List.{List}
use Prim.Native.Nat.{ℕ, ◌-◌, ◌<◌, ◌^◌}
use native.Mathlib.Omega.{arith}
use lib.IntN.{ℤ, pos, nat_abs, ◌+ℤ◌}
use mir.Syntax.{w64}
use mir.Val.{SFits}
use Rattle.integer.specs.Z.{back}
use Rattle.indexing.specs.Coordinates.{InSlice}
use Rattle.indexing.specs.Loops.{in_order}
use Rattle.runs.specs.Runs.{cell_at, line}
use Rattle.runs.proofs.Turns.{same-places}
use Rattle.runs.proofs.Place.{read, machine, Step, step, Index, index}
use Rattle.indexed_runs.specs.IndexedRuns.{start_at, Starting, moved_at, Taking}
use Rattle.indexed_runs.proofs.Starts.{wider}

module _ (starts offsets strides : List ℤ) (limits : List ℕ) (count : ℕ) (s t d ss ts ds : ℤ) (n sn dn : ℕ) (w : Taking starts offsets strides limits count s t d ss ts ds n sn dn) (i : ℕ) (h : i < n) where
  -- what is computed at cell i
  pub source-step : SFits w64 s → SFits w64 ss → sn < 2 ^ 63 → Step s ss i sn
  source-step fs fss r = step s ss n sn fs fss w.source r i h

  pub index-step : SFits w64 t → SFits w64 ts → Step t ts i (2 ^ 63 - 1)
  index-step ft fts = step t ts n (2 ^ 63 - 1) ft fts w.index (omega arith) i h

  pub dest-step : SFits w64 d → SFits w64 ds → dn < 2 ^ 63 → Step d ds i dn
  dest-step fd fds r = step d ds n dn fd fds w.dest r i h

  module _ (p : Step s ss i sn) (q : Step t ts i (2 ^ 63 - 1)) where
    asked : Starting starts offsets strides limits (machine s ss i) (machine t ts i) count sn
    asked = subst (λ (x : ℤ). Starting starts offsets strides limits x (machine t ts i) count sn) (sym p.is) (subst (λ (x : ℤ). Starting starts offsets strides limits (line s ss i) x count sn) (sym q.is) (w.starting i h))

    pub started-asks : sn < 2 ^ 63 → Starting starts offsets strides limits (machine s ss i) (machine t ts i) count (2 ^ 63 - 1)
    started-asks r = wider starts offsets strides limits _ _ count sn (2 ^ 63 - 1) (omega arith) asked

    -- where r is the place that was computed
    module _ (r : ℤ) (e : r ≡ machine s ss i +ℤ start_at starts offsets strides limits (machine t ts i) count) where
      pub place-index : sn < 2 ^ 63 → Index r sn
      place-index l = index r sn (subst (InSlice sn) (sym e) (asked.partly count (omega arith))) l

      pub place_is : sn < 2 ^ 63 → pos (nat_abs (read r)) ≡ moved_at starts offsets strides limits count (line (read s) (read ss)) (line (read t) (read ts)) i
      place_is l = (place-index l).is ∙ e ∙ ap₂ (λ (u v : ℤ). u +ℤ start_at starts offsets strides limits v count) p.read_is q.read_is

pub cells-end : {A : Type 0} (z : A) (rule : A → A → A) (src : List A) (starts offsets strides : List ℤ) (limits : List ℕ) (count : ℕ) (s t d ss ts ds : ℤ) (i n : ℕ) (x y : List A)
    → SFits w64 s → SFits w64 t → SFits w64 d → SFits w64 ss → SFits w64 ts → SFits w64 ds → i ≡ n
    → y ≡ in_order (cell_at z rule src (moved_at starts offsets strides limits count (line (read s) (read ss)) (line (read t) (read ts))) (line (read d) (read ds))) i x
    → y ≡ in_order (cell_at z rule src (moved_at starts offsets strides limits count (line s ss) (line t ts)) (line d ds)) n x
cells-end z rule src starts offsets strides limits count s t d ss ts ds i n x y fs ft fd fss fts fds e h =
    h
    ∙ same-places z rule src _ _ (moved_at starts offsets strides limits count (line s ss) (line t ts)) (line d ds) i
    (λ k _. ap₂ (λ (u v : ℤ). u +ℤ start_at starts offsets strides limits v count) (line-back s ss k fs fss) (line-back t ts k ft fts)) (λ k _. line-back d ds k fd fds) x
    ∙ ap (λ (m : ℕ). in_order (cell_at z rule src (moved_at starts offsets strides limits count (line s ss) (line t ts)) (line d ds)) m x) e
  where
    line-back : (s ss : ℤ) (k : ℕ) → SFits w64 s → SFits w64 ss → line (read s) (read ss) k ≡ line s ss k
    line-back s ss k fs fss = ap₂ (λ (u v : ℤ). line u v k) (back fs) (back fss)
