-- A run with one start component: the clamped puts. Assumes nothing.
use mathlib.Core.Path.{◌≡◌, refl, sym, ap, ap₂, subst, ◌∙◌}
use mathlib.Core.List.{List}
use Prim.Native.Nat.{ℕ, ◌<◌, ◌^◌}
use native.Mathlib.Omega.{arith}
use lib.ListN.{length, get_or}
use lib.IntN.{ℤ, pos, ◌+ℤ◌, ◌*ℤ◌, +ℤ_idl, +ℤ_idr}
use mir.Syntax.{w64}
use mir.Val.{SFits}
use Rattle.integer.specs.Z.{back}
use Rattle.integer.specs.Laws.{+ℤ-ac}
use Rattle.indexing.specs.Coordinates.{InSlice, element_at}
use Rattle.indexing.specs.Start.{clamp}
use Rattle.indexing.specs.Axes.{sum_of}
use Rattle.indexing.specs.Loops.{in_order}
use Rattle.indexing.specs.Slid.{moved, one_of, how_many}
use Rattle.indexing.specs.Counting.{many-same}
use Rattle.runs.specs.Runs.{cell_at, line}
use Rattle.runs.proofs.Turns.{same-places}
use Rattle.runs.proofs.Place.{read, in-fits, line-zero}
use Rattle.indexed_runs.specs.IndexedRuns.{component_at, start_at, component_moved, start_moved, starts_moved, moved_at, Putting, clamped_at, moves_at, Clamped}

module _ (starts offsets strides : List ℤ) (limits : List ℕ) where
  only : (t : ℤ) → start_at starts offsets strides limits t 1 ≡ component_at starts offsets strides limits t 0
  unfolding sum_of
  only t = +ℤ_idl (component_at starts offsets strides limits t 0)

  only-moved : (t : ℤ) → start_moved starts offsets limits t 1 ≡ component_moved starts offsets limits t 0
  unfolding one_of
  only-moved t = refl

  module _ (t ts : ℤ) where
    ahead : (k : ℕ) → line (t +ℤ get_or offsets 0 (pos 0)) ts k ≡ line t ts k +ℤ get_or offsets 0 (pos 0)
    ahead k = aside t (get_or offsets 0 (pos 0)) (ts *ℤ pos k)
      where
        aside : (a b c : ℤ) → a +ℤ b +ℤ c ≡ a +ℤ c +ℤ b
        aside a b c = simp +ℤ-ac

    single-place : (d : ℤ) (k : ℕ) → moved_at starts offsets strides limits 1 (λ _. d) (line t ts) k ≡ clamped_at starts (line (t +ℤ get_or offsets 0 (pos 0)) ts) d (get_or strides 0 (pos 0)) (get_or limits 0 0) k
    single-place d k =
        ap (λ (a : ℤ). d +ℤ a) (only (line t ts k))
        ∙ ap (λ (a : ℤ). d +ℤ get_or strides 0 (pos 0) *ℤ clamp (element_at (pos 0) starts a) (get_or limits 0 0) 0) (sym (ahead k))

    single-moved : (k : ℕ) → moves_at starts (line (t +ℤ get_or offsets 0 (pos 0)) ts) (get_or limits 0 0) k ≡ start_moved starts offsets limits (line t ts k) 1
    single-moved k = ap (λ (a : ℤ). moved (element_at (pos 0) starts a) (get_or limits 0 0) 0) (ahead k) ∙ sym (only-moved (line t ts k))

  module _ (s t d ss ts : ℤ) (n sn dn : ℕ) (w : Putting starts offsets strides limits 1 s t d ss ts n sn dn) (p : 0 < n) where
    single-in : (k : ℕ) → k < n → InSlice (length starts) (line (t +ℤ get_or offsets 0 (pos 0)) ts k)
    single-in k h = subst (InSlice (length starts)) (sym (ahead t ts k)) ((w.starting k h).reads 0 (omega arith))

    single-fits : length starts < 2 ^ 63 → SFits w64 (t +ℤ get_or offsets 0 (pos 0))
    single-fits r = in-fits (t +ℤ get_or offsets 0 (pos 0)) (length starts) (subst (InSlice (length starts)) (line-zero (t +ℤ get_or offsets 0 (pos 0)) ts) (single-in 0 p)) r

    none_in : InSlice dn (d +ℤ start_at starts offsets strides limits (line t ts 0) 0) → InSlice dn d
    unfolding sum_of
    none_in h = subst (InSlice dn) (+ℤ_idr d) h

    single : Clamped starts (t +ℤ get_or offsets 0 (pos 0)) ts d (get_or strides 0 (pos 0)) s ss (get_or limits 0 0) n dn sn
    single =
        record {
          small = (w.starting 0 p).small 0 (omega arith);
          starting = record { few = w.index.few; inside = single-in };
          first = none_in ((w.starting 0 p).partly 0 (omega arith));
          clamped = λ k h. subst (InSlice dn) (single-place t ts d k) ((w.starting k h).partly 1 (omega arith));
          plain = w.source;
        }

-- ---- as the machine has it: it has found one component
module _ (starts offsets strides : List ℤ) (limits : List ℕ) (count : ℕ) (s t d ss ts : ℤ) (n sn dn : ℕ) (w : Putting starts offsets strides limits count s t d ss ts n sn dn) (p : n ≡ 0 → ⊥) (one : count ≡ 1) (r : length starts < 2 ^ 63)
    (fs : SFits w64 s) (ft : SFits w64 t) (fd : SFits w64 d) (fss : SFits w64 ss) (fts : SFits w64 ts) (fo : SFits w64 (get_or offsets 0 (pos 0))) where
  here : Putting starts offsets strides limits 1 s t d ss ts n sn dn
  here = subst (λ (m : ℕ). Putting starts offsets strides limits m s t d ss ts n sn dn) one w

  some : 0 < n
  some = omega (arith, p)

  at-fits : SFits w64 (t +ℤ get_or offsets 0 (pos 0))
  at-fits = single-fits starts offsets strides limits s t d ss ts n sn dn here some r

  pub at_sum : SFits w64 (read t +ℤ read (get_or offsets 0 (pos 0)))
  at_sum = subst (SFits w64) (sym (ap₂ ◌+ℤ◌ (back ft) (back fo))) at-fits

  pub single-asks : SFits w64 (get_or strides 0 (pos 0)) → Clamped starts (read (read t +ℤ read (get_or offsets 0 (pos 0)))) (read ts) (read d) (read (get_or strides 0 (pos 0))) (read s) (read ss) (get_or limits 0 0) n dn sn
  single-asks fk = simp (back fs, back ft, back fd, back fss, back fts, back fo, back fk, back at-fits) (single starts offsets strides limits s t d ss ts n sn dn here some)

  pub single-end : {A : Type 0} (z : A) (rule : A → A → A) (src x y : List A) → SFits w64 (get_or strides 0 (pos 0))
      → y ≡ in_order (cell_at z rule src (line (read s) (read ss)) (clamped_at starts (line (read (read t +ℤ read (get_or offsets 0 (pos 0)))) (read ts)) (read d) (read (get_or strides 0 (pos 0))) (get_or limits 0 0))) n x
      → y ≡ in_order (cell_at z rule src (line s ss) (moved_at starts offsets strides limits count (λ _. d) (line t ts))) n x
  single-end {A} z rule src x y fk h =
      h
      ∙ ap₂ (λ (a b : ℤ). in_order (cell_at z rule src (line a b) (clamped_at starts (line (read (read t +ℤ read (get_or offsets 0 (pos 0)))) (read ts)) (read d) (read (get_or strides 0 (pos 0))) (get_or limits 0 0))) n x) (back fs) (back fss)
      ∙ ap₂ (λ (a b : ℤ). in_order (cell_at z rule src (line s ss) (clamped_at starts (line a b) (read d) (read (get_or strides 0 (pos 0))) (get_or limits 0 0))) n x) (back at_sum ∙ ap₂ ◌+ℤ◌ (back ft) (back fo)) (back fts)
      ∙ ap₂ (λ (a b : ℤ). in_order (cell_at z rule src (line s ss) (clamped_at starts (line (t +ℤ get_or offsets 0 (pos 0)) ts) a b (get_or limits 0 0))) n x) (back fd) (back fk)
      ∙ sym (same-places z rule src (line s ss) (moved_at starts offsets strides limits 1 (λ _. d) (line t ts)) (line s ss) (clamped_at starts (line (t +ℤ get_or offsets 0 (pos 0)) ts) d (get_or strides 0 (pos 0)) (get_or limits 0 0)) n (λ k _. refl) (λ k _. single-place starts offsets strides limits t ts d k) x)
      ∙ ap (λ (m : ℕ). in_order (cell_at z rule src (line s ss) (moved_at starts offsets strides limits m (λ _. d) (line t ts))) n x) (sym one)

  pub single-count : (c : ℕ) → c ≡ how_many n (moves_at starts (line (read (read t +ℤ read (get_or offsets 0 (pos 0)))) (read ts)) (get_or limits 0 0)) → c ≡ starts_moved starts offsets limits count n (line t ts)
  single-count c h =
      h
      ∙ ap₂ (λ (a b : ℤ). how_many n (moves_at starts (line a b) (get_or limits 0 0))) (back at_sum ∙ ap₂ ◌+ℤ◌ (back ft) (back fo)) (back fts)
      ∙ many-same n _ _ (λ k _. single-moved starts offsets strides limits t ts k)
      ∙ ap (λ (m : ℕ). starts_moved starts offsets limits m n (line t ts)) (sym one)
