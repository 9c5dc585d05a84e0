-- A run with one start component and a source that does not move: the clamped takes. Assumes nothing.
use mathlib.Core.Path.{◌≡◌, refl, sym, ap, ap₂, subst, ◌∙◌}
use mathlib.Core.List.{List}
use Prim.Native.Nat.{ℕ, ◌<◌, ◌^◌}
use native.Mathlib.Nat.{zero-mul}
use native.Mathlib.Omega.{arith}
use lib.ListN.{length, get_or}
use lib.IntN.{ℤ, pos, ◌+ℤ◌, ◌*ℤ◌, +ℤ_idl, +ℤ_idr}
use mir.Facts.{sfits_lit}
use mir.Syntax.{w64}
use mir.Val.{SFits, of_z}
use Rattle.integer.specs.Z.{back}
use Rattle.integer.specs.Machine.{same_bits}
use Rattle.integer.specs.Laws.{+ℤ-ac}
use Rattle.indexing.specs.Coordinates.{InSlice, element_at}
use Rattle.indexing.specs.Start.{clamp}
use Rattle.indexing.specs.Axes.{sum_of}
use Rattle.indexing.specs.Loops.{in_order}
use Rattle.indexing.specs.Slid.{moved, one_of, how_many}
use Rattle.indexing.specs.Counting.{many-same}
use Rattle.runs.specs.Runs.{cell_at, line}
use Rattle.runs.proofs.Turns.{same-places}
use Rattle.runs.proofs.Place.{read, in-fits, line-zero}
use Rattle.indexed_runs.specs.IndexedRuns.{component_at, start_at, start_moved, starts_moved, moves_at, moved_at, Taking, clamped_at, Clamped}

still : (s : ℤ) (k : ℕ) → line s (pos 0) k ≡ s
still s k = ap (λ (m : ℕ). s +ℤ pos m) (zero-mul k) ∙ +ℤ_idr s

module _ (starts offsets strides : List ℤ) (limits : List ℕ) where
  only : (t : ℤ) → start_at starts offsets strides limits t 1 ≡ component_at starts offsets strides limits t 0
  unfolding sum_of
  only t = +ℤ_idl (component_at starts offsets strides limits t 0)

  module _ (s t ts : ℤ) where
    ahead : (k : ℕ) → line (t +ℤ get_or offsets 0 (pos 0)) ts k ≡ line t ts k +ℤ get_or offsets 0 (pos 0)
    ahead k = aside t (get_or offsets 0 (pos 0)) (ts *ℤ pos k)
      where
        aside : (a b c : ℤ) → a +ℤ b +ℤ c ≡ a +ℤ c +ℤ b
        aside a b c = simp +ℤ-ac

    single-place : (k : ℕ) → moved_at starts offsets strides limits 1 (line s (pos 0)) (line t ts) k ≡ clamped_at starts (line (t +ℤ get_or offsets 0 (pos 0)) ts) s (get_or strides 0 (pos 0)) (get_or limits 0 0) k
    single-place k =
        ap₂ ◌+ℤ◌ (still s k) (only (line t ts k))
        ∙ ap (λ (u : ℤ). s +ℤ get_or strides 0 (pos 0) *ℤ clamp (element_at (pos 0) starts u) (get_or limits 0 0) 0) (sym (ahead k))

  module _ (s t d ts ds : ℤ) (n sn dn : ℕ) (w : Taking starts offsets strides limits 1 s t d (pos 0) ts ds n sn dn) (p : 0 < n) where
    single-in : (k : ℕ) → k < n → InSlice (length starts) (line (t +ℤ get_or offsets 0 (pos 0)) ts k)
    single-in k h = subst (InSlice (length starts)) (sym (ahead s t ts k)) ((w.starting k h).reads 0 (omega arith))

    single-fits : length starts < 2 ^ 63 → SFits w64 (t +ℤ get_or offsets 0 (pos 0))
    single-fits r = in-fits (t +ℤ get_or offsets 0 (pos 0)) (length starts) (subst (InSlice (length starts)) (line-zero (t +ℤ get_or offsets 0 (pos 0)) ts) (single-in 0 p)) r

    none_in : InSlice sn (line s (pos 0) 0 +ℤ start_at starts offsets strides limits (line t ts 0) 0) → InSlice sn s
    unfolding sum_of
    none_in h = subst (InSlice sn) (+ℤ_idr (line s (pos 0) 0) ∙ line-zero s (pos 0)) h

    single : Clamped starts (t +ℤ get_or offsets 0 (pos 0)) ts s (get_or strides 0 (pos 0)) d ds (get_or limits 0 0) n sn dn
    single =
        record {
          small = (w.starting 0 p).small 0 (omega arith);
          starting = record { few = w.index.few; inside = single-in };
          first = none_in ((w.starting 0 p).partly 0 (omega arith));
          clamped = λ k h. subst (InSlice sn) (single-place s t ts k) ((w.starting k h).partly 1 (omega arith));
          plain = w.dest;
        }

-- ---- as the machine has it: it has found one component and a step of 0
module _ (starts offsets strides : List ℤ) (limits : List ℕ) (count : ℕ) (s t d ss ts ds : ℤ) (n sn dn : ℕ) (w : Taking starts offsets strides limits count s t d ss ts ds n sn dn) (p : n ≡ 0 → ⊥) (one : count ≡ 1) (fss : SFits w64 ss) (e : of_z w64 ss ≡ 0) (r : length starts < 2 ^ 63)
    (fs : SFits w64 s) (ft : SFits w64 t) (fd : SFits w64 d) (fts : SFits w64 ts) (fds : SFits w64 ds) (fo : SFits w64 (get_or offsets 0 (pos 0))) where
  zero-step : ss ≡ pos 0
  zero-step = same_bits {w = w64} fss (sfits_lit {z = pos 0} tt) e

  here : Taking starts offsets strides limits 1 s t d (pos 0) ts ds n sn dn
  here = subst (λ (x : ℤ). Taking starts offsets strides limits 1 s t d x ts ds n sn dn) zero-step (subst (λ (m : ℕ). Taking starts offsets strides limits m s t d ss ts ds n sn dn) one w)

  some : 0 < n
  some = omega (arith, p)

  at-fits : SFits w64 (t +ℤ get_or offsets 0 (pos 0))
  at-fits = single-fits starts offsets strides limits s t d ts ds n sn dn here some r

  pub at_sum : SFits w64 (read t +ℤ read (get_or offsets 0 (pos 0)))
  at_sum = subst (SFits w64) (sym (ap₂ ◌+ℤ◌ (back ft) (back fo))) at-fits

  pub single-asks : SFits w64 (get_or strides 0 (pos 0)) → Clamped starts (read (read t +ℤ read (get_or offsets 0 (pos 0)))) (read ts) (read s) (read (get_or strides 0 (pos 0))) (read d) (read ds) (get_or limits 0 0) n sn dn
  single-asks fk = simp (back fs, back ft, back fd, back fts, back fds, back fo, back fk, back at-fits) (single starts offsets strides limits s t d ts ds n sn dn here some)

  pub single-end : {A : Type 0} (z : A) (rule : A → A → A) (src x y : List A) → SFits w64 (get_or strides 0 (pos 0))
      → y ≡ in_order (cell_at z rule src (clamped_at starts (line (read (read t +ℤ read (get_or offsets 0 (pos 0)))) (read ts)) (read s) (read (get_or strides 0 (pos 0))) (get_or limits 0 0)) (line (read d) (read ds))) n x
      → y ≡ in_order (cell_at z rule src (moved_at starts offsets strides limits count (line s ss) (line t ts)) (line d ds)) n x
  single-end {A} z rule src x y fk h =
      h
      ∙ ap (λ (f : ℤ). in_order (cell_at z rule src (clamped_at starts (line f (read ts)) (read s) (read (get_or strides 0 (pos 0))) (get_or limits 0 0)) (line (read d) (read ds))) n x) (back at_sum ∙ ap₂ ◌+ℤ◌ (back ft) (back fo))
      ∙ ap₂ (λ (u v : ℤ). in_order (cell_at z rule src (clamped_at starts (line (t +ℤ get_or offsets 0 (pos 0)) u) v (read (get_or strides 0 (pos 0))) (get_or limits 0 0)) (line (read d) (read ds))) n x) (back fts) (back fs)
      ∙ ap (λ (u : ℤ). in_order (cell_at z rule src (clamped_at starts (line (t +ℤ get_or offsets 0 (pos 0)) ts) s u (get_or limits 0 0)) (line (read d) (read ds))) n x) (back fk)
      ∙ ap₂ (λ (u v : ℤ). in_order (cell_at z rule src (clamped_at starts (line (t +ℤ get_or offsets 0 (pos 0)) ts) s (get_or strides 0 (pos 0)) (get_or limits 0 0)) (line u v)) n x) (back fd) (back fds)
      ∙ sym (same-places z rule src (moved_at starts offsets strides limits 1 (line s (pos 0)) (line t ts)) (line d ds) (clamped_at starts (line (t +ℤ get_or offsets 0 (pos 0)) ts) s (get_or strides 0 (pos 0)) (get_or limits 0 0)) (line d ds) n (λ k _. single-place starts offsets strides limits s t ts k) (λ k _. refl) x)
      ∙ ap₂ (λ (m : ℕ) (u : ℤ). in_order (cell_at z rule src (moved_at starts offsets strides limits m (line s u) (line t ts)) (line d ds)) n x) (sym one) (sym zero-step)

  -- whether the one component is moved
  only-moved : (k : ℕ) → moves_at starts (line (t +ℤ get_or offsets 0 (pos 0)) ts) (get_or limits 0 0) k ≡ start_moved starts offsets limits (line t ts k) 1
  unfolding one_of
  only-moved k = ap (λ (u : ℤ). moved (element_at (pos 0) starts u) (get_or limits 0 0) 0) (ahead starts offsets strides limits s t ts k)

  pub single-count : (c : ℕ) → c ≡ how_many n (moves_at starts (line (read (read t +ℤ read (get_or offsets 0 (pos 0)))) (read ts)) (get_or limits 0 0)) → c ≡ starts_moved starts offsets limits count n (line t ts)
  single-count c h =
      h
      ∙ ap₂ (λ (f u : ℤ). how_many n (moves_at starts (line f u) (get_or limits 0 0))) (back at_sum ∙ ap₂ ◌+ℤ◌ (back ft) (back fo)) (back fts)
      ∙ many-same n (moves_at starts (line (t +ℤ get_or offsets 0 (pos 0)) ts) (get_or limits 0 0)) (λ k. start_moved starts offsets limits (line t ts k) 1) (λ k _. only-moved k)
      ∙ ap (λ (m : ℕ). starts_moved starts offsets limits m n (line t ts)) (sym one)
