-- The merged walk is the walk over the axes as they were given: the same offsets at every linear index on both sides, as many cells, the same spans. For lists of any length. Assumes nothing.
use Rattle.std.specs.Prelude.{◌≡◌, refl, Bool, true, false, cond, ◌&&◌, List, [], ◌∷◌, ℕ, ◌*◌, ◌^◌, ltb, length, ℤ, pos, ◌*ℤ◌, Option, Some, None, Ok}
use Rattle.std.proofs.Common.{arith}
use Rattle.integer.specs.Defs.{eq_z}
use Rattle.integer.specs.Laws.{eq_z-true}
use Rattle.integer.specs.Tests.{and-true}
use Rattle.layout.specs.Spans.{reset_of, spanned}
use Rattle.layout.specs.Laws.{reset-size}
use Rattle.replay.specs.declared.WindowReplayAxis.{WindowReplayAxis}
use Rattle.replay.specs.Replays.{axis_of, given_axes, merges, merged_from, merged_axes, is_fits, axis_fits, past_fits, later_fit, axes_fit, where_fits, after_spans, compiled_replay}
use Rattle.replay.specs.Merging.{side_same, IsReset, AllReset, Meets, meets-one, meets-cons, meets-fuse, IsDone}
use Rattle.layout.specs.declared.Span.{Span}

-- ---- the axes that fit
fits-inv : (x : Option ℤ) → is_fits x ≡ true → (r : ℤ) × (x ≡ Some r)
fits-inv (Some r) e = (r, refl)
fits-inv None e = let z : ◌≡◌ {A = ℕ} 0 1 = cc in absurd (omega arith)

axis-reset : (d : ℕ) (s t : ℤ) → axis_fits (axis_of d s t) ≡ true → IsReset (axis_of d s t)
axis-reset d s t e =
    let u = and-true (is_fits (reset_of d s)) _ (and-true (ltb d (2 ^ 64)) _ e).1 in
    let (a, ea) = fits-inv (reset_of d s) u.0 in
    let (b, eb) = fits-inv (reset_of d t) u.1 in
    record { source = refl; dest = refl; size = (reset-size d s a ea).0; source-size = (reset-size d s a ea).1; dest-size = (reset-size d t b eb).1 }

-- ---- all axes
abbrev both : WindowReplayAxis → ℕ → WindowReplayAxis
both p d = axis_of (p.extent * d) p.source_step p.dest_step

meets-from : (ds : List ℕ) (ss ts : List ℤ) (p : WindowReplayAxis) → IsReset p → length ss ≡ length ds → length ts ≡ length ds → later_fit p (given_axes ds ss ts) ≡ true
    → Meets (p.extent ∷ ds) (p.source_step ∷ ss) (p.dest_step ∷ ts) (merged_from p (given_axes ds ss ts))
unfolding given_axes merged_from later_fit
meets-from [] [] [] p r a b e = meets-one p r
meets-from [] [] (t ∷ ts) p r a b e = absurd (omega arith)
meets-from [] (s ∷ ss) ts p r a b e = absurd (omega arith)
meets-from (d ∷ ds) [] ts p r a b e = absurd (omega arith)
meets-from (d ∷ ds) (s ∷ ss) [] p r a b e = absurd (omega arith)
meets-from (d ∷ ds) (s ∷ ss) (t ∷ ts) p r a b e = go (merges p (axis_of d s t)) refl (λ q rq f. meets-from ds ss ts q rq (omega arith) (omega arith) f) e
  where
    go : (x : Bool) → merges p (axis_of d s t) ≡ x → ((q : WindowReplayAxis) → IsReset q → later_fit q (given_axes ds ss ts) ≡ true → Meets (q.extent ∷ ds) (q.source_step ∷ ss) (q.dest_step ∷ ts) (merged_from q (given_axes ds ss ts)))
        → past_fits p && (axis_fits (cond x (both p d) (axis_of d s t)) && later_fit (cond x (both p d) (axis_of d s t)) (given_axes ds ss ts)) ≡ true
        → Meets (p.extent ∷ d ∷ ds) (p.source_step ∷ s ∷ ss) (p.dest_step ∷ t ∷ ts) (cond x (merged_from (cond x (both p d) (axis_of d s t)) (given_axes ds ss ts)) (p ∷ merged_from (cond x (both p d) (axis_of d s t)) (given_axes ds ss ts)))
    go true h ih f =
        let k = and-true (eq_z s (p.source_step *ℤ pos p.extent)) _ h in
        let v = and-true (axis_fits (both p d)) _ (and-true (past_fits p) _ f).1 in
        meets-fuse p.extent d p.source_step s p.dest_step t ds ss ts (merged_from (both p d) (given_axes ds ss ts)) (eq_z-true s _ k.0) (eq_z-true t _ k.1) (ih (both p d) (axis-reset (p.extent * d) p.source_step p.dest_step v.0) v.1)
    go false h ih f =
        let v = and-true (axis_fits (axis_of d s t)) _ (and-true (past_fits p) _ f).1 in
        meets-cons p r (d ∷ ds) (s ∷ ss) (t ∷ ts) (merged_from (axis_of d s t) (given_axes ds ss ts)) (ih (axis_of d s t) (axis-reset d s t v.0) v.1)

pub meets-given : (ds : List ℕ) (ss ts : List ℤ) → length ss ≡ length ds → length ts ≡ length ds → axes_fit (given_axes ds ss ts) ≡ true → Meets ds ss ts (merged_axes (given_axes ds ss ts))
unfolding given_axes AllReset
meets-given [] [] [] a b e = record { source = side_same [] []; dest = side_same [] []; total = refl; positive = λ q. q; resets = tt; count = omega arith }
meets-given [] [] (t ∷ ts) a b e = absurd (omega arith)
meets-given [] (s ∷ ss) ts a b e = absurd (omega arith)
meets-given (d ∷ ds) [] ts a b e = absurd (omega arith)
meets-given (d ∷ ds) (s ∷ ss) [] a b e = absurd (omega arith)
meets-given (d ∷ ds) (s ∷ ss) (t ∷ ts) a b e =
    let k = and-true (axis_fits (axis_of d s t)) _ e in
    meets-from ds ss ts (axis_of d s t) (axis-reset d s t k.0) (omega arith) (omega arith) k.1

pub compiled-done : (ds : List ℕ) (ss ts : List ℤ) → length ss ≡ length ds → length ts ≡ length ds → (compiled_replay ds ss ts).answer ≡ Ok tt → IsDone ds ss ts
unfolding compiled_replay
compiled-done ds ss ts p q e = go (spanned ds ss) (spanned ds ts) (axes_fit (given_axes ds ss ts)) refl refl refl e
  where
    go : (x y : Option Span) (t : Bool) → spanned ds ss ≡ x → spanned ds ts ≡ y → axes_fit (given_axes ds ss ts) ≡ t → (after_spans x y (λ spans. where_fits t (merged_axes (given_axes ds ss ts)) spans)).answer ≡ Ok tt → IsDone ds ss ts
    go (Some a) (Some b) true ex ey et h = record {
      axes = merged_axes (given_axes ds ss ts);
      meets = meets-given ds ss ts p q et;
      source-low = a.low;
      source-high = a.high;
      source-span = ex;
      dest-low = b.low;
      dest-high = b.high;
      dest-span = ey;
      is = (λ ι. after_spans (ex ι) (ey ι) (λ spans. where_fits (et ι) (merged_axes (given_axes ds ss ts)) spans));
    }
    go (Some a) (Some b) false ex ey et h = let z : ◌≡◌ {A = ℕ} 0 1 = cc in absurd (omega arith)
    go (Some a) None t ex ey et h = let z : ◌≡◌ {A = ℕ} 0 1 = cc in absurd (omega arith)
    go None y t ex ey et h = let z : ◌≡◌ {A = ℕ} 0 1 = cc in absurd (omega arith)
