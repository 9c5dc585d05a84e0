-- What is known of four layouts whose sizes are not refused. Assumes nothing.
use Rattle.std.specs.Prelude.{Ok, Err}
use mathlib.Core.Path.{◌≡◌, refl, sym, ap, ◌∙◌}
use mathlib.Core.Bool.{Bool, true, false, cond, true≢false}
use mathlib.Core.List.{List}
use Prim.Native.Nat.{ℕ, ◌≤◌}
use lib.Dec.{eqb}
use lib.ListN.{length}
use lib.IntN.{ℤ}
use Rattle.indexing.specs.Coordinates.{View}
use Rattle.indexing.specs.Scatter.{Scatter}
use Rattle.layout.specs.Answers.{is_done, or_else, Answer}
use Rattle.layout.specs.Layouts.{rank_limit, stride_length, rank_at_most}
use Rattle.layout.specs.Spans.{total_of, spanned}
use Rattle.equality.specs.Same.{same_by}
use Rattle.equality.proofs.Compare.{numbers-decide, lists-decide}
use Rattle.checks.specs.Checks.{total_fits, span_fits}
use Rattle.checks.proofs.Made.{or-done, same_length, few-axes}
use Rattle.scatter_checks.specs.Refusals as scatters
use Rattle.scatter_checks.specs.declared.Examined.{Examined}
use Rattle.scatter_checks.specs.Examine.{Examines}
use Rattle.operand_checks.specs.Refusals.{layouts_refusal, extents_refusal, numbers_refusal, sizes_refusal, sizes_of, refusal_of}
use Rattle.operand_checks.specs.Examine.{ExaminesOn}
use Rattle.layout.specs.declared.Refusal.TheVariants as F

-- two answers that are done are done in turn
pub both-done : (x y : Answer) → is_done x ≡ true → is_done y ≡ true → is_done (or_else x y) ≡ true
both-done x y e f = ap (λ (t : Bool). is_done (cond t y x)) e ∙ f

-- the first refusal of three does not depend on which two are asked first
pub or_assoc : (x y w : Answer) → or_else (or_else x y) w ≡ or_else x (or_else y w)
or_assoc x y w = go (is_done x) refl
  where
    go : (t : Bool) → is_done x ≡ t → or_else (or_else x y) w ≡ or_else x (or_else y w)
    go true e = ap (λ (t : Bool). or_else (cond t y x) w) e ∙ sym (ap (λ (t : Bool). cond t (or_else y w) x) e)
    go false e = ap (λ (t : Bool). or_else (cond t y x) w) e ∙ ap (λ (t : Bool). cond t w x) e ∙ sym (ap (λ (t : Bool). cond t (or_else y w) x) e)

pub extents-same : (de oe : List ℕ) → is_done (extents_refusal de oe) ≡ true → de ≡ oe
extents-same de oe e = go (same_by eqb de oe) refl e
  where
    go : (t : Bool) → same_by eqb de oe ≡ t → is_done (cond t (Ok tt) (Err (F.ShapeMismatch (length de) (length oe)))) ≡ true → de ≡ oe
    go true f h = (lists-decide eqb numbers-decide de oe).yes f
    go false f h = absurd (true≢false (sym h))

-- lengths, ranks, equal extents, spans; and the sizes of the scatter without its operand
pub record Sized (oe : List ℕ) (os : List ℤ) (ie : List ℕ) (is : List ℤ) (ue : List ℕ) (us : List ℤ) (de : List ℕ) (ds : List ℤ) : Type 0 where
  pub lengths : is_done (stride_length (length oe) (length os)) ≡ true
  pub ranks : is_done (rank_at_most (length oe)) ≡ true
  pub operand : length os ≡ length oe
  pub dest : length ds ≡ length de
  pub few : length oe ≤ rank_limit
  pub same : de ≡ oe
  pub dest-span : is_done (span_fits (spanned de ds)) ≡ true
  pub operand-span : is_done (span_fits (spanned oe os)) ≡ true
  pub scatter : is_done (scatters.sizes_refusal ie is ue us de ds) ≡ true

module _ (oe : List ℕ) (os : List ℤ) (ie : List ℕ) (is : List ℤ) (ue : List ℕ) (us : List ℤ) (de : List ℕ) (ds : List ℤ) where
  -- the checks of the scatter without its operand, from the last on
  abbrev ranks-2 : Answer
  ranks-2 = or_else (rank_at_most (length ue)) (rank_at_most (length de))

  abbrev ranks-3 : Answer
  ranks-3 = or_else (rank_at_most (length ie)) ranks-2

  abbrev lengths-1 : Answer
  lengths-1 = or_else (stride_length (length de) (length ds)) ranks-3

  abbrev lengths-2 : Answer
  lengths-2 = or_else (stride_length (length ue) (length us)) lengths-1

  abbrev lengths-3 : Answer
  lengths-3 = or_else (stride_length (length ie) (length is)) lengths-2

  abbrev totals-1 : Answer
  totals-1 = or_else (total_fits (total_of ue)) (span_fits (spanned de ds))

  abbrev totals-2 : Answer
  totals-2 = or_else (total_fits (total_of ie)) totals-1

  abbrev totals-3 : Answer
  totals-3 = or_else (total_fits (total_of de)) totals-2

  pub sized : is_done (sizes_refusal oe os ie is ue us de ds) ≡ true → Sized oe os ie is ue us de ds
  unfolding sizes_refusal scatters.sizes_refusal
  sized e =
      let t = or-done (layouts_refusal (length oe) (length os) (length ie) (length is) (length ue) (length us) (length de) (length ds)) (numbers_refusal oe os ie ue de ds) e in
      let a = or-done (stride_length (length oe) (length os)) _ t.0 in
      let b = or-done (stride_length (length ie) (length is)) _ a.1 in
      let c = or-done (stride_length (length ue) (length us)) _ b.1 in
      let d = or-done (stride_length (length de) (length ds)) _ c.1 in
      let f = or-done (rank_at_most (length oe)) _ d.1 in
      let g = or-done (rank_at_most (length ie)) _ f.1 in
      let h = or-done (rank_at_most (length ue)) (rank_at_most (length de)) g.1 in
      let k = or-done (total_fits (total_of oe)) _ t.1 in
      let l = or-done (total_fits (total_of ie)) _ k.1 in
      let m = or-done (total_fits (total_of ue)) _ l.1 in
      let n = or-done (extents_refusal de oe) _ m.1 in
      let p = or-done (span_fits (spanned de ds)) (span_fits (spanned oe os)) n.1 in
      let q : de ≡ oe = extents-same de oe n.0 in
      record {
        lengths = a.0;
        ranks = f.0;
        operand = same_length (length oe) (length os) a.0;
        dest = same_length (length de) (length ds) d.0;
        few = few-axes (length oe) f.0;
        same = q;
        dest-span = p.0;
        operand-span = p.1;
        scatter = both-done lengths-3 totals-3 (both-done (stride_length (length ie) (length is)) lengths-2 b.0 (both-done (stride_length (length ue) (length us)) lengths-1 c.0 (both-done (stride_length (length de) (length ds)) ranks-3 d.0
            (both-done (rank_at_most (length ie)) ranks-2 g.0 (both-done (rank_at_most (length ue)) (rank_at_most (length de)) h.0 h.1)))))
            (both-done (total_fits (total_of de)) totals-2 (ap (λ (x : List ℕ). is_done (total_fits (total_of x))) q ∙ k.0)
            (both-done (total_fits (total_of ie)) totals-1 l.0 (both-done (total_fits (total_of ue)) (span_fits (spanned de ds)) m.0 p.0)));
      }

-- ---- where the sizes pass, the rest is that of the scatter without its operand
module _ (o : View) (s : Scatter) (d : is_done (sizes_of o s) ≡ true) where
  pub sized_on : Sized o.extents o.strides s.indices.extents s.indices.strides s.updates.extents s.updates.strides s.result.extents s.result.strides
  sized_on = sized o.extents o.strides s.indices.extents s.indices.strides s.updates.extents s.updates.strides s.result.extents s.result.strides d

  pub same_rest : (four : Answer) → scatters.refusal_of four s ≡ refusal_of four o s
  same_rest four =
      let rest : Answer = or_else four (scatters.spec_refusal s) in
      ap (λ (t : Bool). cond t rest (scatters.sizes_refusal s.indices.extents s.indices.strides s.updates.extents s.updates.strides s.result.extents s.result.strides)) sized_on.scatter
      ∙ sym (ap (λ (t : Bool). cond t rest (sizes_of o s)) d)

  pub examined-on : {r : Examined} {x y : Answer} → x ≡ y → Examines r x s → ExaminesOn r y o s
  examined-on {r} {x} {y} e h = record { answered = h.answered ∙ same_rest x ∙ ap (λ (z : Answer). refusal_of z o s) e; found = λ t. record { sizes = d; scatter = h.found t } }

-- a scatter with an operand that is not refused is not refused without it
pub without-operand : (four : Answer) (o : View) (s : Scatter) → is_done (refusal_of four o s) ≡ true → is_done (scatters.refusal_of four s) ≡ true
without-operand four o s e = ap is_done (same_rest o s (or-done (sizes_of o s) _ e).0 four) ∙ e
