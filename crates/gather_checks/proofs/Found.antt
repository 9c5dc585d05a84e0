-- What is found of a gather by the lists of its axes is what is asked. Assumes nothing.
use Rattle.std.specs.Prelude.{Ok}
use mathlib.Core.Path.{◌≡◌, sym, ap, ◌∙◌}
use mathlib.Core.Bool.{Bool, true, cond}
use mathlib.Core.List.{List, [], ◌∷◌}
use Prim.Native.Nat.{ℕ}
use lib.ListN.{length}
use lib.IntN.{ℤ, pos}
use Rattle.indexing.specs.Coordinates.{pick, spread, others}
use Rattle.indexing.specs.Start.{without}
use Rattle.indexing.specs.Gather.{Gather, shown_dims, batch_dims}
use Rattle.indexing.specs.Steps.{window_steps, batch_steps}
use Rattle.layout.specs.Answers.{is_done, or_else, Answer}
use Rattle.layout.specs.Layouts.{rank_limit, padded}
use Rattle.axis_lists.proofs.Without.{pick-without, length-starts}
use Rattle.checks.specs.Checks.{layouts_refusal}
use Rattle.checks.proofs.Made.{or-done}
use Rattle.checks.proofs.Held.{Lengths, lengths-pass}
use Rattle.gather_checks.specs.declared.Examined.{Examined}
use Rattle.gather_checks.specs.Refusals.{gather_from, numbers_refusal, sizes_refusal, shape_fits, spec_refusal, refusal_of}
use Rattle.gather_checks.specs.Given.{answer_by, examined_by, Examines}

-- lists whose sizes are not refused have the right lengths
pub sizes-pass : (oe : List ℕ) (os : List ℤ) (ie : List ℕ) (is : List ℤ) (de : List ℕ) (ds : List ℤ) → is_done (sizes_refusal oe os ie is de ds) ≡ true → Lengths (length oe) (length os) (length ie) (length is) (length de) (length ds)
unfolding sizes_refusal
sizes-pass oe os ie is de ds e = lengths-pass (length oe) (length os) (length ie) (length is) (length de) (length ds) (or-done (layouts_refusal (length oe) (length os) (length ie) (length is) (length de) (length ds)) (numbers_refusal oe os ie is de ds) e).0

-- ---- 4 not tried again
sizes_of : Gather → Answer
sizes_of g = sizes_refusal g.operand.extents g.operand.strides g.indices.extents g.indices.strides g.result.extents g.result.strides

pub done-again : (four : Answer) (g : Gather) → is_done (refusal_of four g) ≡ true → is_done (refusal_of (Ok tt) g) ≡ true
unfolding sizes_of
done-again four g e =
    let t = or-done (sizes_of g) (or_else four (spec_refusal g)) e in
    ap (λ (b : Bool). is_done (cond b (spec_refusal g) (sizes_of g))) t.0 ∙ (or-done four (spec_refusal g) t.1).1

pub examines-by : {r : Examined} {x y : Answer} {g : Gather} → x ≡ y → Examines r x g → Examines r y g
examines-by {r} {x} {y} {g} e h = record { answered = h.answered ∙ ap (λ (z : Answer). refusal_of z g) e; found = h.found }

-- ---- what is found is what is asked
module _ (four : Answer) (offsets collapsed map : List ℕ) (vector : ℕ) (sizes oe : List ℕ) (os : List ℤ) (ie : List ℕ) (is : List ℤ) (de : List ℕ) (ds : List ℤ) where
  abbrev g : Gather
  g = gather_from oe os ie is de ds offsets collapsed map vector sizes

  abbrev pub starts : List ℕ
  starts = others (length ie) (vector ∷ [])

  batch-strides : length is ≡ length ie → pick (pos 0) starts is ≡ without vector is
  batch-strides e = ap (λ (n : ℕ). pick (pos 0) (others n (vector ∷ [])) is) (sym e) ∙ pick-without (pos 0) vector is

  answer-is : length is ≡ length ie → answer_by oe os ie is de ds offsets collapsed map vector sizes four (others (length oe) collapsed) starts (others (length de) offsets) ≡ or_else four (spec_refusal g)
  unfolding spec_refusal shape_fits window_steps batch_steps shown_dims batch_dims
  answer-is e = rw (length-starts 0 vector ie, pick-without 0 vector ie, batch-strides e)

  pub found : (r : Examined) → is_done (sizes_refusal oe os ie is de ds) ≡ true
      → r ≡ examined_by oe os ie is de ds offsets collapsed map vector sizes four (others (length oe) collapsed) starts (others (length de) offsets)
      → Examines r four g
  unfolding examined_by window_steps batch_steps shown_dims batch_dims
  found r done f =
      let e : length is ≡ length ie = (sizes-pass oe os ie is de ds done).index in
      let a : r.answer ≡ refusal_of four g = ap (λ (x : Examined). x.answer) f ∙ answer-is e ∙ sym (ap (λ (t : Bool). cond t (or_else four (spec_refusal g)) (sizes_refusal oe os ie is de ds)) done) in
      record {
        answered = a;
        found = λ d. record {
          accepted = done-again four g (ap is_done (sym a) ∙ d);
          window-is = ap (λ (x : Examined). x.window) f;
          batch-is = ap (λ (x : Examined). x.batch) f ∙ ap (λ (l : List ℤ). padded rank_limit (pos 0) (spread (pos 0) (length de) (others (length de) offsets) l)) (batch-strides e);
        };
      }
