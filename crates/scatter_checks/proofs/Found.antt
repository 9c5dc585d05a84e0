-- What is found of a scatter is what is asked. Assumes nothing.
use Rattle.std.specs.Prelude.{Ok, Err}
use Rattle.std.specs.Result.{result_and}
use mathlib.Core.Path.{◌≡◌, refl, sym, ap, ◌∙◌}
use mathlib.Core.Bool.{Bool, true, false, cond}
use mathlib.Core.List.{List}
use Prim.Native.Nat.{ℕ}
use lib.ListN.{length}
use lib.IntN.{ℤ}
use Rattle.indexing.specs.Scatter.{Scatter}
use Rattle.layout.specs.declared.Refusal.{Refusal}
use Rattle.layout.specs.Answers.{is_done, or_else, Answer}
use Rattle.checks.specs.Checks.{layouts_refusal}
use Rattle.checks.proofs.Made.{or-done}
use Rattle.checks.proofs.Held.{never, Lengths, lengths-pass}
use Rattle.scatter_checks.specs.declared.Examined.{Examined}
use Rattle.scatter_checks.specs.Refusals.{numbers_refusal, sizes_refusal, axes_refusal, walks_refusal, spec_refusal, refusal_of}
use Rattle.scatter_checks.specs.Examine.{Fitting, walks_of, Examines}

-- lists whose sizes are not refused have the right lengths
pub sizes-pass : (ie : List ℕ) (is : List ℤ) (ue : List ℕ) (us : List ℤ) (de : List ℕ) (ds : List ℤ) → is_done (sizes_refusal ie is ue us de ds) ≡ true → Lengths (length ie) (length is) (length ue) (length us) (length de) (length ds)
unfolding sizes_refusal
sizes-pass ie is ue us de ds e = lengths-pass (length ie) (length is) (length ue) (length us) (length de) (length ds) (or-done (layouts_refusal (length ie) (length is) (length ue) (length us) (length de) (length ds)) (numbers_refusal ie ue de ds) e).0

abbrev sizes_of : Scatter → Answer
sizes_of s = sizes_refusal s.indices.extents s.indices.strides s.updates.extents s.updates.strides s.result.extents s.result.strides

pub fitting : (s : Scatter) → is_done (sizes_of s) ≡ true → Fitting s
fitting s e =
    let l = sizes-pass s.indices.extents s.indices.strides s.updates.extents s.updates.strides s.result.extents s.result.strides e in
    record { index = l.operand; updates = l.index; dest = l.dest; index-few = l.operand-few; updates-few = l.index-few; dest-few = l.dest-few }

-- ---- 4 not tried again
pub done-again : (four : Answer) (s : Scatter) → is_done (refusal_of four s) ≡ true → is_done (refusal_of (Ok tt) s) ≡ true
done-again four s e =
    let t = or-done (sizes_of s) (or_else four (spec_refusal s)) e in
    ap (λ (b : Bool). is_done (cond b (spec_refusal s) (sizes_of s))) t.0 ∙ (or-done four (spec_refusal s) t.1).1

-- ---- what is found is what is asked
or_assoc : (x y z : Answer) → or_else (or_else x y) z ≡ or_else x (or_else y z)
or_assoc x y z = go (is_done x) refl
  where
    go : (t : Bool) → is_done x ≡ t → or_else (or_else x y) z ≡ or_else x (or_else y z)
    go true e = rw e
    go false e = rw (e, e)

-- the first refusal of two, as the library takes it
pub and-is : (x y : Answer) {r z : Answer} → r ≡ result_and x y → y ≡ z → r ≡ or_else x z
and-is (Ok _) y e f = e ∙ f
and-is (Err _) y e f = e

module _ (four : Answer) (s : Scatter) (r : Examined) (sized : is_done (sizes_of s) ≡ true) where
  after-sizes : or_else (or_else four (axes_refusal s)) (walks_refusal s) ≡ refusal_of four s
  unfolding spec_refusal
  after-sizes = or_assoc four (axes_refusal s) (walks_refusal s) ∙ sym (ap (λ (t : Bool). cond t (or_else four (spec_refusal s)) (sizes_of s)) sized)

  -- refused by 4 or by what is asked of the axes
  pub turned_down : (e : Refusal) → or_else four (axes_refusal s) ≡ Err e → r.answer ≡ Err e → Examines r four s
  turned_down e f g =
      record {
        answered = g ∙ ap (λ (x : Answer). or_else x (walks_refusal s)) (sym f) ∙ after-sizes;
        found = λ d. never (sym d ∙ ap is_done g);
      }

  pub found : is_done (or_else four (axes_refusal s)) ≡ true → r ≡ walks_of s → Examines r four s
  unfolding walks_of
  found f e =
      let a : r.answer ≡ refusal_of four s = ap (λ (x : Examined). x.answer) e ∙ sym (ap (λ (t : Bool). cond t (walks_refusal s) (or_else four (axes_refusal s))) f) ∙ after-sizes in
      record {
        answered = a;
        found = λ d. record {
          accepted = done-again four s (ap is_done (sym a) ∙ d);
          batch-is = ap (λ (x : Examined). x.batch) e;
          window-is = ap (λ (x : Examined). x.window) e;
        };
      }
