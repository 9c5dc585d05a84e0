-- What the runs on a grid into which an operand is copied leave, by what each call does: of any calls, however their answers are put. Assumes nothing.
use mathlib.Core.Path.{◌≡◌, refl, sym, ap, ap₂, subst, ◌∙◌}
use mathlib.Core.Bool.{Bool, true, false, cond}
use mathlib.Core.List.{List, []}
use Prim.Native.Nat.{ℕ}
use lib.ListN.{length}
use lib.IntN.{ℤ, pos}
use Rattle.indexing.specs.Coordinates.{View}
use Rattle.indexing.specs.Scatter.{placed_updates, scattered}
use Rattle.indexing.specs.Operand.{operand_copied}
use Rattle.indexing.proofs.OperandCells.{length-copied}
use Rattle.indexing.proofs.Updates.{length-combined}
use Rattle.layout.specs.declared.CallAnswer.{CallAnswer}
use Rattle.layout.specs.Answers.{is_done, Answer}
use Rattle.rules.specs.declared.Rule.{Rule}
use Rattle.rules.specs.Rules.{rule_i32}
use Rattle.rules.specs.Swaps.{put_on}
use Rattle.calls.specs.Calls.{GatherCall, ScatterCall, answer_with, Gathers, Scatters}
use Rattle.operand_calls.specs.Calls.{Operand, ScattersOn}
use Rattle.order.specs.Orders.{put_by, slid_by, told, done_by, done_with}
use Rattle.order.specs.Operands.{copied_into, left_on, EitherOrderOn, BesideOn}
use Rattle.order.proofs.Laws.{done-told, does-put, in-either-order, beside}

-- the same scatter with another answer
abbrev pub with_answer : (ℕ → Answer) → ScatterCall ℤ → ScatterCall ℤ
with_answer x c = record { answer = x; scatter = c.scatter; starts = c.starts; updates = c.updates }

module _ {B : Type 0} (says : CallAnswer → B) (o : Operand ℤ) where
  -- a ship with the operand
  abbrev On : Rule → (ℕ → Answer) → ScatterCall ℤ → List ℤ → List ℤ → B → Type 0
  On r x c grid after handed = ScattersOn (pos 0) (rule_i32 r) says o (with_answer x c) grid after handed

  length-left : (r : Rule) (x : ℕ → Answer) (c : ScatterCall ℤ) (grid : List ℤ) → length (left_on r o x c grid) ≡ length grid
  unfolding scattered
  length-left r x c grid = go (is_done (x (length grid)))
    where
      go : (t : Bool) → length (cond t (done_by r c (copied_into o c.scatter.result grid)) grid) ≡ length grid
      go true = length-combined (rule_i32 r) (pos 0) (placed_updates (pos 0) c.scatter c.starts c.updates) (copied_into o c.scatter.result grid) ∙ length-copied (pos 0) o.view c.scatter.result o.elements grid
      go false = refl

  -- one ship after the other
  module _ (r s : Rule) (x : ℕ → Answer) (first second : ScatterCall ℤ) (grid middle after : List ℤ) (a b : B) (w : On r x first grid middle a) (v : Scatters (pos 0) (rule_i32 s) says second middle after b) where
    middle-length : length middle ≡ length grid
    middle-length = ap length w.left ∙ length-left r x first grid

    second-answer : b ≡ says (told second (length grid))
    second-answer = v.answered ∙ ap (λ (n : ℕ). says (told second n)) middle-length

    both_left : after ≡ put_on s (put_by second (length grid)) (left_on r o x first grid)
    both_left = does-put says s second middle after b v ∙ ap₂ (λ (n : ℕ) (g : List ℤ). put_on s (put_by second n) g) middle-length w.left

  -- a ship with the operand, accepted, does what its updates alone do on the grid with the operand in it
  alone : (r : Rule) (x : ℕ → Answer) (c : ScatterCall ℤ) (grid after : List ℤ) (handed : B) (result : View) → c.scatter.result ≡ result → is_done (x (length grid)) ≡ true → is_done (c.answer (length grid)) ≡ true → On r x c grid after handed
      → Scatters (pos 0) (rule_i32 r) says c (copied_into o result grid) after handed
  alone r x c grid after handed result e d k w =
      let n : length (copied_into o result grid) ≡ length grid = length-copied (pos 0) o.view result o.elements grid in
      let q : is_done (c.answer (length (copied_into o result grid))) ≡ true = ap (λ (m : ℕ). is_done (c.answer m)) n ∙ k in
      record {
        answered = w.answered ∙ ap says (done-told (x (length grid)) (slid_by c) d ∙ sym (done-told (c.answer (length (copied_into o result grid))) (slid_by c) q));
        left = w.left ∙ ap (λ (t : Bool). cond t (done_by r c (copied_into o c.scatter.result grid)) grid) d ∙ ap (λ (v : View). done_by r c (copied_into o v grid)) e
            ∙ sym (ap (λ (t : Bool). cond t (done_by r c (copied_into o result grid)) (copied_into o result grid)) q);
      }

  -- TWO SHIPS ON A CHART
  pub in-either-order-on : (r s : Rule) (na sa : ℕ → Answer) (north south : ScatterCall ℤ) (grid grid' m m' one other : List ℤ) (a b c d : B) → On r na north grid m a → Scatters (pos 0) (rule_i32 s) says south m one b
      → On s sa south grid' m' c → Scatters (pos 0) (rule_i32 r) says north m' other d → EitherOrderOn says r s o na sa north south grid grid' one other a b c d
  in-either-order-on r s na sa north south grid grid' m m' one other a b c d p q u v =
      record {
        north-first = p.answered;
        south-second = second-answer r s na north south grid m one a b p q;
        south-first = u.answered;
        north-second = second-answer s r sa south north grid' m' other c d u v;
        one_left = both_left r s na north south grid m one a b p q;
        other-left = both_left s r sa south north grid' m' other c d u v;
        both-done = λ e f x y k l.
            let g : List ℤ = copied_into o north.scatter.result grid in
            let n : length g ≡ length grid = length-copied (pos 0) o.view north.scatter.result o.elements grid in
            let h = subst (λ (z : List ℤ). On s sa south z m' c) (sym e) u in
            (in-either-order says r s north south g g m m' one other a b c d (alone r na north grid m a north.scatter.result refl x k p) q (alone s sa south grid m' c north.scatter.result (sym f) y l h) v
            ).both-done refl (ap (λ (j : ℕ). is_done (north.answer j)) n ∙ k) (ap (λ (j : ℕ). is_done (south.answer j)) n ∙ l);
      }

  -- A GATHER BESIDE A SCATTER ON A CHART
  pub beside-on : (r s : Rule) (na : ℕ → Answer) (first : ScatterCall ℤ) (g : GatherCall) (south : ScatterCall ℤ) (grid m after into into' one other : List ℤ) (f a b c : B) → On r na first grid m f → Gathers (pos 0) says g m into one a
      → Scatters (pos 0) (rule_i32 s) says south m after b → Gathers (pos 0) says g after into' other c → BesideOn says r s o na first g south grid after into into' one other f a b c
  beside-on r s na first g south grid m after into into' one other f a b c w p v q =
      record {
        first-answer = w.answered;
        beside = beside says s g south (left_on r o na first grid) after into into' one other a b c (subst (λ (z : List ℤ). Gathers (pos 0) says g z into one a) w.left p) (subst (λ (z : List ℤ). Scatters (pos 0) (rule_i32 s) says south z after b) w.left v) q;
      }
