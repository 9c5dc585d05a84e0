-- To be believed. Demand 3 on a chart: "for two ships the chart is copied once, before either, and through the same destination in both orders"; in the gather half the copy comes
-- before both runs, and South's work is its updates alone. The first ship of an order has the operand, the second puts its updates alone. Definitions only.
use Rattle.std.specs.Prelude.{◌≡◌, true, cond, List, ℕ, length, ℤ, pos}
use Rattle.indexing.specs.Coordinates.{View}
use Rattle.indexing.specs.Operand.{operand_copied}
use Rattle.layout.specs.declared.CallAnswer.{CallAnswer}
use Rattle.layout.specs.Answers.{is_done, Answer}
use Rattle.rules.specs.declared.Rule.{Rule}
use Rattle.rules.specs.Swaps.{put_on}
use Rattle.calls.specs.Calls.{GatherCall, ScatterCall, answer_with}
use Rattle.operand_calls.specs.Calls.{Operand}
use Rattle.order.specs.Orders.{put_by, slid_by, told, done_by, BothDone, GatherBeside}

-- the grid once the operand is copied into it, through a destination
abbrev pub copied_into : Operand ℤ → View → List ℤ → List ℤ
copied_into o result grid = operand_copied (pos 0) o.view result o.elements grid

-- what a ship that has the operand leaves of a grid: the copy and its updates on it, or the grid as it was where it is refused; `answer` is its answer with the operand
abbrev pub left_on : Rule → Operand ℤ → (ℕ → Answer) → ScatterCall ℤ → List ℤ → List ℤ
left_on r o answer c grid = cond (is_done (answer (length grid))) (done_by r c (copied_into o c.scatter.result grid)) grid

-- TWO SHIPS ON A CHART: North with the operand and then South's updates on the grid `one`; South with the operand and then North's updates on the grid `other`. `na` and `sa` are the answers
-- with the operand, of a grid's length; `north` and `south` are the two ships' updates alone
pub record EitherOrderOn {B : Type 0} (says : CallAnswer → B) (r s : Rule) (o : Operand ℤ) (na sa : ℕ → Answer) (north south : ScatterCall ℤ) (grid grid' one other : List ℤ) (a b c d : B) : Type 0 where
  -- the four answers, and the two grids, are those of the runs
  pub north-first : a ≡ says (answer_with (na (length grid)) (slid_by north))
  pub south-second : b ≡ says (told south (length grid))
  pub south-first : c ≡ says (answer_with (sa (length grid')) (slid_by south))
  pub north-second : d ≡ says (told north (length grid'))
  pub one_left : one ≡ put_on s (put_by south (length grid)) (left_on r o na north grid)
  pub other-left : other ≡ put_on r (put_by north (length grid')) (left_on s o sa south grid')
  -- all accepted, on equal grids, the copy through the same destination: all that is said of two ships on the grid into which the operand was copied, the old value of each cell being that grid's
  pub both-done : grid ≡ grid' → north.scatter.result ≡ south.scatter.result → is_done (na (length grid)) ≡ true → is_done (sa (length grid)) ≡ true
      → is_done (north.answer (length grid)) ≡ true → is_done (south.answer (length grid)) ≡ true → BothDone says r s north south (copied_into o north.scatter.result grid) one other a b c d

-- A GATHER BESIDE A SCATTER ON A CHART: the copy comes first, by a ship's scatter with the operand; then a gather, South's updates alone, and the same gather again
pub record BesideOn {B : Type 0} (says : CallAnswer → B) (r s : Rule) (o : Operand ℤ) (na : ℕ → Answer) (first : ScatterCall ℤ) (g : GatherCall) (south : ScatterCall ℤ) (grid after into into' one other : List ℤ) (f a b c : B) : Type 0 where
  pub first-answer : f ≡ says (answer_with (na (length grid)) (slid_by first))
  pub beside : GatherBeside says s g south (left_on r o na first grid) after into into' one other a b c
