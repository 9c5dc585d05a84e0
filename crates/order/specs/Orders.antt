-- To be believed. Demand 3: two scatters on one grid, and a gather beside a scatter, as claims about runs from beginning to end. The grid is a whole lent slice of i32,
-- and each ship's scatter, document 01's North and South, is a scatter call with a rule: North's is r, South's s. What is handed back is the answer with the number of windows that slid, as `says` puts them.
-- Definitions only.
use Rattle.std.specs.Prelude.{◌≡◌, true, cond, List, [], ℕ, ◌<◌, length, get_or, ℤ, pos, ◌+ℤ◌, Ok}
use Rattle.std.specs.Int.{w32}
use Rattle.std.proofs.Common.{SFits}
use Rattle.integer.specs.Defs.{wrap32}
use Rattle.indexing.specs.Gather.{gathered}
use Rattle.indexing.specs.Scatter.{Update, placed_updates, landing, scattered}
use Rattle.indexing.specs.Slid.{slid_gather, slid_scatter}
use Rattle.indexing.specs.Sums.{total}
use Rattle.indexing.specs.Demand3.{Unseen}
use Rattle.layout.specs.declared.CallAnswer.{CallAnswer}
use Rattle.layout.specs.Answers.{is_done}
use Rattle.rules.specs.declared.Rule.{Rule}
use Rattle.rules.specs.declared.Rule.TheVariants as R
use Rattle.rules.specs.Rules.{rule_i32}
use Rattle.rules.specs.Swaps.{put_on, MaySwap, CellHolds}
use Rattle.calls.specs.Calls.{GatherCall, ScatterCall, answer_with}

-- the updates of a call with the places that they land on
abbrev pub updates_of : ScatterCall ℤ → List (Update ℤ)
updates_of c = placed_updates (pos 0) c.scatter c.starts c.updates

-- what it puts on a grid of n elements: "Accepted means that the call meets no refusal, so it is done"; a refused call puts nothing. Its answer looks at
-- plan, layouts, offsets and lengths, and at no element
abbrev pub put_by : ScatterCall ℤ → ℕ → List (Update ℤ)
put_by c n = cond (is_done (c.answer n)) (updates_of c) []

-- how many of a scatter's windows slid
abbrev pub slid_by : ScatterCall ℤ → ℕ
slid_by c = slid_scatter c.scatter c.starts

-- what a ship is told by a scatter on a grid of n elements, and by a gather: the answer, with the number that is reported where it is done
abbrev pub told : ScatterCall ℤ → ℕ → CallAnswer
told c n = answer_with (c.answer n) (slid_by c)

abbrev pub told_gather : GatherCall → ℕ → ℕ → CallAnswer
told_gather g n m = answer_with (g.answer n m) (slid_gather g.gather g.starts)

-- that it is done, with the number
abbrev pub done_with : ℕ → CallAnswer
done_with number = record { answer = Ok tt; reported = number }

-- a scatter of a call on a grid by a rule, as `scattered` has it
abbrev pub done_by : Rule → ScatterCall ℤ → List ℤ → List ℤ
done_by r c grid = scattered (rule_i32 r) (pos 0) c.scatter c.starts c.updates grid

-- BOTH ACCEPTED, on grids that were equal: all four are told that it is done, each ship with its own number; where the two may swap both orders leave the same grid; and each cell is as its
-- pairing says
pub record BothDone {B : Type 0} (says : CallAnswer → B) (r s : Rule) (north south : ScatterCall ℤ) (grid one other : List ℤ) (a b c d : B) : Type 0 where
  pub answers : (a ≡ says (done_with (slid_by north))) × (b ≡ says (done_with (slid_by south))) × (c ≡ says (done_with (slid_by south))) × (d ≡ says (done_with (slid_by north)))
  pub one_left : one ≡ done_by s south (done_by r north grid)
  pub other-left : other ≡ done_by r north (done_by s south grid)
  pub same-grids : MaySwap (length grid) r s (updates_of north) (updates_of south) → one ≡ other
  pub each-cell : (i : ℕ) → i < length grid → CellHolds r s (updates_of north) (updates_of south) grid one i
  -- two Adds, where the cell holds an i32: the sum written out
  pub each-sum : r ≡ R.Add → s ≡ R.Add → (i : ℕ) → i < length grid → SFits w32 (get_or grid i (pos 0)) → get_or one i (pos 0) ≡ wrap32 (get_or grid i (pos 0) +ℤ (total (landing (pos i) (updates_of north)) +ℤ total (landing (pos i) (updates_of south))))

-- TWO SHIPS, ONE GRID: North and then South on the grid `one`, South and then North on the grid `other`, which held `grid` and `grid'` before
pub record EitherOrder {B : Type 0} (says : CallAnswer → B) (r s : Rule) (north south : ScatterCall ℤ) (grid grid' one other : List ℤ) (a b c d : B) : Type 0 where
  -- the four answers, and the two grids, are those of the runs
  pub north-first : a ≡ says (told north (length grid))
  pub south-second : b ≡ says (told south (length grid))
  pub south-first : c ≡ says (told south (length grid'))
  pub north-second : d ≡ says (told north (length grid'))
  pub one_left : one ≡ put_on s (put_by south (length grid)) (put_on r (put_by north (length grid)) grid)
  pub other-left : other ≡ put_on r (put_by north (length grid')) (put_on s (put_by south (length grid')) grid')
  -- if the grids are equal at entry, each ship is handed back the same in both orders, by any rules,
  pub same-answers : grid ≡ grid' → (a ≡ d) × (c ≡ b)
  -- and the grids are equal at the end where the two may swap: by two Adds, two Lowest or two Highest, or where no element gets an update from both
  pub same-grids : grid ≡ grid' → MaySwap (length grid) r s (put_by north (length grid)) (put_by south (length grid)) → one ≡ other
  -- every cell is as its pairing says; one that nothing lands on keeps its value
  pub each-cell : (i : ℕ) → i < length grid → CellHolds r s (put_by north (length grid)) (put_by south (length grid)) grid one i
  -- both accepted
  pub both-done : grid ≡ grid' → is_done (north.answer (length grid)) ≡ true → is_done (south.answer (length grid)) ≡ true → BothDone says r s north south grid one other a b c d

-- ALL ACCEPTED, on destinations that were equal, South landing on nothing that is read: all three are told that it is done, the gathers with one number, and both gathers leave what
-- the gather reads of the grid as it was
pub record AllDone {B : Type 0} (says : CallAnswer → B) (s : Rule) (g : GatherCall) (south : ScatterCall ℤ) (grid after into one other : List ℤ) (a b c : B) : Type 0 where
  pub answers : (a ≡ says (done_with (slid_gather g.gather g.starts))) × (b ≡ says (done_with (slid_by south))) × (c ≡ says (done_with (slid_gather g.gather g.starts)))
  pub grid-left : after ≡ done_by s south grid
  pub one_left : one ≡ gathered (pos 0) g.gather g.starts grid into
  pub other-left : other ≡ one

-- A GATHER BESIDE A SCATTER, by any rule of South's: one gather from the grid as it stands, South's scatter on that grid, and the same gather again, into `into` and `into'`,
-- which then hold `one` and `other`; the grid, `grid` before, is `after`
pub record GatherBeside {B : Type 0} (says : CallAnswer → B) (s : Rule) (g : GatherCall) (south : ScatterCall ℤ) (grid after into into' one other : List ℤ) (a b c : B) : Type 0 where
  -- the three runs
  pub before-answer : a ≡ says (told_gather g (length grid) (length into))
  pub south-answer : b ≡ says (told south (length grid))
  pub after-answer : c ≡ says (told_gather g (length grid) (length into'))
  pub one_left : one ≡ cond (is_done (g.answer (length grid) (length into))) (gathered (pos 0) g.gather g.starts grid into) into
  pub grid-left : after ≡ put_on s (put_by south (length grid)) grid
  pub other-left : other ≡ cond (is_done (g.answer (length grid) (length into'))) (gathered (pos 0) g.gather g.starts after into') into'
  -- if South, where it is accepted, lands on no element that the gather reads, the gather hands back the same and the destinations are equal, as whole slices
  pub same : into ≡ into' → (is_done (south.answer (length grid)) ≡ true → Unseen g.gather g.starts south.scatter south.starts) → (a ≡ c) × (one ≡ other)
  -- all accepted
  pub all_done : into ≡ into' → is_done (g.answer (length grid) (length into)) ≡ true → is_done (south.answer (length grid)) ≡ true → Unseen g.gather g.starts south.scatter south.starts
      → AllDone says s g south grid after into one other a b c
