-- What the runs leave, by what each call does: of any calls, however their answers are put. Assumes nothing.
use mathlib.Core.Path.{◌≡◌, refl, sym, ap, ap₂, subst, ◌∙◌}
use mathlib.Core.Bool.{Bool, true, false, cond, true≢false}
use mathlib.Core.List.{List, [], ◌++◌}
use Prim.Native.Nat.{ℕ, ◌<◌}
use lib.ListN.{length, get_or}
use lib.IntN.{ℤ, pos, ◌+ℤ◌}
use mir.Syntax.{w32}
use mir.Val.{SFits}
use Rattle.integer.specs.Defs.{wrap32}
use Rattle.indexing.specs.Gather.{gathered}
use Rattle.indexing.specs.Scatter.{Scatter, Update, placed_updates, combined, landing, scattered}
use Rattle.indexing.proofs.Updates.{length-combined}
use Rattle.indexing.specs.Slid.{slid_gather}
use Rattle.indexing.specs.Sums.{total}
use Rattle.indexing.proofs.Sums.{added-plain, total-append}
use Rattle.indexing.specs.Demand3.{Unseen}
use Rattle.indexing.proofs.Demand3.{unseen-by}
use Rattle.layout.specs.declared.CallAnswer.{CallAnswer}
use Rattle.layout.specs.Answers.{is_done, Answer}
use Rattle.layout.proofs.First.{done-is}
use Rattle.rules.specs.declared.Rule.{Rule}
use Rattle.rules.specs.declared.Rule.TheVariants as R
use Rattle.rules.specs.Rules.{rule_i32}
use Rattle.rules.specs.Swaps.{put_on, MaySwap, CellHolds, both-add}
use Rattle.rules.proofs.Laws.{cell, may-swap}
use Rattle.calls.specs.Calls.{GatherCall, ScatterCall, answer_with, Gathers, Scatters}
use Rattle.order.specs.Orders.{updates_of, put_by, slid_by, told, told_gather, done_with, done_by, EitherOrder, GatherBeside}

-- a call puts its updates on the grid
as-updates : (r : Rule) (t : Bool) (s : Scatter) (starts updates grid : List ℤ) → cond t (scattered (rule_i32 r) (pos 0) s starts updates grid) grid ≡ put_on r (cond t (placed_updates (pos 0) s starts updates) []) grid
unfolding scattered combined
as-updates r true s starts updates grid = refl
as-updates r false s starts updates grid = refl

done-updates : (t : Bool) (us : List (Update ℤ)) → t ≡ true → cond t us [] ≡ us
done-updates true us e = refl
done-updates false us e = absurd (true≢false (sym e))

-- what is told where it is done
pub done-told : (x : Answer) (number : ℕ) → is_done x ≡ true → answer_with x number ≡ done_with number
done-told x number e = ap₂ (λ (y : Answer) (t : Bool). record { answer = y; reported = cond t number 0 }) (done-is x e) e

-- the cells of a grid, where two Adds were put on it
sum_of : {r s : Rule} → r ≡ R.Add → s ≡ R.Add → (north south : List (Update ℤ)) (grid one : List ℤ) (i : ℕ) → SFits w32 (get_or grid i (pos 0)) → CellHolds r s north south grid one i
    → get_or one i (pos 0) ≡ wrap32 (get_or grid i (pos 0) +ℤ (total (landing (pos i) north) +ℤ total (landing (pos i) south)))
sum_of e f north south grid one i fits k =
    (subst (λ (q : Rule × Rule). CellHolds q.0 q.1 north south grid one i) (λ j. (e j, f j)) k).alike both-add
    ∙ added-plain (get_or grid i (pos 0)) (landing (pos i) north ++ landing (pos i) south) fits
    ∙ ap (λ (z : ℤ). wrap32 (get_or grid i (pos 0) +ℤ z)) (total-append (landing (pos i) north) (landing (pos i) south))

module _ {B : Type 0} (says : CallAnswer → B) where
  abbrev Does : Rule → ScatterCall ℤ → List ℤ → List ℤ → B → Type 0
  Does r c grid after handed = Scatters (pos 0) (rule_i32 r) says c grid after handed

  pub does-put : (r : Rule) (c : ScatterCall ℤ) (grid after : List ℤ) (handed : B) → Does r c grid after handed → after ≡ put_on r (put_by c (length grid)) grid
  does-put r c grid after handed w = w.left ∙ as-updates r (is_done (c.answer (length grid))) c.scatter c.starts c.updates grid

  same_length : (r : Rule) (c : ScatterCall ℤ) (grid after : List ℤ) (handed : B) → Does r c grid after handed → length after ≡ length grid
  same_length r c grid after handed w = ap length (does-put r c grid after handed w) ∙ length-combined (rule_i32 r) (pos 0) (put_by c (length grid)) grid

  -- one call after the other
  module _ (r s : Rule) (first second : ScatterCall ℤ) (grid middle after : List ℤ) (a b : B) (w : Does r first grid middle a) (v : Does s second middle after b) where
    second-answer : b ≡ says (told second (length grid))
    second-answer = v.answered ∙ ap (λ (n : ℕ). says (told second n)) (same_length r first grid middle a w)

    both_left : after ≡ put_on s (put_by second (length grid)) (put_on r (put_by first (length grid)) grid)
    both_left = does-put s second middle after b v ∙ ap₂ (λ (n : ℕ) (g : List ℤ). put_on s (put_by second n) g) (same_length r first grid middle a w) (does-put r first grid middle a w)

  -- where both are accepted, what they put is what they leave
  puts-done : (r s : Rule) (first second : ScatterCall ℤ) (grid : List ℤ) (n : ℕ) → is_done (first.answer n) ≡ true → is_done (second.answer n) ≡ true
      → put_on s (put_by second n) (put_on r (put_by first n) grid) ≡ done_by s second (done_by r first grid)
  unfolding scattered combined
  puts-done r s first second grid n x y = ap₂ (λ (u v : List (Update ℤ)). put_on s v (put_on r u grid)) (done-updates (is_done (first.answer n)) (updates_of first) x) (done-updates (is_done (second.answer n)) (updates_of second) y)

  -- TWO SCATTERS IN EITHER ORDER
  pub in-either-order : (r s : Rule) (north south : ScatterCall ℤ) (grid grid' m m' one other : List ℤ) (a b c d : B) → Does r north grid m a → Does s south m one b → Does s south grid' m' c → Does r north m' other d → EitherOrder says r s north south grid grid' one other a b c d
  in-either-order r s north south grid grid' m m' one other a b c d p q u v =
      let one_left = both_left r s north south grid m one a b p q in
      let other-left = both_left s r south north grid' m' other c d u v in
      let sb = second-answer r s north south grid m one a b p q in
      let nd = second-answer s r south north grid' m' other c d u v in
      let n : ℕ = length grid in
      let grids : grid ≡ grid' → MaySwap n r s (put_by north n) (put_by south n) → one ≡ other =
      λ e k.
      one_left ∙ may-swap r s (put_by north n) (put_by south n) grid k
      ∙ ap (λ (g : List ℤ). put_on r (put_by north (length g)) (put_on s (put_by south (length g)) g)) e ∙ sym other-left
      in
      let cells : (i : ℕ) → i < n → CellHolds r s (put_by north n) (put_by south n) grid one i =
      λ i h. subst (λ (g : List ℤ). CellHolds r s (put_by north n) (put_by south n) grid g i) (sym one_left) (cell r s (put_by north n) (put_by south n) grid i h) in
      record {
        north-first = p.answered;
        south-second = sb;
        south-first = u.answered;
        north-second = nd;
        one_left = one_left;
        other-left = other-left;
        same-answers = λ e. (p.answered ∙ ap (λ (g : List ℤ). says (told north (length g))) e ∙ sym nd, u.answered ∙ ap (λ (g : List ℤ). says (told south (length g))) (sym e) ∙ sym sb);
        same-grids = grids;
        each-cell = cells;
        both-done = λ e x y.
            let un : put_by north n ≡ updates_of north = done-updates (is_done (north.answer n)) (updates_of north) x in
            let us : put_by south n ≡ updates_of south = done-updates (is_done (south.answer n)) (updates_of south) y in
            let tn : told north n ≡ done_with (slid_by north) = done-told (north.answer n) (slid_by north) x in
            let ts : told south n ≡ done_with (slid_by south) = done-told (south.answer n) (slid_by south) y in
            let m : length grid' ≡ n = ap length (sym e) in
            let each : (i : ℕ) → i < n → CellHolds r s (updates_of north) (updates_of south) grid one i =
            λ i h. subst (λ (z : List (Update ℤ) × List (Update ℤ)). CellHolds r s z.0 z.1 grid one i) (λ j. (un j, us j)) (cells i h) in
            record {
              answers = (p.answered ∙ ap says tn, sb ∙ ap says ts, u.answered ∙ ap (λ (k : ℕ). says (told south k)) m ∙ ap says ts, nd ∙ ap (λ (k : ℕ). says (told north k)) m ∙ ap says tn);
              one_left = one_left ∙ puts-done r s north south grid n x y;
              other-left = other-left ∙ ap₂ (λ (k : ℕ) (g : List ℤ). put_on r (put_by north k) (put_on s (put_by south k) g)) m (sym e) ∙ puts-done s r south north grid n y x;
              same-grids = λ k. grids e (subst (λ (z : List (Update ℤ) × List (Update ℤ)). MaySwap n r s z.0 z.1) (λ j. (sym un j, sym us j)) k);
              each-cell = each;
              each-sum = λ ra sa i h f. sum_of ra sa (updates_of north) (updates_of south) grid one i f (each i h);
            };
      }

  -- where South lands on nothing that is read, the gather leaves the same
  unseen-updates : (s : Rule) (t : Bool) (g : GatherCall) (south : ScatterCall ℤ) (grid into : List ℤ) → (t ≡ true → Unseen g.gather g.starts south.scatter south.starts)
      → gathered (pos 0) g.gather g.starts (put_on s (cond t (updates_of south) []) grid) into ≡ gathered (pos 0) g.gather g.starts grid into
  unfolding combined
  unseen-updates s true g south grid into u = unseen-by (rule_i32 s) (pos 0) g.gather g.starts south.scatter south.starts south.updates grid into (u refl)
  unseen-updates s false g south grid into u = refl

  -- A GATHER BESIDE A SCATTER
  pub beside : (s : Rule) (g : GatherCall) (south : ScatterCall ℤ) (grid after into into' one other : List ℤ) (a b c : B) → Gathers (pos 0) says g grid into one a → Does s south grid after b → Gathers (pos 0) says g after into' other c → GatherBeside says s g south grid after into into' one other a b c
  beside s g south grid after into into' one other a b c p w q =
      let gl = does-put s south grid after b w in
      let ln : length after ≡ length grid = same_length s south grid after b w in
      let aa : c ≡ says (told_gather g (length grid) (length into')) = q.answered ∙ ap (λ (n : ℕ). says (told_gather g n (length into'))) ln in
      let tl : other ≡ cond (is_done (g.answer (length grid) (length into'))) (gathered (pos 0) g.gather g.starts after into') into' = q.left ∙ ap (λ (n : ℕ). cond (is_done (g.answer n (length into'))) (gathered (pos 0) g.gather g.starts after into') into') ln in
      let same-as : into ≡ into' → (is_done (south.answer (length grid)) ≡ true → Unseen g.gather g.starts south.scatter south.starts) → (a ≡ c) × (one ≡ other) = λ e u. (
      let sa : g.answer (length grid) (length into) ≡ g.answer (length grid) (length into') = ap (λ (l : List ℤ). g.answer (length grid) (length l)) e in
      let sg : gathered (pos 0) g.gather g.starts grid into ≡ gathered (pos 0) g.gather g.starts after into' =
      sym (unseen-updates s (is_done (south.answer (length grid))) g south grid into u) ∙ ap₂ (λ (x l : List ℤ). gathered (pos 0) g.gather g.starts x l) (sym gl) e in
      (p.answered ∙ ap (λ (x : Answer). says (answer_with x (slid_gather g.gather g.starts))) sa ∙ sym aa, p.left ∙ (λ j. cond (is_done (sa j)) (sg j) (e j)) ∙ sym tl)) in
      record {
        before-answer = p.answered;
        south-answer = w.answered;
        after-answer = aa;
        one_left = p.left;
        grid-left = gl;
        other-left = tl;
        same = λ e u. same-as e u;
        all_done = λ e x y u.
            let ng : told_gather g (length grid) (length into) ≡ done_with (slid_gather g.gather g.starts) = done-told (g.answer (length grid) (length into)) (slid_gather g.gather g.starts) x in
            let ns : told south (length grid) ≡ done_with (slid_by south) = done-told (south.answer (length grid)) (slid_by south) y in
            let k = same-as e (λ _. u) in
            let o : one ≡ gathered (pos 0) g.gather g.starts grid into = p.left ∙ ap (λ (t : Bool). cond t (gathered (pos 0) g.gather g.starts grid into) into) x in
            record {
              answers = (p.answered ∙ ap says ng, w.answered ∙ ap says ns, sym k.0 ∙ p.answered ∙ ap says ng);
              grid-left = w.left ∙ ap (λ (t : Bool). cond t (done_by s south grid) grid) y;
              one_left = o;
              other-left = sym k.1;
            };
      }
