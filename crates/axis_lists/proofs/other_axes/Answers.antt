use Rattle.std.proofs.Common.{◌≡◌, ◌<◌, arith, ℕ, ◌+◌, ◌-◌, min, length, sym, ap, ◌∙◌}
use lib.ListN.{drop}
use Rattle.indexing.specs.Coordinates.{others, others_from}
use Rattle.layout.specs.Layouts.{rank_limit}
use Rattle.axis_lists.proofs.Filling.{list-is, written, any-has, next-written, written-all, others-skip, others-take, others-done, length-others, Head, head_of, at-end}
use Rattle.axis_lists.proofs.other_axes.Goals as goal
use Rattle.axis_lists.proofs.other_axes.Goals.{then-not-contains, else-not-contains}

-- an axis that the list has not is the next of the others
here : (c : goal.Then-not-contains) → Head 0 (others (min c.args.n rank_limit) c.args.list.now) c.loop-i.count c.loop-i.i (others_from (c.loop-i.i + 1) (min c.args.n rank_limit - (c.loop-i.i + 1)) c.args.list.now)
here c =
    head_of 0 (others (min c.args.n rank_limit) c.args.list.now) c.loop-i.count c.loop-i.i _
    (c.loop-i.invariant.left
    ∙ others-take c.args.list.now c.loop-i.i (min c.args.n rank_limit) (omega (arith, c.axis_count-i-end.ensures, c.loop-i-test.true)) (sym (any-has c.args.list.now c.loop-i.i) ∙ sym c.contains.ensures.value ∙ c.if-not-contains.true))

pub offset_bounds-entries-count : goal.offset_bounds-entries-count
offset_bounds-entries-count c = let h = here c in omega (arith, h.more, length-others 0 (min c.args.n rank_limit) c.args.list.now)

pub bounds-entries-count : goal.bounds-entries-count
bounds-entries-count c = let h = here c in omega (arith, h.more, length-others 0 (min c.args.n rank_limit) c.args.list.now)

pub overflow_add-count : goal.overflow_add-count
overflow_add-count c = let h = here c in omega (arith, h.more, length-others 0 (min c.args.n rank_limit) c.args.list.now)

pub loop-i-preserved : goal.loop-i-preserved
loop-i-preserved c =
    let m = min c.args.n rank_limit in
    let l = others m c.args.list.now in
    let i = c.loop-i.invariant in
    let below : c.loop-i.i < m = omega (arith, c.axis_count-i-end.ensures, c.loop-i-test.true) in
    let had = sym (any-has c.args.list.now c.loop-i.i) ∙ sym c.contains.ensures.value in
    elim c.if-not-contains.branch [
      | then-not-contains w ↦
          let h = head_of 0 l c.loop-i.count c.loop-i.i _ (i.left ∙ others-take c.args.list.now c.loop-i.i m below (had ∙ w.if-not-contains.true)) in
          record {
            counted = omega (arith, h.more, w.count-is);
            stored = w.entries-is ∙ next-written 0 l c.loop-i.entries c.loop-i.count c.loop-i.i (omega (arith, h.more, length-others 0 m c.args.list.now)) i.stored (sym h.first) ∙ ap (written 0 l) (sym w.count-is);
            left = ap (λ (k : ℕ). drop k l) w.count-is ∙ h.next;
          }
      | else-not-contains w ↦
          record {
            counted = omega (arith, i.counted, w.count-is);
            stored = w.entries-is ∙ i.stored ∙ ap (written 0 l) (sym w.count-is);
            left = ap (λ (k : ℕ). drop k l) w.count-is ∙ i.left ∙ others-skip c.args.list.now c.loop-i.i m below (had ∙ w.if-not-contains.false);
          }
    ]

pub returns : goal.returns
returns c =
    let l = others (min c.args.n rank_limit) c.args.list.now in
    let i = c.loop-i.invariant in
    let k : c.loop-i.count ≡ length l = at-end l c.loop-i.count i.counted (i.left ∙ others-done c.args.list.now c.loop-i.i (min c.args.n rank_limit) (omega (arith, c.axis_count-i-end.ensures, c.loop-i-test.false))) in
    list-is 0 c.loop-i.count c.loop-i.entries l k (written-all 0 l c.loop-i.entries c.loop-i.count (omega (arith, k, length-others 0 (min c.args.n rank_limit) c.args.list.now)) i.stored)
