use Rattle.std.proofs.Common.{◌≡◌, arith, ◌<◌, length, sym, ◌∙◌}
use Rattle.indexing.specs.Coordinates.{pick}
use Rattle.indexing.specs.Axes.{length-pick, get_or-pick}
use Rattle.axis_lists.proofs.Slices.{same-lengths, same-differ, same_next, same_end}
use Rattle.axis_lists.proofs.picked_same.Goals as goal

pub returns-then-axes-others : goal.returns-then-axes-others
returns-then-axes-others c =
    same-lengths (pick 0 c.args.axes.now c.args.list.now) (pick 0 c.args.others.now c.args.sizes.now)
    (λ (e : _ ≡ _). c.if-axes-others.true (sym (length-pick 0 c.args.axes.now c.args.list.now) ∙ e ∙ length-pick 0 c.args.others.now c.args.sizes.now))

pub returns-then-entry_at : goal.returns-then-entry_at
returns-then-entry_at c =
    let a = c.args in
    let h : c.loop-i.i < length a.axes.now = c.loop-i-test.true in
    let x = get_or-pick 0 a.axes.now a.list.now c.loop-i.i h in
    let y = get_or-pick 0 a.others.now a.sizes.now c.loop-i.i (omega (arith, c.if-axes-others.false, h)) in
    same-differ (pick 0 a.axes.now a.list.now) (pick 0 a.others.now a.sizes.now) c.loop-i.i
    (omega (arith, length-pick 0 a.axes.now a.list.now, h)) (omega (arith, length-pick 0 a.others.now a.sizes.now, c.if-axes-others.false, h))
    (λ e. c.if-entry_at.true (c.entry_at.ensures ∙ sym x ∙ e ∙ y ∙ sym c.entry_at-in-loop-i.ensures))
    ∙ c.loop-i.invariant

pub loop-i-preserved : goal.loop-i-preserved
loop-i-preserved c =
    let a = c.args in
    let h : c.loop-i.i < length a.axes.now = c.loop-i-test.true in
    let x = get_or-pick 0 a.axes.now a.list.now c.loop-i.i h in
    let y = get_or-pick 0 a.others.now a.sizes.now c.loop-i.i (omega (arith, c.if-axes-others.false, h)) in
    same_next (pick 0 a.axes.now a.list.now) (pick 0 a.others.now a.sizes.now) c.loop-i.i
    (omega (arith, length-pick 0 a.axes.now a.list.now, h)) (omega (arith, length-pick 0 a.others.now a.sizes.now, c.if-axes-others.false, h))
    (x ∙ sym c.entry_at.ensures ∙ c.if-entry_at.false ∙ c.entry_at-in-loop-i.ensures ∙ sym y)
    ∙ c.loop-i.invariant

pub returns : goal.returns
returns c =
    let a = c.args in
    same_end (pick 0 a.axes.now a.list.now) (pick 0 a.others.now a.sizes.now) c.loop-i.i
    (omega (arith, length-pick 0 a.axes.now a.list.now, c.loop-i-test.false)) (omega (arith, length-pick 0 a.others.now a.sizes.now, c.if-axes-others.false, c.loop-i-test.false))
    ∙ c.loop-i.invariant
