use Rattle.std.proofs.Common.{arith, sym, ◌∙◌}
use Rattle.indexing.specs.Coordinates.{pick}
use Rattle.indexing.specs.Axes.{length-pick, get_or-pick}
use Rattle.axis_lists.proofs.Filling.{list-is, next-written, written-all}
use Rattle.axis_lists.proofs.pick.Goals as goal

pub loop-i-preserved : goal.loop-i-preserved
loop-i-preserved g c =
    next-written c.args.rest (pick c.args.rest c.args.axes.now c.args.list.now) c.loop-i.entries c.loop-i.i c.entry_or.result
    (omega (arith, length-pick c.args.rest c.args.axes.now c.args.list.now, c.axis_count-i-end.ensures, c.loop-i-test.true))
    c.loop-i.invariant
    (c.entry_or.ensures ∙ sym (get_or-pick c.args.rest c.args.axes.now c.args.list.now c.loop-i.i (omega (arith, c.axis_count-i-end.ensures, c.loop-i-test.true))))

pub returns : goal.returns
returns g c =
    let l = pick c.args.rest c.args.axes.now c.args.list.now in
    let h = length-pick c.args.rest c.args.axes.now c.args.list.now in
    list-is c.args.rest _ _ l (sym h) (written-all c.args.rest l c.loop-i.entries c.loop-i.i (omega (arith, h, c.axis_count-i-end.ensures, c.loop-i-test.false, c.loop-i.auto.i-end)) c.loop-i.invariant)
