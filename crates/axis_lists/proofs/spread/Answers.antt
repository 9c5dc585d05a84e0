use Rattle.std.proofs.Common.{arith, ap, sym, ◌∙◌, ◌-◌, min, length}
use Rattle.std.proofs.lemmas.List.{get_or_read_under}
use Rattle.indexing.specs.Coordinates.{spread}
use Rattle.indexing.specs.Axes.{length-spread}
use Rattle.layout.specs.Layouts.{rank_limit}
use Rattle.axis_lists.specs.declared.AxisList.{AxisList}
use Rattle.axis_lists.proofs.Filling.{list-is, spread-none-held, spread-here, spread-past, spread-all}
use Rattle.axis_lists.proofs.spread.Goals as goal

pub loop-i-init : goal.loop-i-init
loop-i-init g c =
    let a = c.args in
    ap (λ (l : AxisList _). l.entries) c.from_slice.ensures
    ∙ spread-none-held a.rest a.other (min a.n rank_limit) c.axis_count-count.result a.axes.now a.list.now c.min-i.result (omega arith) c.axis_count-count.ensures (omega (arith, c.min-i.ensures))

pub loop-i-preserved-then-axis-count : goal.loop-i-preserved-then-axis-count
loop-i-preserved-then-axis-count g c =
    let a = c.args in
    spread-here a.rest a.other (min a.n rank_limit) a.axes.now a.list.now c.loop-i.entries c.loop-i.i c.index-list-i.result (omega arith) c.loop-i-test.true (omega (arith, c.loop-i.auto.i, c.min-i.ensures)) (omega (arith, c.axis_count-count.ensures, c.if-axis-count.true))
    c.loop-i.invariant
    (get_or_read_under a.list.now (c.loop-i.i - 1) (length a.list.now) c.index-list-i.result a.rest c.index-list-i.is (omega (arith, c.loop-i-test.true, c.loop-i.auto.i, c.min-i.ensures)) (λ i. length a.list.now))

pub loop-i-preserved : goal.loop-i-preserved
loop-i-preserved g c =
    let a = c.args in
    spread-past a.rest a.other (min a.n rank_limit) a.axes.now a.list.now c.loop-i.entries c.loop-i.i (omega arith) c.loop-i-test.true (omega (arith, c.loop-i.auto.i, c.min-i.ensures)) (omega (arith, c.axis_count-count.ensures, c.if-axis-count.false))
    c.loop-i.invariant

pub returns : goal.returns
returns g c =
    let a = c.args in
    list-is a.rest _ _ (spread a.other (min a.n rank_limit) a.axes.now a.list.now) (c.axis_count-count.ensures ∙ sym (length-spread a.other (min a.n rank_limit) a.axes.now a.list.now))
    (spread-all a.rest a.other (min a.n rank_limit) a.axes.now a.list.now c.loop-i.entries c.loop-i.i (omega arith) (omega (arith, c.loop-i-test.false)) c.loop-i.invariant)
