use Rattle.std.proofs.Common.{rules, arith, sym, ◌∙◌, ◌-◌, ◌≤◌, min, length, pos}
use Rattle.integer.specs.Z.{back}
use Rattle.indexing.specs.Coordinates.{pick}
use Rattle.indexing.specs.Axes.{length-pick, get_or-pick}
use Rattle.layout.specs.Layouts.{rank_limit}
use mir.Syntax.{w64}
use mir.Val.{SFits}
use Rattle.axis_lists.proofs.Filling.{spread-here, spread-past, spread-all, spread_none}
use Rattle.axis_lists.proofs.Slices.{all_same}
use Rattle.axis_lists.proofs.spread_picked.Goals as goal

pub loop-i-init : goal.loop-i-init
loop-i-init c =
    let a = c.args in
    all_same (pos 0) (min a.n rank_limit) (omega arith)
    ∙ spread_none (pos 0) (pos 0) (min a.n rank_limit) a.places.now (pick (pos 0) a.axes.now a.list.now) c.min-i.result (omega (arith, c.min-i.ensures, length-pick (pos 0) a.axes.now a.list.now))

pub loop-i-preserved-then-place-count : goal.loop-i-preserved-then-place-count
loop-i-preserved-then-place-count c =
    let a = c.args in
    let i = c.loop-i.i in
    let f : SFits w64 c.stride_at.result = search rules in
    let h : i ≤ min (length a.places.now) (length a.axes.now) = omega (arith, c.loop-i.auto.i, c.min-i.ensures) in
    spread-here (pos 0) (pos 0) (min a.n rank_limit) a.places.now (pick (pos 0) a.axes.now a.list.now) c.loop-i.out i _ (omega arith) c.loop-i-test.true (omega (arith, h, length-pick (pos 0) a.axes.now a.list.now)) (omega (arith, c.axis_count-count.ensures, c.if-place-count.true))
    c.loop-i.invariant
    (back f ∙ c.stride_at.ensures ∙ sym (get_or-pick (pos 0) a.axes.now a.list.now (i - 1) (omega (arith, h, c.loop-i-test.true))))

pub loop-i-preserved : goal.loop-i-preserved
loop-i-preserved c =
    let a = c.args in
    let h : c.loop-i.i ≤ min (length a.places.now) (length a.axes.now) = omega (arith, c.loop-i.auto.i, c.min-i.ensures) in
    spread-past (pos 0) (pos 0) (min a.n rank_limit) a.places.now (pick (pos 0) a.axes.now a.list.now) c.loop-i.out c.loop-i.i (omega arith) c.loop-i-test.true (omega (arith, h, length-pick (pos 0) a.axes.now a.list.now)) (omega (arith, c.axis_count-count.ensures, c.if-place-count.false))
    c.loop-i.invariant

pub returns : goal.returns
returns c =
    let a = c.args in
    spread-all (pos 0) (pos 0) (min a.n rank_limit) a.places.now (pick (pos 0) a.axes.now a.list.now) c.loop-i.out c.loop-i.i (omega arith) (omega (arith, c.loop-i-test.false)) c.loop-i.invariant
