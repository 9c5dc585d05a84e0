use Rattle.std.proofs.Common.{arith, sym, ◌∙◌, ◌-◌, min, length}
use Rattle.indexing.specs.Coordinates.{pick}
use Rattle.indexing.specs.Axes.{length-pick, get_or-pick, get_d_any}
use Rattle.layout.specs.Layouts.{rank_limit}
use Rattle.axis_lists.proofs.Filling.{spread_none, spread-here, spread-past, spread-all}
use Rattle.axis_lists.proofs.Slices.{all_same}
use Rattle.scatter_checks.proofs.spread_windows.Goals as goal

pub loop-i-init : goal.loop-i-init
loop-i-init c =
    let a = c.args in
    let n = length-pick 0 a.window.now a.updates.now in
    all_same 1 (min a.n rank_limit) (omega arith) ∙ spread_none 1 1 (min a.n rank_limit) a.kept.now (pick 0 a.window.now a.updates.now) (length a.kept.now) (omega (arith, n, c.requires))

pub loop-i-preserved-then-place-m : goal.loop-i-preserved-then-place-m
loop-i-preserved-then-place-m c =
    let a = c.args in
    let i = c.loop-i.i in
    let sizes = pick 0 a.window.now a.updates.now in
    let n = length-pick 0 a.window.now a.updates.now in
    spread-here 1 1 (min a.n rank_limit) a.kept.now sizes c.loop-i.out i c.entry_at.result (omega arith) c.loop-i-test.true (omega (arith, n, c.requires, c.loop-i.auto.i)) (omega (arith, c.axis_count-m.ensures, c.if-place-m.true))
    c.loop-i.invariant
    (c.entry_at.ensures ∙ sym (get_or-pick 0 a.window.now a.updates.now (i - 1) (omega (arith, c.requires, c.loop-i.auto.i, c.loop-i-test.true))) ∙ get_d_any sizes (i - 1) 0 1 (omega (arith, n, c.requires, c.loop-i.auto.i, c.loop-i-test.true)))

pub loop-i-preserved : goal.loop-i-preserved
loop-i-preserved c =
    let a = c.args in
    let n = length-pick 0 a.window.now a.updates.now in
    spread-past 1 1 (min a.n rank_limit) a.kept.now (pick 0 a.window.now a.updates.now) c.loop-i.out c.loop-i.i (omega arith) c.loop-i-test.true (omega (arith, n, c.requires, c.loop-i.auto.i)) (omega (arith, c.axis_count-m.ensures, c.if-place-m.false))
    c.loop-i.invariant

pub returns : goal.returns
returns c =
    let a = c.args in
    spread-all 1 1 (min a.n rank_limit) a.kept.now (pick 0 a.window.now a.updates.now) c.loop-i.out c.loop-i.i (omega arith) (omega (arith, c.loop-i-test.false)) c.loop-i.invariant
