use Rattle.std.proofs.Common.{refl, length, nat_abs, ◌<◌, ◌∙◌, arith}
use mathlib.Core.Path.{ap₂}
use borrow.Author.Rules.{rules, scaled_Fits}
use Rattle.std.proofs.lemmas.List.{get_or_default}
use Rattle.runs.proofs.Turns.{none}
use Rattle.runs.proofs.Place.{Step, step, machine}
use Rattle.runs.proofs.Runs.{turn}
use Rattle.runs.proofs.strided_run.Goals as goal

pub loop-i-init : goal.loop-i-init
loop-i-init g c = none _ 0 _ refl

pub overflow_mul-a : goal.overflow_mul-a
overflow_mul-a g c = (step _ _ c.args.n _ c.ranges.s c.ranges.ss c.requires.source (omega arith) _ c.loop-i-test.true).multiple

pub overflow_add-a : goal.overflow_add-a
overflow_add-a g c = (step _ _ c.args.n _ c.ranges.s c.ranges.ss c.requires.source (omega arith) _ c.loop-i-test.true).fits

pub overflow_cast-a : goal.overflow_cast-a
overflow_cast-a g c = (step _ _ c.args.n _ c.ranges.s c.ranges.ss c.requires.source (omega arith) _ c.loop-i-test.true).cast

pub overflow_mul-b : goal.overflow_mul-b
overflow_mul-b g c = (step _ _ c.args.n _ c.ranges.d c.ranges.ds c.requires.dest (omega arith) _ c.loop-i-test.true).multiple

pub overflow_add-b : goal.overflow_add-b
overflow_add-b g c = (step _ _ c.args.n _ c.ranges.d c.ranges.ds c.requires.dest (omega arith) _ c.loop-i-test.true).fits

pub overflow_cast-b : goal.overflow_cast-b
overflow_cast-b g c = (step _ _ c.args.n _ c.ranges.d c.ranges.ds c.requires.dest (omega arith) _ c.loop-i-test.true).cast

pub offset_bounds-dst-b : goal.offset_bounds-dst-b
offset_bounds-dst-b g c =
    let h : nat_abs (machine c.args.d c.args.ds c.loop-i.i) < length c.loop-i.dst = omega (arith, (step _ _ c.args.n _ c.ranges.d c.ranges.ds c.requires.dest (omega arith) _ c.loop-i-test.true).below) in
    scaled_Fits _ (length c.loop-i.dst) _ h (search rules)

pub bounds-dst-b : goal.bounds-dst-b
bounds-dst-b g c = omega (arith, (step _ _ c.args.n _ c.ranges.d c.ranges.ds c.requires.dest (omega arith) _ c.loop-i-test.true).below)

pub offset_bounds-src-a : goal.offset_bounds-src-a
offset_bounds-src-a g c = omega (arith, (step _ _ c.args.n _ c.ranges.s c.ranges.ss c.requires.source (omega arith) _ c.loop-i-test.true).below)

pub bounds-src-a : goal.bounds-src-a
bounds-src-a g c = (step _ _ c.args.n _ c.ranges.s c.ranges.ss c.requires.source (omega arith) _ c.loop-i-test.true).below

pub offset_bounds-dst-b-in-loop-i : goal.offset_bounds-dst-b-in-loop-i
offset_bounds-dst-b-in-loop-i g c =
    let h : nat_abs (machine c.args.d c.args.ds c.loop-i.i) < length c.loop-i.dst = omega (arith, (step _ _ c.args.n _ c.ranges.d c.ranges.ds c.requires.dest (omega arith) _ c.loop-i-test.true).below) in
    scaled_Fits _ (length c.loop-i.dst) _ h (search rules)

pub bounds-dst-b-in-loop-i : goal.bounds-dst-b-in-loop-i
bounds-dst-b-in-loop-i g c = omega (arith, (step _ _ c.args.n _ c.ranges.d c.ranges.ds c.requires.dest (omega arith) _ c.loop-i-test.true).below)

pub loop-i-preserved : goal.loop-i-preserved
loop-i-preserved g c =
    let i = c.loop-i.i in
    let from : Step c.args.s c.args.ss i (length c.args.src.now) = step _ _ c.args.n _ c.ranges.s c.ranges.ss c.requires.source (omega arith) _ c.loop-i-test.true in
    let to : Step c.args.d c.args.ds i (length c.args.dst.now) = step _ _ c.args.n _ c.ranges.d c.ranges.ds c.requires.dest (omega arith) _ c.loop-i-test.true in
    turn g.E.Element.absent (g.R.Combine.combined c.args.rule) c.args.src.now c.args.s c.args.d c.args.ss c.args.ds c.args.dst.now c.loop-i.dst i _ _ _ c.loop-i.invariant from to
    (c.apply.ensures ∙ ap₂ (g.R.Combine.combined c.args.rule) (c.index-dst-b.is ∙ get_or_default c.loop-i.dst _ _ g.E.Element.absent (omega (arith, to.below))) (c.index-src-a.is ∙ get_or_default c.args.src.now _ _ g.E.Element.absent from.below))
