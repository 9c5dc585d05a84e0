use Rattle.std.proofs.Common.{◌≡◌, refl, false, get_or, take, sym, arith, ◌∙◌}
use Rattle.indexing.specs.Coordinates.{has}
use Rattle.layout.proofs.Unique.{at-start, at-end, at-large, at_again, at_next, has-none, has-found}
use Rattle.layout.proofs.validate_unique_axes.Goals as goal

pub loop-i-init : goal.loop-i-init
loop-i-init c = sym (at-start _ _)

pub loop-j-init : goal.loop-j-init
loop-j-init c = unfold has in refl

pub loop-j-preserved : goal.loop-j-preserved
loop-j-preserved c = has-none _ c.args.axes.now c.loop-j.j (omega arith) c.loop-j.invariant c.if-axes-j.false

pub loop-i-preserved : goal.loop-i-preserved
loop-i-preserved c =
    let e : c.loop-j.j ≡ c.loop-i.i = omega arith in
    let none : has (take c.loop-i.i c.args.axes.now) (get_or c.args.axes.now c.loop-i.i 0) ≡ false = rw e at c.loop-j.invariant in
    sym (at_next c.args.rank c.args.axes.now c.loop-i.i (omega arith) c.if-axis-rank.false none) ∙ c.loop-i.invariant

pub returns-then-axis-rank : goal.returns-then-axis-rank
returns-then-axis-rank c = sym (at-large c.args.rank c.args.axes.now c.loop-i.i (omega arith) c.if-axis-rank.true) ∙ c.loop-i.invariant

pub returns-then-axes-j : goal.returns-then-axes-j
returns-then-axes-j c =
    let h = has-found (get_or c.args.axes.now c.loop-i.i 0) c.args.axes.now c.loop-i.i c.loop-j.j (omega arith) (omega arith) c.if-axes-j.true in
    sym (at_again c.args.rank c.args.axes.now c.loop-i.i (omega arith) c.if-axis-rank.false h) ∙ c.loop-i.invariant

pub returns-after-loop-i : goal.returns-after-loop-i
returns-after-loop-i c = sym (at-end c.args.rank c.args.axes.now c.loop-i.i (omega arith)) ∙ c.loop-i.invariant
