use Rattle.std.specs.Prelude.{◌≡◌, ◌-◌, ℕ, length}
use Rattle.std.proofs.Common.{sym, ap, ◌∙◌, arith}
use Rattle.spans.proofs.Apart.{exceeds_from, tests-are, from-no, from-yes, from_end, zero-nested}
use Rattle.spans.proofs.nested_in.Goals as goal

pub returns-then-zero_in : goal.returns-then-zero_in
returns-then-zero_in c = zero-nested _ _ (sym c.zero_in.ensures ∙ c.if-zero_in.true)

pub loop-axis-init : goal.loop-axis-init
loop-axis-init c =
    let n : length c.args.extents.now - 0 ≡ length c.args.extents.now = omega arith in
    ap (λ (k : ℕ). exceeds_from k 0 c.args.extents.now c.args.strides.now) n ∙ tests-are c.args.extents.now c.args.strides.now c.requires (sym c.zero_in.ensures ∙ c.if-zero_in.false)

pub returns-then-not-axis_exceeds : goal.returns-then-not-axis_exceeds
returns-then-not-axis_exceeds c =
    from-no _ c.loop-axis.axis _ _ c.loop-axis-test.true (sym c.axis_exceeds.ensures ∙ c.if-not-axis_exceeds.true) ∙ c.loop-axis.invariant

pub loop-axis-preserved : goal.loop-axis-preserved
loop-axis-preserved c =
    from-yes _ c.loop-axis.axis _ _ c.loop-axis-test.true (sym c.axis_exceeds.ensures ∙ c.if-not-axis_exceeds.false) ∙ c.loop-axis.invariant

pub returns : goal.returns
returns c = from_end _ c.loop-axis.axis _ _ c.loop-axis-test.false ∙ c.loop-axis.invariant
