use Rattle.std.proofs.Common.{rules, arith, ap, ◌∙◌, ◌≡◌, ◌≤◌, ℕ, length, get_or, pos, ℤ, List}
use lib.ListN.{length-take}
use mir.Syntax.{w64}
use mir.Val.{SFits}
use Rattle.integer.specs.Z.{back}
use Rattle.indexing.specs.Start.{without}
use Rattle.layout.specs.Layouts.{rank_limit}
use Rattle.axis_lists.specs.Held.{steps_of}
use Rattle.axis_lists.proofs.Filling.{list-is, next-written, written-all, fewer-left, all-left, get_or-without}
use Rattle.axis_lists.proofs.without_step.Goals as goal
use Rattle.axis_lists.proofs.without_step.Goals.{then-axis-n, else-axis-n}

pub loop-i-preserved : goal.loop-i-preserved
loop-i-preserved c =
    let l = steps_of c.args.list in
    let k : length c.args.list.entries ≡ rank_limit = search rules in
    let m : c.axis_count-n.result ≡ length l = omega (arith, c.axis_count-n.ensures, k, length-take c.args.list.count c.args.list.entries) in
    let h : c.if-axis-n.count ≡ length (without c.args.axis l) =
    elim c.if-axis-n.branch [
      | then-axis-n w ↦ w.count-is ∙ fewer-left c.args.axis c.axis_count-n.result l m w.if-axis-n.true
      | else-axis-n w ↦ w.count-is ∙ all-left c.args.axis c.axis_count-n.result l m w.if-axis-n.false
    ] in
    let n : c.if-axis-n.count ≤ c.axis_count-n.result = elim c.if-axis-n.branch [ then-axis-n w ↦ omega (arith, w.count-is) | else-axis-n w ↦ omega (arith, w.count-is) ] in
    let f : SFits w64 c.stride_at.result = search rules in
    next-written (pos 0) (without c.args.axis l) c.loop-i.entries c.loop-i.i _ (omega (arith, h, n, c.loop-i-test.true, c.axis_count-n.ensures)) c.loop-i.invariant
    (back f ∙ c.stride_at.ensures ∙ ap (λ (xs : List ℤ). get_or xs c.put_back.result (pos 0)) c.as_slice.ensures ∙ ap (λ (i : ℕ). get_or l i (pos 0)) c.put_back.ensures ∙ get_or-without (pos 0) c.args.axis l c.loop-i.i)

pub returns : goal.returns
returns c =
    let l = steps_of c.args.list in
    let k : length c.args.list.entries ≡ rank_limit = search rules in
    let m : c.axis_count-n.result ≡ length l = omega (arith, c.axis_count-n.ensures, k, length-take c.args.list.count c.args.list.entries) in
    let h : c.if-axis-n.count ≡ length (without c.args.axis l) =
    elim c.if-axis-n.branch [
      | then-axis-n w ↦ w.count-is ∙ fewer-left c.args.axis c.axis_count-n.result l m w.if-axis-n.true
      | else-axis-n w ↦ w.count-is ∙ all-left c.args.axis c.axis_count-n.result l m w.if-axis-n.false
    ] in
    let n : c.if-axis-n.count ≤ c.axis_count-n.result = elim c.if-axis-n.branch [ then-axis-n w ↦ omega (arith, w.count-is) | else-axis-n w ↦ omega (arith, w.count-is) ] in
    list-is (pos 0) _ _ (without c.args.axis l) h (written-all (pos 0) (without c.args.axis l) c.loop-i.entries c.loop-i.i (omega (arith, h, n, c.loop-i-test.false, c.loop-i.auto.i-end, c.axis_count-n.ensures)) c.loop-i.invariant)
