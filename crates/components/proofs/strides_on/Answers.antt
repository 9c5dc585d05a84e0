use Rattle.std.specs.Prelude.{pos, take}
use Rattle.std.proofs.Common.{◌∙◌, arith, rules, SFits}
use Rattle.std.specs.Int.{w64}
use mir.Val.{to_z, of_z}
use Rattle.integer.specs.Z.{back}
use Rattle.indexing.specs.Coordinates.{pick}
use Rattle.layout.specs.Layouts.{rank_limit}
use Rattle.axis_lists.proofs.Filling.{one_written, all-written, picked, length-picked}
use Rattle.components.proofs.strides_on.Goals as goal

pub loop-i-preserved : goal.loop-i-preserved
loop-i-preserved c =
    let t = c.loop-i-test.true in
    let m = c.axis_count-n.ensures in
    let k = length-picked (pos 0) c.args.map.now c.args.strides.now rank_limit in
    let f : SFits w64 c.stride_at.result = search rules in
    one_written (pos 0) (pick (pos 0) (take rank_limit c.args.map.now) c.args.strides.now) c.loop-i.out c.loop-i.i (to_z w64 (of_z w64 c.stride_at.result)) (omega (arith, k, m, t)) (omega (arith, k)) c.loop-i.invariant
    (back f ∙ c.stride_at.ensures ∙ picked (pos 0) c.args.map.now c.args.strides.now rank_limit c.loop-i.i (omega (arith, m, t)))

pub returns : goal.returns
returns c =
    let m = c.axis_count-n.ensures in
    let k = length-picked (pos 0) c.args.map.now c.args.strides.now rank_limit in
    c.loop-i.invariant ∙ all-written (pos 0) (pick (pos 0) (take rank_limit c.args.map.now) c.args.strides.now) c.loop-i.i (omega (arith, k, m, c.loop-i-test.false)) (omega (arith, k))
