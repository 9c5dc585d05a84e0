use Rattle.std.specs.Prelude.{ℕ, ℤ, pos}
use Rattle.std.proofs.Common.{sym, ap₂, ◌∙◌, arith, rules, SFits}
use Rattle.std.specs.Int.{w64}
use mir.Val.{to_z, of_z}
use Rattle.integer.specs.Z.{back}
use Rattle.indexing.specs.Coordinates.{tabulate}
use Rattle.indexing.proofs.Updates.{length-tabulate, get_d_tabulate}
use Rattle.axis_lists.specs.Held.{held_steps}
use Rattle.axis_lists.proofs.Filling.{steps-are, one_written, all-written}
use Rattle.checks.specs.Values.{offset_or}
use Rattle.components.proofs.index_component_offsets.Goals as goal

pub loop-i-preserved : goal.loop-i-preserved
loop-i-preserved c =
    let n = c.axis_count-n.result in
    let m = c.axis_count-n.ensures in
    let t = c.loop-i-test.true in
    let f = offset_or (to_z w64 (of_z w64 c.args.stride)) in
    let g : SFits w64 c.offset_value.result = search rules in
    let k = length-tabulate n f in
    one_written (pos 0) (tabulate n f) c.loop-i.out c.loop-i.i (to_z w64 (of_z w64 c.offset_value.result)) (omega (arith, k, t)) (omega (arith, k, m)) c.loop-i.invariant
    (back g ∙ c.offset_value.ensures ∙ sym (get_d_tabulate n f c.loop-i.i (pos 0) t))

pub returns : goal.returns
returns c =
    let n = c.axis_count-n.result in
    let m = c.axis_count-n.ensures in
    let f = offset_or (to_z w64 (of_z w64 c.args.stride)) in
    let k = length-tabulate n f in
    steps-are n c.loop-i.out (tabulate n f) (sym k) (c.loop-i.invariant ∙ all-written (pos 0) (tabulate n f) c.loop-i.i (omega (arith, k, c.loop-i-test.false)) (omega (arith, k, m)))
    ∙ ap₂ (λ (j : ℕ) (z : ℤ). held_steps (tabulate j (offset_or z))) m (back c.ranges.stride)
