use Rattle.std.specs.Prelude.{◌≡◌, ℤ, pos, get_or, length, ◌+◌, take, drop}
use Rattle.std.proofs.Common.{ap, ◌∙◌, arith, rules, SFits}
use Rattle.std.specs.Int.{w64}
use mir.Val.{to_z}
use Rattle.integer.specs.Z.{back}
use Rattle.layout.specs.Layouts.{rank_limit}
use Rattle.layout.specs.Spans.{offset_add, strided_offset}
use Rattle.layout.proofs.Turns.{offset-over, offset-next, offset-done}
use Rattle.layout.proofs.checked_strided_offset.Goals as goal

pub returns-in_err-offset : goal.returns-in_err-offset
returns-in_err-offset c =
    let o = to_z w64 c.loop-i.offset-bits in
    let f : SFits w64 (get_or c.args.strides c.loop-i.i (pos 0)) = search rules in
    let m : length c.args.strides ≡ rank_limit = search rules in
    let k : length c.args.index ≡ rank_limit = search rules in
    c.from_residual.ensures
    ∙ offset-over o c.args.strides c.args.index c.args.rank c.loop-i.i (omega (arith, c.axis_count-i-end.ensures)) (omega (arith, c.axis_count-i-end.ensures)) c.checked_offset_add.result
    (c.checked_offset_add.ensures ∙ ap (λ (z : ℤ). offset_add o z (get_or c.args.index c.loop-i.i 0)) (back f)) c.in_err-offset.was
    ∙ c.loop-i.invariant ∙ ap (λ (z : ℤ). strided_offset z (take c.args.rank c.args.strides) (take c.args.rank c.args.index)) (back c.ranges.base)

pub loop-i-preserved : goal.loop-i-preserved
loop-i-preserved c =
    let o = to_z w64 c.loop-i.offset-bits in
    let f : SFits w64 (get_or c.args.strides c.loop-i.i (pos 0)) = search rules in
    let g : SFits w64 c.in_ok-offset.offset = search rules in
    let m : length c.args.strides ≡ rank_limit = search rules in
    let k : length c.args.index ≡ rank_limit = search rules in
    ap (λ (z : ℤ). strided_offset z (drop (c.loop-i.i + 1) (take c.args.rank c.args.strides)) (drop (c.loop-i.i + 1) (take c.args.rank c.args.index))) (back g)
    ∙ offset-next o c.args.strides c.args.index c.args.rank c.loop-i.i (omega (arith, c.axis_count-i-end.ensures)) (omega (arith, c.axis_count-i-end.ensures)) c.checked_offset_add.result
    (c.checked_offset_add.ensures ∙ ap (λ (z : ℤ). offset_add o z (get_or c.args.index c.loop-i.i 0)) (back f)) c.in_ok-offset.offset c.in_ok-offset.was
    ∙ c.loop-i.invariant

pub returns : goal.returns
returns c =
    let m : length c.args.strides ≡ rank_limit = search rules in
    offset-done (to_z w64 c.loop-i.offset-bits) c.args.strides c.args.index c.args.rank c.loop-i.i (omega (arith, c.axis_count-i-end.ensures))
    ∙ c.loop-i.invariant ∙ ap (λ (z : ℤ). strided_offset z (take c.args.rank c.args.strides) (take c.args.rank c.args.index)) (back c.ranges.base)
