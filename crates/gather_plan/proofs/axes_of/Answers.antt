use Rattle.std.proofs.Common.{rules, arith, ◌≡◌, length, sym, ◌∙◌, w64}
use mir.Val.{SFits}
use Rattle.integer.specs.Z.{back}
use Rattle.indexing.specs.Coordinates.{tabulate}
use Rattle.indexing.proofs.Updates.{length-tabulate, get_d_tabulate}
use Rattle.axis_lists.specs.Held.{numbers_of, steps_of}
use Rattle.axis_lists.proofs.Filling.{next-written, written-all}
use Rattle.gather_plan.specs.Plan.{no_axis}
use Rattle.gather_plan.specs.Made.{axis_from, axes_from}
use Rattle.gather_plan.proofs.axes_of.Goals as goal

pub loop-i-preserved : goal.loop-i-preserved
loop-i-preserved c =
    let s = c.args in
    let n = length s.extents.now in
    let f = axis_from s.extents.now s.dest.now (steps_of s.window) (steps_of s.batch) s.offset_dims.now (numbers_of s.shown) in
    let fs : SFits w64 c.stride_at-s.result = search rules in
    let fw : SFits w64 c.stride_at-w.result = search rules in
    let fb : SFits w64 c.stride_at-b.result = search rules in
    let at : c.axis_with.result ≡ f c.loop-i.i =
    rw (c.axis_with.ensures, back fs, back fw, back fb, c.stride_at-b.ensures, c.stride_at-w.ensures, c.stride_at-s.ensures, c.as_slice.ensures, c.as_slice-in-loop-i.ensures, c.role_at-role.ensures) in
    next-written no_axis (tabulate n f) c.loop-i.out c.loop-i.i c.axis_with.result (omega (arith, length-tabulate n f, c.loop-i-test.true, c.requires)) c.loop-i.invariant (at ∙ sym (get_d_tabulate n f c.loop-i.i no_axis c.loop-i-test.true))

pub returns : goal.returns
unfolding axes_from
returns c =
    let s = c.args in
    let n = length s.extents.now in
    let f = axis_from s.extents.now s.dest.now (steps_of s.window) (steps_of s.batch) s.offset_dims.now (numbers_of s.shown) in
    written-all no_axis (tabulate n f) c.loop-i.out c.loop-i.i (omega (arith, length-tabulate n f, c.loop-i.auto.i-end, c.loop-i-test.false, c.requires)) c.loop-i.invariant
