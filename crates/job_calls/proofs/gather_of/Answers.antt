use Rattle.std.proofs.Common.{◌≡◌, length, take, arith, rules}
use mir.Syntax.{w64}
use mir.Val.{SFits}
use mir.Facts.{to_z-of_z}
use Rattle.layout.specs.Layouts.{rank_limit, extents_of, strides_of}
use Rattle.spans.proofs.Parts.{take_count}
use Rattle.gather_checks.specs.Refusals.{gather_from}
use Rattle.job_calls.proofs.Lent.{gather-listed}
use Rattle.job_calls.proofs.gather_of.Goals as goal

pub returns : goal.returns
returns c =
    let j = c.args.job in
    let first-fits : SFits w64 j.views.first.offset = search rules in
    let first-e : length j.views.first.layout.extents ≡ rank_limit = search rules in
    let x0 : take c.axis_count-n.result j.views.first.layout.extents ≡ extents_of j.views.first.layout = take_count c.axis_count-n.result j.views.first.layout.rank j.views.first.layout.extents (omega (arith, c.axis_count-n.ensures)) in
    let first-s : length j.views.first.layout.strides ≡ rank_limit = search rules in
    let x1 : take c.axis_count-n.result j.views.first.layout.strides ≡ strides_of j.views.first.layout = take_count c.axis_count-n.result j.views.first.layout.rank j.views.first.layout.strides (omega (arith, c.axis_count-n.ensures)) in
    let second-fits : SFits w64 j.views.second.offset = search rules in
    let second-e : length j.views.second.layout.extents ≡ rank_limit = search rules in
    let x2 : take c.axis_count-m.result j.views.second.layout.extents ≡ extents_of j.views.second.layout = take_count c.axis_count-m.result j.views.second.layout.rank j.views.second.layout.extents (omega (arith, c.axis_count-m.ensures)) in
    let second-s : length j.views.second.layout.strides ≡ rank_limit = search rules in
    let x3 : take c.axis_count-m.result j.views.second.layout.strides ≡ strides_of j.views.second.layout = take_count c.axis_count-m.result j.views.second.layout.rank j.views.second.layout.strides (omega (arith, c.axis_count-m.ensures)) in
    let third-fits : SFits w64 j.views.third.offset = search rules in
    let third-e : length j.views.third.layout.extents ≡ rank_limit = search rules in
    let x4 : take c.axis_count-k.result j.views.third.layout.extents ≡ extents_of j.views.third.layout = take_count c.axis_count-k.result j.views.third.layout.rank j.views.third.layout.extents (omega (arith, c.axis_count-k.ensures)) in
    let third-s : length j.views.third.layout.strides ≡ rank_limit = search rules in
    let x5 : take c.axis_count-k.result j.views.third.layout.strides ≡ strides_of j.views.third.layout = take_count c.axis_count-k.result j.views.third.layout.rank j.views.third.layout.strides (omega (arith, c.axis_count-k.ensures)) in
    gather-listed _ j.views.first.offset j.views.second.offset j.views.third.offset c.args.operand_len c.args.starts_len c.args.dest_len (λ i. gather_from (x0 i) (x1 i) (x2 i) (x3 i) (x4 i) (x5 i) (c.counted.ensures i) (c.counted-2.ensures i) (c.counted-3.ensures i) j.spec.index_vector_dim (c.counted-4.ensures i))
    (simp (to_z-of_z first-fits, to_z-of_z second-fits, to_z-of_z third-fits) at c.prepare.ensures)
