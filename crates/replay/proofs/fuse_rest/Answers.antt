use Rattle.std.specs.Prelude.{◌≡◌, ℤ, pos, length, get_or, Some}
use Rattle.std.proofs.Common.{ap, ap₂, ◌∙◌, arith, rules, SFits}
use Rattle.std.specs.Int.{w64}
use Rattle.integer.specs.Z.{back}
use Rattle.layout.specs.Layouts.{rank_limit}
use Rattle.replay.specs.Replays.{axis_of}
use Rattle.replay.specs.Parts.{joined_axis}
use Rattle.replay.proofs.Turns.{fusing-done, fusing-over, fusing-merged, fusing-apart}
use Rattle.replay.proofs.fuse_rest.Goals as goal
use Rattle.replay.proofs.fuse_rest.Goals.{in-Merged, in-Apart}

pub returns-in_default : goal.returns-in_default
returns-in_default c =
    let ls : length c.args.shape ≡ rank_limit = search rules in
    let ld : length c.args.source_strides ≡ rank_limit = search rules in
    let lt : length c.args.dest_strides ≡ rank_limit = search rules in
    let f : SFits w64 (get_or c.args.source_strides c.loop-i.i (pos 0)) = search rules in
    let g : SFits w64 (get_or c.args.dest_strides c.loop-i.i (pos 0)) = search rules in
    c.refused_replay.ensures
    ∙ fusing-over c.args.shape c.args.source_strides c.args.dest_strides c.args.rank ls ld lt c.args.first c.loop-i.axes c.loop-i.last c.loop-i.n c.loop-i.i c.loop-i.invariant c.args.spans (omega (arith, c.axis_count-count.ensures)) c.join.result (c.join.ensures ∙ ap₂ (λ (x y : ℤ). joined_axis c.loop-i.last (axis_of (get_or c.args.shape c.loop-i.i 0) x y)) (back f) (back g)) c.in_default.is

pub loop-i-preserved : goal.loop-i-preserved
loop-i-preserved c =
    let ls : length c.args.shape ≡ rank_limit = search rules in
    let ld : length c.args.source_strides ≡ rank_limit = search rules in
    let lt : length c.args.dest_strides ≡ rank_limit = search rules in
    let f : SFits w64 (get_or c.args.source_strides c.loop-i.i (pos 0)) = search rules in
    let g : SFits w64 (get_or c.args.dest_strides c.loop-i.i (pos 0)) = search rules in
    elim c.match-joined.branch [
      | in-Merged w ↦
          rw (w.axes-is, w.last-is, w.n-is)
          (fusing-merged c.args.shape c.args.source_strides c.args.dest_strides c.args.rank ls ld lt c.args.first c.loop-i.axes c.loop-i.last c.loop-i.n c.loop-i.i c.loop-i.invariant c.args.spans (omega (arith, c.axis_count-count.ensures))
          c.join.result (c.join.ensures ∙ ap₂ (λ (x y : ℤ). joined_axis c.loop-i.last (axis_of (get_or c.args.shape c.loop-i.i 0) x y)) (back f) (back g)) w.in-Merged.axis (c.in-Some.is ∙ ap Some w.in-Merged.is))
      | in-Apart w ↦
          rw (w.axes-is, w.last-is, w.n-is)
          (fusing-apart c.args.shape c.args.source_strides c.args.dest_strides c.args.rank ls ld lt c.args.first c.loop-i.axes c.loop-i.last c.loop-i.n c.loop-i.i c.loop-i.invariant c.args.spans (omega (arith, c.axis_count-count.ensures))
          c.join.result (c.join.ensures ∙ ap₂ (λ (x y : ℤ). joined_axis c.loop-i.last (axis_of (get_or c.args.shape c.loop-i.i 0) x y)) (back f) (back g)) w.in-Apart.axis (c.in-Some.is ∙ ap Some w.in-Apart.is))
    ]

pub returns : goal.returns
returns c =
    let ls : length c.args.shape ≡ rank_limit = search rules in
    let ld : length c.args.source_strides ≡ rank_limit = search rules in
    let lt : length c.args.dest_strides ≡ rank_limit = search rules in
    c.done_replay.ensures
    ∙ fusing-done c.args.shape c.args.source_strides c.args.dest_strides c.args.rank ls ld lt c.args.first c.loop-i.axes c.loop-i.last c.loop-i.n c.loop-i.i c.loop-i.invariant c.args.spans (omega (arith, c.axis_count-count.ensures))
