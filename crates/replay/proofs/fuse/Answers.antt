use Rattle.std.specs.Prelude.{◌≡◌, ℤ, pos, length, get_or, replicate}
use Rattle.std.proofs.Common.{ap, ap₂, ◌∙◌, arith, rules, SFits}
use Rattle.std.specs.Int.{w64}
use Rattle.integer.specs.Z.{back}
use Rattle.layout.specs.Layouts.{rank_limit}
use Rattle.replay.specs.declared.WindowReplayAxis.{WindowReplayAxis}
use Rattle.replay.specs.Replays.{axis_of, done_replay}
use Rattle.replay.specs.Parts.{checked_axis}
use Rattle.replay.proofs.Turns.{fuse-none, first-over, first_fits}
use Rattle.replay.proofs.fuse.Goals as goal

pub returns-then-rank-eq0 : goal.returns-then-rank-eq0
returns-then-rank-eq0 c =
    c.done_replay.ensures
    ∙ ap (λ (x : WindowReplayAxis). done_replay 0 (replicate rank_limit x) c.args.spans) c.no_axis-empty.ensures
    ∙ fuse-none c.args.shape c.args.source_strides c.args.dest_strides c.args.rank c.if-rank-eq0.true c.args.spans

pub returns-in-Some : goal.returns-in-Some
returns-in-Some c =
    let ls : length c.args.shape ≡ rank_limit = search rules in
    let ld : length c.args.source_strides ≡ rank_limit = search rules in
    let lt : length c.args.dest_strides ≡ rank_limit = search rules in
    let f : SFits w64 (get_or c.args.source_strides 0 (pos 0)) = search rules in
    let g : SFits w64 (get_or c.args.dest_strides 0 (pos 0)) = search rules in
    c.fuse_rest.ensures
    ∙ first_fits c.args.shape c.args.source_strides c.args.dest_strides c.args.rank ls ld lt (omega (arith, c.if-rank-eq0.false)) c.make_axis.result (c.make_axis.ensures ∙ ap₂ (λ (x y : ℤ). checked_axis (axis_of (get_or c.args.shape 0 0) x y)) (back f) (back g)) c.args.spans c.in-Some.axis c.in-Some.is

pub returns-in-None : goal.returns-in-None
returns-in-None c =
    let ls : length c.args.shape ≡ rank_limit = search rules in
    let ld : length c.args.source_strides ≡ rank_limit = search rules in
    let lt : length c.args.dest_strides ≡ rank_limit = search rules in
    let f : SFits w64 (get_or c.args.source_strides 0 (pos 0)) = search rules in
    let g : SFits w64 (get_or c.args.dest_strides 0 (pos 0)) = search rules in
    c.refused_replay.ensures
    ∙ first-over c.args.shape c.args.source_strides c.args.dest_strides c.args.rank ls ld lt (omega (arith, c.if-rank-eq0.false)) c.make_axis.result (c.make_axis.ensures ∙ ap₂ (λ (x y : ℤ). checked_axis (axis_of (get_or c.args.shape 0 0) x y)) (back f) (back g)) c.args.spans c.in-None.is
