use Rattle.std.proofs.Common.{ap, ◌∙◌, take, ℤ}
use Rattle.integer.specs.Z.{back}
use Rattle.layout.specs.Answers.{is_done}
use Rattle.layout.specs.Reach.{view_reach, buffer_bounds}
use Rattle.runs_c.specs.Bench.{covers}
use Rattle.runs_c.proofs.inside.Goals as goal

pub returns : goal.returns
unfolding covers
returns c =
    c.is_done.ensures
    ∙ ap is_done (c.check_reach-answer.ensures ∙ ap (buffer_bounds 0) (c.view_reach-reach.ensures ∙ ap (λ (z : ℤ). view_reach (take c.args.rank c.args.extents) (take c.args.rank c.args.strides) z c.args.len) (back c.ranges.offset)))
