use Rattle.std.proofs.Common.{◌≡◌, ◌∙◌, length, arith}
use borrow.Author.Rules.{rules}
use Rattle.layout.specs.Layouts.{rank_limit}
use Rattle.runs_c.proofs.Accepted.{few-stops, few-goes, few-ends}
use Rattle.runs_c.proofs.all_few.Goals as goal

pub returns-then-extents-i-gt9223372036854775808 : goal.returns-then-extents-i-gt9223372036854775808
returns-then-extents-i-gt9223372036854775808 c =
    let long : length c.args.extents ≡ rank_limit = search rules in
    few-stops c.args.extents c.args.rank c.loop-i.i (omega arith) (omega arith) (omega arith) ∙ c.loop-i.invariant

pub loop-i-preserved : goal.loop-i-preserved
loop-i-preserved c =
    let long : length c.args.extents ≡ rank_limit = search rules in
    few-goes c.args.extents c.args.rank c.loop-i.i (omega arith) (omega arith) (omega arith) ∙ c.loop-i.invariant

pub returns : goal.returns
returns c =
    let long : length c.args.extents ≡ rank_limit = search rules in
    few-ends c.args.extents c.args.rank c.loop-i.i (omega arith) (omega arith) ∙ c.loop-i.invariant
