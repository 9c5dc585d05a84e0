use Rattle.std.proofs.Common.{ap, ◌∙◌, ◌++◌, drop, replicate}
use Rattle.layout.specs.Layouts.{rank_limit}
use Rattle.layout.proofs.Fill.{filled-rest}
use Rattle.layout.proofs.padded.Goals as goal

pub returns : goal.returns
returns g c =
    ap (λ xs. xs ++ drop c.min-n.result (replicate rank_limit c.args.rest)) c.copy_from_slice.ensures.after
    ∙ filled-rest rank_limit c.args.rest c.args.list.now c.min-n.result c.min-n.ensures
