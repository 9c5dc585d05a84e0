use Rattle.std.proofs.Common.{[], ◌∷◌, rules, SFits}
use Rattle.std.specs.Int.{w64}
use Rattle.integer.specs.Z.{back}
use Rattle.replay.proofs.row_of.Goals as goal

pub returns : goal.returns
returns c =
    let f1 : SFits w64 c.args.axis.source_step = search rules in
    let f2 : SFits w64 c.args.axis.source_reset = search rules in
    let f3 : SFits w64 c.args.axis.dest_step = search rules in
    let f4 : SFits w64 c.args.axis.dest_reset = search rules in
    λ ι. back f1 ι ∷ back f2 ι ∷ back f3 ι ∷ back f4 ι ∷ []
