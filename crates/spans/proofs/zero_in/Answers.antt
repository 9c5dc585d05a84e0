use Rattle.std.proofs.Common.{◌∙◌}
use Rattle.spans.proofs.Turns.{any-zero}
use Rattle.spans.proofs.zero_in.Goals as goal

pub returns : goal.returns
returns c = c.contains.ensures.value ∙ any-zero c.args.extents.now
