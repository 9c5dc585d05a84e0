use Rattle.job_writer.proofs.Parts.{sized-body}
use Rattle.job_writer.proofs.body_size.Goals as goal

pub returns : goal.returns
returns c =
    sized-body _ _ _ c.views_size.ensures c.spec_size.ensures
