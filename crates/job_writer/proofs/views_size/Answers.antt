use Rattle.job_writer.proofs.Parts.{sized-views}
use Rattle.job_writer.proofs.views_size.Goals as goal

pub returns : goal.returns
returns c =
    sized-views _ _ _ _ c.view_size.ensures c.view_size-2.ensures c.view_size-3.ensures
