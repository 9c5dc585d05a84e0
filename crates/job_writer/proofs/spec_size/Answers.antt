use Rattle.job_writer.proofs.Parts.{sized-spec}
use Rattle.job_writer.proofs.spec_size.Goals as goal

pub returns : goal.returns
returns c =
    sized-spec _ _ _ _ _ _ c.list_size-window.ensures c.list_size-unit.ensures c.list_size-map.ensures c.sizes_size-sizes.ensures
