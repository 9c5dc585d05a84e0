use Rattle.std.proofs.Common.{◌∙◌}
use Rattle.indexing.specs.Scatter.{scatter_dims, window_dims}
use Rattle.scatter_checks.proofs.Read.{others-read}
use Rattle.scatter_checks.proofs.Found.{sizes-pass}
use Rattle.scatter_checks.proofs.examine_from.Goals as goal

pub examine_axes-requires : goal.examine_axes-requires
unfolding window_dims scatter_dims
examine_axes-requires c =
    let l = sizes-pass _ _ _ _ _ _ c.requires in
    record {
      sizes = c.requires;
      kept = c.as_slice.ensures ∙ others-read _ _ _ l.dest-few c.other_axes-kept.ensures;
      batches = c.as_slice-2.ensures ∙ others-read _ _ _ l.index-few c.other_axes-batch.ensures;
      starts = c.as_slice-3.ensures ∙ others-read _ _ _ l.operand-few c.other_axes-starts.ensures;
    }
