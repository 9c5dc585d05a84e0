use Rattle.indexed_runs.specs.IndexedRuns.{start_moved}
use Rattle.scatter_windows.proofs.Counted.{counted-one}
use Rattle.scatter_windows.proofs.Whole.{one_batch, one_end}
use Rattle.scatter_windows.proofs.scatter_each.Goals as goal

pub scatter_run-requires : goal.scatter_run-requires
scatter_run-requires g c = one_batch _ _ _ _ _ _ _ _ _ _ _ _ _ _ c.requires c.ranges.t c.ranges.u c.ranges.d c.if-rank-eq0.true

pub returns-then-rank-eq0 : goal.returns-then-rank-eq0
returns-then-rank-eq0 g c = (
  one_end _ _ _ _ _ _ _ _ _ _ _ _ _ _ c.requires c.ranges.t c.ranges.u c.ranges.d c.if-rank-eq0.true g.E.Element.absent (g.R.Combine.combined c.args.rule) c.args.src.now c.args.dst.now _ c.scatter_run.ensures.0,
  counted-one (λ x. start_moved c.args.starts.now c.args.components.now.offsets c.args.components.now.limits x c.args.components.now.count) c.args.extents.now c.args.ts.now c.args.t c.args.rank _ c.ranges.t c.if-rank-eq0.true c.scatter_run.ensures.1,
)
