use Rattle.std.proofs.Common.{refl, true, false}
use Rattle.indexed_runs.specs.IndexedRuns.{replaced}
use Rattle.indexed_runs.proofs.Cells.{cells-end}
use Rattle.indexed_runs.proofs.Counts.{so-counted, starts-end}
use Rattle.indexed_runs.proofs.take_cells.Goals as goal

pub returns-then-counts : goal.returns-then-counts
returns-then-counts g c = (
  cells-end g.E.Element.absent replaced c.args.src.now c.args.starts.now c.args.components.now.offsets c.args.components.now.strides c.args.components.now.limits c.args.components.now.count _ _ _ _ _ _ c.args.n c.args.n c.args.dst.now _ c.ranges.s c.ranges.t c.ranges.d c.ranges.ss c.ranges.ts c.ranges.ds refl c.take_counted.ensures.0,
  so-counted c.args.counts true _ _ _ c.if-counts.true (starts-end c.args.starts.now c.args.t c.args.ts c.args.n c.args.n _ c.ranges.t c.ranges.ts refl c.args.components.now.offsets c.args.components.now.limits c.args.components.now.count refl) c.take_counted.ensures.1,
)

pub returns-else-counts : goal.returns-else-counts
returns-else-counts g c = (
  cells-end g.E.Element.absent replaced c.args.src.now c.args.starts.now c.args.components.now.offsets c.args.components.now.strides c.args.components.now.limits c.args.components.now.count _ _ _ _ _ _ c.args.n c.args.n c.args.dst.now _ c.ranges.s c.ranges.t c.ranges.d c.ranges.ss c.ranges.ts c.ranges.ds refl c.take_counted-else-counts.ensures.0,
  so-counted c.args.counts false _ _ _ c.if-counts.false (starts-end c.args.starts.now c.args.t c.args.ts c.args.n c.args.n _ c.ranges.t c.ranges.ts refl c.args.components.now.offsets c.args.components.now.limits c.args.components.now.count refl) c.take_counted-else-counts.ensures.1,
)
