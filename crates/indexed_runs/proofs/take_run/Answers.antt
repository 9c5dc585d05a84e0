use Rattle.std.proofs.Common.{refl, true, false}
use Rattle.indexed_runs.specs.IndexedRuns.{replaced}
use Rattle.indexed_runs.proofs.Places.{take-end}
use Rattle.indexed_runs.proofs.Counts.{so-counted, moves-end}
use Rattle.indexed_runs.proofs.take_run.Goals as goal

pub returns-then-counts : goal.returns-then-counts
returns-then-counts g c = (
  take-end g.E.Element.absent replaced c.args.src.now c.args.starts.now c.args.t c.args.ts c.args.base c.args.stride c.args.d c.args.ds c.args.limit c.args.n c.args.n c.args.dst.now c.take_run_by.new.dst c.ranges.t c.ranges.ts c.ranges.base c.ranges.stride c.ranges.d c.ranges.ds refl c.take_run_by.ensures.0,
  so-counted c.args.counts true _ _ _ c.if-counts.true (moves-end c.args.starts.now c.args.t c.args.ts c.args.n c.args.n _ c.ranges.t c.ranges.ts refl c.args.limit refl) c.take_run_by.ensures.1,
)

pub returns : goal.returns
returns g c = (
  take-end g.E.Element.absent replaced c.args.src.now c.args.starts.now c.args.t c.args.ts c.args.base c.args.stride c.args.d c.args.ds c.args.limit c.args.n c.args.n c.args.dst.now c.take_run_by-2.new.dst c.ranges.t c.ranges.ts c.ranges.base c.ranges.stride c.ranges.d c.ranges.ds refl c.take_run_by-2.ensures.0,
  so-counted c.args.counts false _ _ _ c.if-counts.false (moves-end c.args.starts.now c.args.t c.args.ts c.args.n c.args.n _ c.ranges.t c.ranges.ts refl c.args.limit refl) c.take_run_by-2.ensures.1,
)
