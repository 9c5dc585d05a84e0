use Rattle.std.proofs.Common.{refl, length, get_or, pos, w64, FitsSigned, ◌<◌, ◌^◌, arith}
use borrow.Author.Rules.{rules}
use Rattle.runs.proofs.Turns.{none}
use Rattle.indexing.specs.Counting.{many-none}
use Rattle.indexed_runs.proofs.Cells.{cells-end}
use Rattle.indexed_runs.proofs.Counts.{none-counts, so-counted, starts-end}
use Rattle.indexed_runs.specs.IndexedRuns.{replaced}
use Rattle.gather_windows.proofs.Single.{at_sum, single-asks, single-end, single-count}
use Rattle.gather_windows.proofs.gather_run.Goals as goal

pub returns-then-n-eq0 : goal.returns-then-n-eq0
returns-then-n-eq0 g c = (none _ c.args.n c.args.dst.now c.if-n-eq0.true, none-counts c.args.counts _ (many-none c.args.n _ c.if-n-eq0.true))

pub overflow_add-at : goal.overflow_add-at
overflow_add-at g c =
    let offset : FitsSigned w64 (get_or c.args.components.now.offsets 0 (pos 0)) = search rules in
    let room : length c.args.starts.now < 2 ^ 63 = omega arith in
    at_sum _ _ _ _ _ _ _ _ _ _ _ _ _ _ c.requires c.if-n-eq0.false c.if-components-eq1.true c.ranges.ss c.if-ss-eq0.true room c.ranges.s c.ranges.t c.ranges.d c.ranges.ts c.ranges.ds offset

pub take_run-requires : goal.take_run-requires
take_run-requires g c =
    let offset : FitsSigned w64 (get_or c.args.components.now.offsets 0 (pos 0)) = search rules in
    let room : length c.args.starts.now < 2 ^ 63 = omega arith in
    let stride : FitsSigned w64 (get_or c.args.components.now.strides 0 (pos 0)) = search rules in
    single-asks _ _ _ _ _ _ _ _ _ _ _ _ _ _ c.requires c.if-n-eq0.false c.if-components-eq1.true c.ranges.ss c.if-ss-eq0.true room c.ranges.s c.ranges.t c.ranges.d c.ranges.ts c.ranges.ds offset stride

pub returns-then-ss-eq0 : goal.returns-then-ss-eq0
returns-then-ss-eq0 g c =
    let offset : FitsSigned w64 (get_or c.args.components.now.offsets 0 (pos 0)) = search rules in
    let room : length c.args.starts.now < 2 ^ 63 = omega arith in
    let stride : FitsSigned w64 (get_or c.args.components.now.strides 0 (pos 0)) = search rules in (
      single-end _ _ _ _ _ _ _ _ _ _ _ _ _ _ c.requires c.if-n-eq0.false c.if-components-eq1.true c.ranges.ss c.if-ss-eq0.true room c.ranges.s c.ranges.t c.ranges.d c.ranges.ts c.ranges.ds offset g.E.Element.absent replaced c.args.src.now c.args.dst.now _ stride c.take_run.ensures.0,
      so-counted c.args.counts c.args.counts _ _ _ refl (single-count _ _ _ _ _ _ _ _ _ _ _ _ _ _ c.requires c.if-n-eq0.false c.if-components-eq1.true c.ranges.ss c.if-ss-eq0.true room c.ranges.s c.ranges.t c.ranges.d c.ranges.ts c.ranges.ds offset _ refl) c.take_run.ensures.1,
    )

pub returns : goal.returns
returns g c = (
  cells-end g.E.Element.absent replaced c.args.src.now c.args.starts.now c.args.components.now.offsets c.args.components.now.strides c.args.components.now.limits c.args.components.now.count _ _ _ _ _ _ c.args.n c.args.n c.args.dst.now _ c.ranges.s c.ranges.t c.ranges.d c.ranges.ss c.ranges.ts c.ranges.ds refl c.take_cells.ensures.0,
  so-counted c.args.counts c.args.counts _ _ _ refl (starts-end c.args.starts.now c.args.t c.args.ts c.args.n c.args.n _ c.ranges.t c.ranges.ts refl c.args.components.now.offsets c.args.components.now.limits c.args.components.now.count refl) c.take_cells.ensures.1,
)
