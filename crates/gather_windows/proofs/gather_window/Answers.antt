use Rattle.std.proofs.Common.{sym, ◌∙◌, take}
use Rattle.indexing.specs.Odometer.{AllPos}
use Rattle.layout.specs.Laws.{some-cells}
use Rattle.indexed_runs.specs.IndexedRuns.{replaced}
use Rattle.gather_windows.proofs.Whole.{one_cell, one_end, level-of, level-end, nothing}
use Rattle.gather_windows.proofs.Batches.{still-of, level-of-batches, one-counted, none-counted, level-counted}
use Rattle.gather_windows.proofs.gather_window.Goals as goal

pub gather_run-requires : goal.gather_run-requires
gather_run-requires g c = one_cell _ _ _ _ _ _ _ _ _ _ _ _ _ _ _ c.requires.0 c.ranges.s c.ranges.t c.ranges.d c.if-rank-eq0.true

pub returns-then-rank-eq0 : goal.returns-then-rank-eq0
returns-then-rank-eq0 g c =
    (one_end _ _ _ _ _ _ _ _ _ _ _ _ _ _ _ c.requires.0 c.ranges.s c.ranges.t c.ranges.d c.if-rank-eq0.true g.E.Element.absent replaced c.args.src.now c.args.dst.now _ c.gather_run.ensures.0, one-counted c.args.starts.now c.args.components.now.offsets c.args.components.now.limits c.args.components.now.count c.args.t c.args.extents.now c.args.batches.now c.args.ts.now c.args.rank _ c.if-rank-eq0.true c.ranges.t c.gather_run.ensures.1)

pub returns-then-has_zero : goal.returns-then-has_zero
returns-then-has_zero g c =
    (nothing _ _ _ _ _ _ _ _ _ _ _ _ _ _ _ c.requires.0 c.ranges.s c.ranges.t c.ranges.d g.E.Element.absent replaced c.args.src.now c.args.dst.now (sym c.has_zero.ensures ∙ c.if-has_zero.true), none-counted c.args.starts.now c.args.components.now.offsets c.args.components.now.limits c.args.components.now.count c.args.t c.args.extents.now c.args.batches.now c.args.ts.now c.args.rank (sym c.has_zero.ensures ∙ c.if-has_zero.true))

pub gather_axes-requires : goal.gather_axes-requires
gather_axes-requires g c =
    let some : AllPos (take c.args.rank c.args.extents.now) = some-cells (take c.args.rank c.args.extents.now) (sym c.has_zero.ensures ∙ c.if-has_zero.false) in
    let low = c.run_axis-low in
    let wide = c.window_axes-wide in (
      level-of _ _ _ _ _ _ _ _ _ _ _ _ _ _ _ c.requires.0 c.ranges.s c.ranges.t c.ranges.d low.result wide.result low.ensures.below low.ensures.units some (still-of c.args.extents.now c.args.batches.now c.args.ts.now wide.result c.args.rank c.requires.1 wide.ensures.within wide.ensures.ones),
      level-of-batches c.args.extents.now c.args.batches.now c.args.ts.now low.result wide.result c.args.rank c.requires.1 low.ensures.below low.ensures.units wide.ensures,
    )

pub returns : goal.returns
returns g c =
    let some : AllPos (take c.args.rank c.args.extents.now) = some-cells (take c.args.rank c.args.extents.now) (sym c.has_zero.ensures ∙ c.if-has_zero.false) in
    (level-end _ _ _ _ _ _ _ _ _ _ _ _ _ _ _ c.requires.0 c.ranges.s c.ranges.t c.ranges.d g.E.Element.absent replaced c.args.src.now c.args.dst.now _ c.gather_axes.ensures.0, level-counted c.args.starts.now c.args.components.now.offsets c.args.components.now.limits c.args.components.now.count c.args.t c.args.extents.now c.args.batches.now c.args.ts.now c.args.rank _ some c.ranges.t c.gather_axes.ensures.1)
