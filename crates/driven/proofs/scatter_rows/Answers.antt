use Rattle.std.proofs.Common.{sym, ◌∙◌, ◌<◌, ◌^◌, take, arith}
use Rattle.layout.specs.Laws.{no_cells, some-cells}
use Rattle.indexing.specs.Coordinates.{product}
use Rattle.indexing.specs.Odometer.{AllPos}
use Rattle.indexing.proofs.Fusion.{product-pos}
use Rattle.indexing.specs.Counting.{many-none}
use Rattle.runs.proofs.Place.{read}
use Rattle.windows.specs.Windows.{place_at}
use Rattle.indexed_runs.specs.IndexedRuns.{start_moved}
use Rattle.scatter_windows.proofs.Counted.{counted_back}
use Rattle.scatter_windows.proofs.Whole.{no-batch, no-window, each-asks, each-end, axes-asks, axes-end}
use Rattle.driven.proofs.Counted.{slid-none, slid-zero, slid-some}
use Rattle.driven.proofs.Rows.{rows-drive, rows-leave, rows-count, rowed-back}
use Rattle.driven.proofs.scatter_rows.Goals as goal

pub returns-then-has_zero : goal.returns-then-has_zero
returns-then-has_zero g c =
    let e = sym c.has_zero.ensures ∙ c.if-has_zero.true in (
      no-batch c.args.starts.now c.args.components.now.offsets c.args.components.now.strides c.args.components.now.limits c.args.components.now.count c.args.t c.args.u c.args.d c.args.bextents.now c.args.ts.now c.args.us.now c.args.brank c.args.wextents.now c.args.ws.now c.args.ds.now c.args.wrank g.E.Element.absent (g.R.Combine.combined c.args.rule) c.args.src.now c.args.dst.now e,
      slid-zero (product (take c.args.wrank c.args.wextents.now)) _ (many-none _ (λ b. start_moved c.args.starts.now c.args.components.now.offsets c.args.components.now.limits (place_at c.args.t c.args.bextents.now c.args.ts.now c.args.brank b) c.args.components.now.count) (no_cells (take c.args.brank c.args.bextents.now) e)),
    )

pub returns-then-has_zero-2 : goal.returns-then-has_zero-2
returns-then-has_zero-2 g c =
    let e = sym c.has_zero-2.ensures ∙ c.if-has_zero-2.true in (
      no-window c.args.starts.now c.args.components.now.offsets c.args.components.now.strides c.args.components.now.limits c.args.components.now.count c.args.t c.args.u c.args.d c.args.bextents.now c.args.ts.now c.args.us.now c.args.brank c.args.wextents.now c.args.ws.now c.args.ds.now c.args.wrank g.E.Element.absent (g.R.Combine.combined c.args.rule) c.args.src.now c.args.dst.now e,
      slid-none _ _ (no_cells (take c.args.wrank c.args.wextents.now) e),
    )

pub scatter_each-requires : goal.scatter_each-requires
scatter_each-requires g c =
    let batches : AllPos (take c.args.brank c.args.bextents.now) = some-cells (take c.args.brank c.args.bextents.now) (sym c.has_zero.ensures ∙ c.if-has_zero.false) in
    let cells : AllPos (take c.args.wrank c.args.wextents.now) = some-cells (take c.args.wrank c.args.wextents.now) (sym c.has_zero-2.ensures ∙ c.if-has_zero-2.false) in
    let few : product (take c.args.brank c.args.bextents.now) < 2 ^ 64 = omega (arith, c.requires.1.whole, c.ranges.batches) in
    each-asks _ _ _ _ _ _ _ _ _ _ _ _ _ _ _ _ _ _ c.requires.0 few batches cells c.ranges.t c.ranges.u c.ranges.d

pub returns-then-one_cell : goal.returns-then-one_cell
returns-then-one_cell g c =
    let batches : AllPos (take c.args.brank c.args.bextents.now) = some-cells (take c.args.brank c.args.bextents.now) (sym c.has_zero.ensures ∙ c.if-has_zero.false) in
    let cells : AllPos (take c.args.wrank c.args.wextents.now) = some-cells (take c.args.wrank c.args.wextents.now) (sym c.has_zero-2.ensures ∙ c.if-has_zero-2.false) in
    let few : product (take c.args.brank c.args.bextents.now) < 2 ^ 64 = omega (arith, c.requires.1.whole, c.ranges.batches) in (
      each-end _ _ _ _ _ _ _ _ _ _ _ _ _ _ _ _ _ _ c.requires.0 few batches cells c.ranges.t c.ranges.u c.ranges.d g.E.Element.absent (g.R.Combine.combined c.args.rule) c.args.src.now c.args.dst.now _ (c.one_cell.ensures.yes c.if-one_cell.true) c.scatter_each.ensures.0,
      counted_back (λ x. start_moved c.args.starts.now c.args.components.now.offsets c.args.components.now.limits x c.args.components.now.count) c.args.bextents.now c.args.ts.now c.args.t c.args.brank _ c.ranges.t c.scatter_each.ensures.1
          ∙ slid-some _ _ (product-pos (take c.args.wrank c.args.wextents.now) cells),
    )

pub scatter_driven-requires : goal.scatter_driven-requires
scatter_driven-requires g c =
    let batches : AllPos (take c.args.brank c.args.bextents.now) = some-cells (take c.args.brank c.args.bextents.now) (sym c.has_zero.ensures ∙ c.if-has_zero.false) in
    let cells : AllPos (take c.args.wrank c.args.wextents.now) = some-cells (take c.args.wrank c.args.wextents.now) (sym c.has_zero-2.ensures ∙ c.if-has_zero-2.false) in
    let few : product (take c.args.brank c.args.bextents.now) < 2 ^ 64 = omega (arith, c.requires.1.whole, c.ranges.batches) in
    rows-drive _ _ _ _ _ _ _ _ _ _ _ _ _ _ _ _ _ _ (rowed-back _ _ _ _ _ _ _ _ _ _ _ c.ranges.t c.ranges.u c.requires.1) _ _ _ cells
    (axes-asks _ _ _ _ _ _ _ _ _ _ _ _ _ _ _ _ _ _ c.requires.0 few batches cells c.ranges.t c.ranges.u c.ranges.d c.run_axis-low.result c.run_axis-low.ensures.below c.run_axis-low.ensures.units)

pub returns : goal.returns
returns g c =
    let batches : AllPos (take c.args.brank c.args.bextents.now) = some-cells (take c.args.brank c.args.bextents.now) (sym c.has_zero.ensures ∙ c.if-has_zero.false) in
    let cells : AllPos (take c.args.wrank c.args.wextents.now) = some-cells (take c.args.wrank c.args.wextents.now) (sym c.has_zero-2.ensures ∙ c.if-has_zero-2.false) in
    let few : product (take c.args.brank c.args.bextents.now) < 2 ^ 64 = omega (arith, c.requires.1.whole, c.ranges.batches) in (
      axes-end _ _ _ _ _ _ _ _ _ _ _ _ _ _ _ _ _ _ c.requires.0 few batches cells c.ranges.t c.ranges.u c.ranges.d g.E.Element.absent (g.R.Combine.combined c.args.rule) c.args.src.now c.args.dst.now _
          (c.scatter_driven.ensures.0 ∙ rows-leave c.args.starts.now c.args.components.now.offsets c.args.components.now.strides c.args.components.now.limits _ _ (read c.args.d) _ _ _ _ _ _ _ c.args.wextents.now c.args.ws.now c.args.ds.now c.args.wrank (rowed-back _ _ _ _ _ _ _ _ _ _ _ c.ranges.t c.ranges.u c.requires.1) g.E.Element.absent (g.R.Combine.combined c.args.rule) c.args.src.now c.args.dst.now),
      counted_back (λ x. start_moved c.args.starts.now c.args.components.now.offsets c.args.components.now.limits x c.args.components.now.count) c.args.bextents.now c.args.ts.now c.args.t c.args.brank _ c.ranges.t
          (c.scatter_driven.ensures.1 ∙ rows-count c.args.starts.now c.args.components.now.offsets c.args.components.now.strides c.args.components.now.limits _ _ (read c.args.d) _ _ _ _ _ _ _ c.args.wextents.now c.args.ws.now c.args.ds.now c.args.wrank (rowed-back _ _ _ _ _ _ _ _ _ _ _ c.ranges.t c.ranges.u c.requires.1))
          ∙ slid-some _ _ (product-pos (take c.args.wrank c.args.wextents.now) cells),
    )
