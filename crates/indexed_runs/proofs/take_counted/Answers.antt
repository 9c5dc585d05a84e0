use Rattle.std.proofs.Common.{refl, not, nat_eq, Bool}
use Rattle.indexed_runs.specs.IndexedRuns.{replaced}
use Rattle.indexed_runs.proofs.Cells.{cells-end}
use Rattle.indexed_runs.proofs.Counts.{so-counted, starts-end}
use Rattle.indexed_runs.proofs.take_counted.Goals as goal

pub returns-then-count-eq2 : goal.returns-then-count-eq2
returns-then-count-eq2 g c =
    let counts : Bool = not (nat_eq g.row.COUNTS 0) in
    rw c.if-count-eq2.true (
      cells-end g.E.Element.absent replaced c.args.src.now c.args.starts.now c.args.components.now.offsets c.args.components.now.strides c.args.components.now.limits 2 _ _ _ _ _ _ c.args.n c.args.n c.args.dst.now _ c.ranges.s c.ranges.t c.ranges.d c.ranges.ss c.ranges.ts c.ranges.ds refl c.take_cells_by.ensures.0,
      so-counted counts counts _ _ _ refl (starts-end c.args.starts.now c.args.t c.args.ts c.args.n c.args.n _ c.ranges.t c.ranges.ts refl c.args.components.now.offsets c.args.components.now.limits 2 refl) c.take_cells_by.ensures.1,
    )

pub returns-else-count-eq2 : goal.returns-else-count-eq2
returns-else-count-eq2 g c =
    let counts : Bool = not (nat_eq g.row.COUNTS 0) in (
      cells-end g.E.Element.absent replaced c.args.src.now c.args.starts.now c.args.components.now.offsets c.args.components.now.strides c.args.components.now.limits c.args.components.now.count _ _ _ _ _ _ c.args.n c.args.n c.args.dst.now _ c.ranges.s c.ranges.t c.ranges.d c.ranges.ss c.ranges.ts c.ranges.ds refl c.take_cells_by-else-count-eq2.ensures.0,
      so-counted counts counts _ _ _ refl (starts-end c.args.starts.now c.args.t c.args.ts c.args.n c.args.n _ c.ranges.t c.ranges.ts refl c.args.components.now.offsets c.args.components.now.limits c.args.components.now.count refl) c.take_cells_by-else-count-eq2.ensures.1,
    )
