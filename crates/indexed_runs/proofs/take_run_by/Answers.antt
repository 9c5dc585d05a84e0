use Rattle.std.proofs.Common.{refl, not, nat_eq, Bool}
use Rattle.indexing.specs.Counting.{many-none}
use Rattle.runs.proofs.Turns.{none}
use Rattle.indexed_runs.specs.IndexedRuns.{replaced}
use Rattle.indexed_runs.proofs.Places.{take-end}
use Rattle.indexed_runs.proofs.Ones.{row-asks, take-row-end, row-count}
use Rattle.indexed_runs.proofs.Counts.{none-counts, so-counted, moves-end}
use Rattle.indexed_runs.proofs.take_run_by.Goals as goal

pub returns-then-n-eq0 : goal.returns-then-n-eq0
returns-then-n-eq0 g c =
    let counts : Bool = not (nat_eq g.row.COUNTS 0) in
    (none _ c.args.n c.args.dst.now c.if-n-eq0.true, none-counts counts _ (many-none c.args.n _ c.if-n-eq0.true))

pub take_row-requires : goal.take_row-requires
take_row-requires g c = row-asks _ _ _ c.ranges.ts c.ranges.stride c.ranges.ds c.if-ts-eq1.true c.if-stride-eq1.true c.if-ds-eq1.true _ _ _ _ _ _ _ _ c.ranges.t c.ranges.base c.ranges.d c.if-n-eq0.false c.requires

pub returns-then-ds-eq1 : goal.returns-then-ds-eq1
returns-then-ds-eq1 g c =
    let counts : Bool = not (nat_eq g.row.COUNTS 0) in (
      take-row-end c.args.ts c.args.stride c.args.ds c.ranges.ts c.ranges.stride c.ranges.ds c.if-ts-eq1.true c.if-stride-eq1.true c.if-ds-eq1.true g.E.Element.absent replaced c.args.src.now c.args.starts.now c.args.t c.args.base c.args.d c.args.limit c.args.n c.args.dst.now _ c.ranges.t c.ranges.base c.ranges.d c.take_row.ensures.0,
      so-counted counts counts _ _ _ refl (row-count c.args.ts c.args.stride c.args.ds c.ranges.ts c.ranges.stride c.ranges.ds c.if-ts-eq1.true c.if-stride-eq1.true c.if-ds-eq1.true c.args.starts.now c.args.t c.args.limit c.args.n _ c.ranges.t refl) c.take_row.ensures.1,
    )

pub returns : goal.returns
returns g c =
    let counts : Bool = not (nat_eq g.row.COUNTS 0) in (
      take-end g.E.Element.absent replaced c.args.src.now c.args.starts.now c.args.t c.args.ts c.args.base c.args.stride c.args.d c.args.ds c.args.limit c.args.n c.args.n c.args.dst.now c.take_strided.new.dst c.ranges.t c.ranges.ts c.ranges.base c.ranges.stride c.ranges.d c.ranges.ds refl c.take_strided.ensures.0,
      so-counted counts counts _ _ _ refl (moves-end c.args.starts.now c.args.t c.args.ts c.args.n c.args.n _ c.ranges.t c.ranges.ts refl c.args.limit refl) c.take_strided.ensures.1,
    )
