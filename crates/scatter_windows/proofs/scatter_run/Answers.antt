use Rattle.std.proofs.Common.{rules, get_or, pos, w64, FitsSigned, arith}
use Rattle.indexing.specs.Counting.{many-none}
use Rattle.runs.specs.Runs.{line}
use Rattle.runs.proofs.Turns.{none}
use Rattle.indexed_runs.proofs.Puts.{still-asks, still-end}
use Rattle.scatter_windows.proofs.Counted.{none-moved}
use Rattle.scatter_windows.proofs.Single.{at_sum, single-asks, single-end, single-count}
use Rattle.scatter_windows.proofs.scatter_run.Goals as goal

pub returns-then-n-eq0 : goal.returns-then-n-eq0
returns-then-n-eq0 g c = (none _ c.args.n c.args.dst.now c.if-n-eq0.true, many-none c.args.n _ c.if-n-eq0.true)

pub strided_run-requires : goal.strided_run-requires
strided_run-requires g c = still-asks c.args.starts.now c.args.components.now.offsets c.args.components.now.strides c.args.components.now.limits c.args.components.now.count c.if-components-eq0.true _ _ _ _ _ _ _ _ c.ranges.u c.ranges.d c.ranges.us c.requires

pub returns-then-components-eq0 : goal.returns-then-components-eq0
returns-then-components-eq0 g c = (
  still-end c.args.starts.now c.args.components.now.offsets c.args.components.now.strides c.args.components.now.limits c.args.components.now.count c.if-components-eq0.true c.args.u c.args.t c.args.d c.args.us c.args.ts g.E.Element.absent (g.R.Combine.combined c.args.rule) c.args.src.now c.args.n c.args.dst.now _ c.ranges.u c.ranges.d c.ranges.us c.strided_run.ensures,
  none-moved c.args.starts.now c.args.components.now.offsets c.args.components.now.limits c.args.components.now.count c.args.n (line c.args.t c.args.ts) c.if-components-eq0.true,
)

pub overflow_add-at : goal.overflow_add-at
overflow_add-at g c =
    let offset : FitsSigned w64 (get_or c.args.components.now.offsets 0 (pos 0)) = search rules in
    at_sum _ _ _ _ _ _ _ _ _ _ _ _ _ c.requires c.if-n-eq0.false c.if-components-eq1.true (omega arith) c.ranges.u c.ranges.t c.ranges.d c.ranges.us c.ranges.ts offset

pub put_run-requires : goal.put_run-requires
put_run-requires g c =
    let offset : FitsSigned w64 (get_or c.args.components.now.offsets 0 (pos 0)) = search rules in
    let stride : FitsSigned w64 (get_or c.args.components.now.strides 0 (pos 0)) = search rules in
    single-asks _ _ _ _ _ _ _ _ _ _ _ _ _ c.requires c.if-n-eq0.false c.if-components-eq1.true (omega arith) c.ranges.u c.ranges.t c.ranges.d c.ranges.us c.ranges.ts offset stride

pub returns-then-components-eq1 : goal.returns-then-components-eq1
returns-then-components-eq1 g c =
    let offset : FitsSigned w64 (get_or c.args.components.now.offsets 0 (pos 0)) = search rules in
    let stride : FitsSigned w64 (get_or c.args.components.now.strides 0 (pos 0)) = search rules in (
      single-end _ _ _ _ _ _ _ _ _ _ _ _ _ c.requires c.if-n-eq0.false c.if-components-eq1.true (omega arith) c.ranges.u c.ranges.t c.ranges.d c.ranges.us c.ranges.ts offset g.E.Element.absent (g.R.Combine.combined c.args.rule) c.args.src.now c.args.dst.now _ stride c.put_run.ensures.0,
      single-count _ _ _ _ _ _ _ _ _ _ _ _ _ c.requires c.if-n-eq0.false c.if-components-eq1.true (omega arith) c.ranges.u c.ranges.t c.ranges.d c.ranges.us c.ranges.ts offset _ c.put_run.ensures.1,
    )
