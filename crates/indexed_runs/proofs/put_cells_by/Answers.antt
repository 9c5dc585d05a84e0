use Rattle.std.proofs.Common.{rules, refl, ap₂, ◌∙◌, length, nat_abs, ◌^◌, ◌-◌, arith}
use borrow.Author.Rules.{scaled_Fits}
use Rattle.indexing.specs.Counting.{many-none, many_more}
use Rattle.runs.specs.Runs.{line}
use Rattle.runs.proofs.Turns.{none, cell-more}
use Rattle.runs.proofs.Place.{read, machine, Step, Index}
use Rattle.indexed_runs.specs.IndexedRuns.{start_moved, moved_at}
use Rattle.indexed_runs.proofs.Places.{element}
use Rattle.indexed_runs.proofs.Puts.{source-step, index-step, started-asks, place-index, place_is, puts-end}
use Rattle.indexed_runs.proofs.Counts.{one_below, started-is, starts-end}
use Rattle.indexed_runs.proofs.put_cells_by.Goals as goal

pub returns-then-count-eq0 : goal.returns-then-count-eq0
returns-then-count-eq0 g c = absurd (omega (arith, c.requires.0, c.if-count-eq0.true))

pub loop-i-init : goal.loop-i-init
loop-i-init g c = (none _ 0 c.args.dst.now refl, many-none 0 _ refl)

pub overflow_mul-ts : goal.overflow_mul-ts
overflow_mul-ts g c = (index-step _ _ _ _ _ _ _ _ _ _ _ _ _ c.requires.1 _ c.loop-i-test.true c.ranges.t c.ranges.ts).multiple

pub overflow_add-t : goal.overflow_add-t
overflow_add-t g c = (index-step _ _ _ _ _ _ _ _ _ _ _ _ _ c.requires.1 _ c.loop-i-test.true c.ranges.t c.ranges.ts).fits

pub started_by-m-requires : goal.started_by-m-requires
started_by-m-requires g c =
    let by : Step c.args.t c.args.ts c.loop-i.i (2 ^ 63 - 1) = index-step _ _ _ _ _ _ _ _ _ _ _ _ _ c.requires.1 _ c.loop-i-test.true c.ranges.t c.ranges.ts in
    started-asks _ _ _ _ _ _ _ _ _ _ _ _ _ c.requires.1 _ c.loop-i-test.true by c.ranges.d (omega arith)

pub overflow_cast-b : goal.overflow_cast-b
overflow_cast-b g c =
    let by : Step c.args.t c.args.ts c.loop-i.i (2 ^ 63 - 1) = index-step _ _ _ _ _ _ _ _ _ _ _ _ _ c.requires.1 _ c.loop-i-test.true c.ranges.t c.ranges.ts in
    let at : Index c.started_by-m.result.at (length c.args.dst.now) = place-index _ _ _ _ _ _ _ _ _ _ _ _ _ c.requires.1 _ c.loop-i-test.true by c.ranges.d (omega arith) _ c.started_by-m.ensures.0 in
    at.cast

pub overflow_mul-a : goal.overflow_mul-a
overflow_mul-a g c = (source-step _ _ _ _ _ _ _ _ _ _ _ _ _ c.requires.1 _ c.loop-i-test.true c.ranges.s c.ranges.ss (omega arith)).multiple

pub overflow_add-a : goal.overflow_add-a
overflow_add-a g c = (source-step _ _ _ _ _ _ _ _ _ _ _ _ _ c.requires.1 _ c.loop-i-test.true c.ranges.s c.ranges.ss (omega arith)).fits

pub overflow_cast-a : goal.overflow_cast-a
overflow_cast-a g c = (source-step _ _ _ _ _ _ _ _ _ _ _ _ _ c.requires.1 _ c.loop-i-test.true c.ranges.s c.ranges.ss (omega arith)).cast

pub offset_bounds-dst-b : goal.offset_bounds-dst-b
offset_bounds-dst-b g c =
    let by : Step c.args.t c.args.ts c.loop-i.i (2 ^ 63 - 1) = index-step _ _ _ _ _ _ _ _ _ _ _ _ _ c.requires.1 _ c.loop-i-test.true c.ranges.t c.ranges.ts in
    let at : Index c.started_by-m.result.at (length c.args.dst.now) = place-index _ _ _ _ _ _ _ _ _ _ _ _ _ c.requires.1 _ c.loop-i-test.true by c.ranges.d (omega arith) _ c.started_by-m.ensures.0 in
    scaled_Fits _ (length c.loop-i.dst) _ (omega (arith, at.below)) (search rules)

pub bounds-dst-b : goal.bounds-dst-b
bounds-dst-b g c =
    let by : Step c.args.t c.args.ts c.loop-i.i (2 ^ 63 - 1) = index-step _ _ _ _ _ _ _ _ _ _ _ _ _ c.requires.1 _ c.loop-i-test.true c.ranges.t c.ranges.ts in
    let at : Index c.started_by-m.result.at (length c.args.dst.now) = place-index _ _ _ _ _ _ _ _ _ _ _ _ _ c.requires.1 _ c.loop-i-test.true by c.ranges.d (omega arith) _ c.started_by-m.ensures.0 in
    omega (arith, at.below)

pub offset_bounds-dst-b-in-loop-i : goal.offset_bounds-dst-b-in-loop-i
offset_bounds-dst-b-in-loop-i g c =
    let by : Step c.args.t c.args.ts c.loop-i.i (2 ^ 63 - 1) = index-step _ _ _ _ _ _ _ _ _ _ _ _ _ c.requires.1 _ c.loop-i-test.true c.ranges.t c.ranges.ts in
    let at : Index c.started_by-m.result.at (length c.args.dst.now) = place-index _ _ _ _ _ _ _ _ _ _ _ _ _ c.requires.1 _ c.loop-i-test.true by c.ranges.d (omega arith) _ c.started_by-m.ensures.0 in
    scaled_Fits _ (length c.loop-i.dst) _ (omega (arith, at.below)) (search rules)

pub bounds-dst-b-in-loop-i : goal.bounds-dst-b-in-loop-i
bounds-dst-b-in-loop-i g c =
    let by : Step c.args.t c.args.ts c.loop-i.i (2 ^ 63 - 1) = index-step _ _ _ _ _ _ _ _ _ _ _ _ _ c.requires.1 _ c.loop-i-test.true c.ranges.t c.ranges.ts in
    let at : Index c.started_by-m.result.at (length c.args.dst.now) = place-index _ _ _ _ _ _ _ _ _ _ _ _ _ c.requires.1 _ c.loop-i-test.true by c.ranges.d (omega arith) _ c.started_by-m.ensures.0 in
    omega (arith, at.below)

pub offset_bounds-src-a : goal.offset_bounds-src-a
offset_bounds-src-a g c =
    let from : Step c.args.s c.args.ss c.loop-i.i (length c.args.src.now) = source-step _ _ _ _ _ _ _ _ _ _ _ _ _ c.requires.1 _ c.loop-i-test.true c.ranges.s c.ranges.ss (omega arith) in
    omega (arith, from.below)

pub bounds-src-a : goal.bounds-src-a
bounds-src-a g c =
    let from : Step c.args.s c.args.ss c.loop-i.i (length c.args.src.now) = source-step _ _ _ _ _ _ _ _ _ _ _ _ _ c.requires.1 _ c.loop-i-test.true c.ranges.s c.ranges.ss (omega arith) in
    from.below

pub overflow_add-slid : goal.overflow_add-slid
overflow_add-slid g c = omega (arith, one_below c.loop-i.i _ _ _ c.started_by-m.result.moved c.loop-i.invariant.1 c.count_if-slid.ensures)

pub loop-i-preserved : goal.loop-i-preserved
loop-i-preserved g c =
    let from : Step c.args.s c.args.ss c.loop-i.i (length c.args.src.now) = source-step _ _ _ _ _ _ _ _ _ _ _ _ _ c.requires.1 _ c.loop-i-test.true c.ranges.s c.ranges.ss (omega arith) in
    let by : Step c.args.t c.args.ts c.loop-i.i (2 ^ 63 - 1) = index-step _ _ _ _ _ _ _ _ _ _ _ _ _ c.requires.1 _ c.loop-i-test.true c.ranges.t c.ranges.ts in
    let at : Index c.started_by-m.result.at (length c.args.dst.now) = place-index _ _ _ _ _ _ _ _ _ _ _ _ _ c.requires.1 _ c.loop-i-test.true by c.ranges.d (omega arith) _ c.started_by-m.ensures.0 in (
      cell-more g.E.Element.absent (g.R.Combine.combined c.args.rule) c.args.src.now (line (read c.args.s) (read c.args.ss))
          (moved_at c.args.starts.now c.args.components.now.offsets c.args.components.now.strides c.args.components.now.limits c.args.count (λ _. read c.args.d) (line (read c.args.t) (read c.args.ts)))
          c.args.dst.now c.loop-i.dst c.loop-i.i (nat_abs (machine c.args.s c.args.ss c.loop-i.i)) (nat_abs (read c.started_by-m.result.at)) _ c.loop-i.invariant.0 from.index_is
          (place_is _ _ _ _ _ _ _ _ _ _ _ _ _ c.requires.1 _ c.loop-i-test.true by c.ranges.d (omega arith) _ c.started_by-m.ensures.0)
          (c.apply.ensures ∙ ap₂ (g.R.Combine.combined c.args.rule) (element c.loop-i.dst _ _ g.E.Element.absent (omega (arith, at.below)) c.index-dst-b.is) (element c.args.src.now _ _ g.E.Element.absent from.below c.index-src-a.is)),
      many_more c.loop-i.i (λ k. start_moved c.args.starts.now c.args.components.now.offsets c.args.components.now.limits (line (read c.args.t) (read c.args.ts) k) c.args.count) _ _ c.started_by-m.result.moved c.loop-i.invariant.1 c.count_if-slid.ensures
          (started-is c.args.starts.now c.args.components.now.offsets c.args.components.now.limits c.args.count _ _ _ _ by _ c.started_by-m.ensures.1),
    )

pub returns : goal.returns
returns g c = (
  puts-end g.E.Element.absent (g.R.Combine.combined c.args.rule) c.args.src.now c.args.starts.now c.args.components.now.offsets c.args.components.now.strides c.args.components.now.limits c.args.count _ _ _ _ _ _ _ c.args.dst.now c.loop-i.dst c.ranges.s c.ranges.t c.ranges.d c.ranges.ss c.ranges.ts (omega arith) c.loop-i.invariant.0,
  starts-end c.args.starts.now c.args.t c.args.ts c.loop-i.i c.args.n c.loop-i.slid c.ranges.t c.ranges.ts (omega arith) c.args.components.now.offsets c.args.components.now.limits c.args.count c.loop-i.invariant.1,
)
