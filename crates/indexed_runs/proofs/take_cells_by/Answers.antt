use Rattle.std.proofs.Common.{rules, refl, ap, ◌∙◌, not, nat_eq, cond, Bool, ◌&&◌, ℕ, length, ◌^◌, ◌-◌, arith}
use borrow.Author.Rules.{scaled_Fits}
use Rattle.indexing.specs.Counting.{many-none, many_more}
use Rattle.runs.specs.Runs.{line}
use Rattle.runs.proofs.Turns.{none, cell-more}
use Rattle.runs.proofs.Place.{read, Step, Index}
use Rattle.indexed_runs.specs.IndexedRuns.{replaced, start_moved, moved_at}
use Rattle.indexed_runs.proofs.Places.{element}
use Rattle.indexed_runs.proofs.Cells.{source-step, index-step, dest-step, started-asks, place-index, place_is, cells-end}
use Rattle.indexed_runs.proofs.Counts.{one_below, one-counts, all-or-none, started-is, starts-end}
use Rattle.indexed_runs.proofs.take_cells_by.Goals as goal

pub loop-i-init : goal.loop-i-init
loop-i-init g c = (none _ 0 c.args.dst.now refl, many-none 0 _ refl)

pub overflow_mul-ss : goal.overflow_mul-ss
overflow_mul-ss g c = (source-step _ _ _ _ _ _ _ _ _ _ _ _ _ _ c.requires _ c.loop-i-test.true c.ranges.s c.ranges.ss (omega arith)).multiple

pub overflow_add-s : goal.overflow_add-s
overflow_add-s g c = (source-step _ _ _ _ _ _ _ _ _ _ _ _ _ _ c.requires _ c.loop-i-test.true c.ranges.s c.ranges.ss (omega arith)).fits

pub overflow_mul-ts : goal.overflow_mul-ts
overflow_mul-ts g c = (index-step _ _ _ _ _ _ _ _ _ _ _ _ _ _ c.requires _ c.loop-i-test.true c.ranges.t c.ranges.ts).multiple

pub overflow_add-t : goal.overflow_add-t
overflow_add-t g c = (index-step _ _ _ _ _ _ _ _ _ _ _ _ _ _ c.requires _ c.loop-i-test.true c.ranges.t c.ranges.ts).fits

pub started_by-m-requires : goal.started_by-m-requires
started_by-m-requires g c =
    let from : Step c.args.s c.args.ss c.loop-i.i (length c.args.src.now) = source-step _ _ _ _ _ _ _ _ _ _ _ _ _ _ c.requires _ c.loop-i-test.true c.ranges.s c.ranges.ss (omega arith) in
    let by : Step c.args.t c.args.ts c.loop-i.i (2 ^ 63 - 1) = index-step _ _ _ _ _ _ _ _ _ _ _ _ _ _ c.requires _ c.loop-i-test.true c.ranges.t c.ranges.ts in
    started-asks _ _ _ _ _ _ _ _ _ _ _ _ _ _ c.requires _ c.loop-i-test.true from by (omega arith)

pub overflow_cast-a : goal.overflow_cast-a
overflow_cast-a g c =
    let from : Step c.args.s c.args.ss c.loop-i.i (length c.args.src.now) = source-step _ _ _ _ _ _ _ _ _ _ _ _ _ _ c.requires _ c.loop-i-test.true c.ranges.s c.ranges.ss (omega arith) in
    let by : Step c.args.t c.args.ts c.loop-i.i (2 ^ 63 - 1) = index-step _ _ _ _ _ _ _ _ _ _ _ _ _ _ c.requires _ c.loop-i-test.true c.ranges.t c.ranges.ts in
    (place-index _ _ _ _ _ _ _ _ _ _ _ _ _ _ c.requires _ c.loop-i-test.true from by _ c.started_by-m.ensures.0 (omega arith)).cast

pub overflow_mul-b : goal.overflow_mul-b
overflow_mul-b g c = (dest-step _ _ _ _ _ _ _ _ _ _ _ _ _ _ c.requires _ c.loop-i-test.true c.ranges.d c.ranges.ds (omega arith)).multiple

pub overflow_add-b : goal.overflow_add-b
overflow_add-b g c = (dest-step _ _ _ _ _ _ _ _ _ _ _ _ _ _ c.requires _ c.loop-i-test.true c.ranges.d c.ranges.ds (omega arith)).fits

pub overflow_cast-b : goal.overflow_cast-b
overflow_cast-b g c = (dest-step _ _ _ _ _ _ _ _ _ _ _ _ _ _ c.requires _ c.loop-i-test.true c.ranges.d c.ranges.ds (omega arith)).cast

pub offset_bounds-src-a : goal.offset_bounds-src-a
offset_bounds-src-a g c =
    let from : Step c.args.s c.args.ss c.loop-i.i (length c.args.src.now) = source-step _ _ _ _ _ _ _ _ _ _ _ _ _ _ c.requires _ c.loop-i-test.true c.ranges.s c.ranges.ss (omega arith) in
    let by : Step c.args.t c.args.ts c.loop-i.i (2 ^ 63 - 1) = index-step _ _ _ _ _ _ _ _ _ _ _ _ _ _ c.requires _ c.loop-i-test.true c.ranges.t c.ranges.ts in
    omega (arith, (place-index _ _ _ _ _ _ _ _ _ _ _ _ _ _ c.requires _ c.loop-i-test.true from by _ c.started_by-m.ensures.0 (omega arith)).below)

pub bounds-src-a : goal.bounds-src-a
bounds-src-a g c =
    let from : Step c.args.s c.args.ss c.loop-i.i (length c.args.src.now) = source-step _ _ _ _ _ _ _ _ _ _ _ _ _ _ c.requires _ c.loop-i-test.true c.ranges.s c.ranges.ss (omega arith) in
    let by : Step c.args.t c.args.ts c.loop-i.i (2 ^ 63 - 1) = index-step _ _ _ _ _ _ _ _ _ _ _ _ _ _ c.requires _ c.loop-i-test.true c.ranges.t c.ranges.ts in
    (place-index _ _ _ _ _ _ _ _ _ _ _ _ _ _ c.requires _ c.loop-i-test.true from by _ c.started_by-m.ensures.0 (omega arith)).below

pub offset_bounds-dst-b : goal.offset_bounds-dst-b
offset_bounds-dst-b g c =
    let to : Step c.args.d c.args.ds c.loop-i.i (length c.args.dst.now) = dest-step _ _ _ _ _ _ _ _ _ _ _ _ _ _ c.requires _ c.loop-i-test.true c.ranges.d c.ranges.ds (omega arith) in
    scaled_Fits _ (length c.loop-i.dst) _ (omega (arith, to.below)) (search rules)

pub bounds-dst-b : goal.bounds-dst-b
bounds-dst-b g c =
    let to : Step c.args.d c.args.ds c.loop-i.i (length c.args.dst.now) = dest-step _ _ _ _ _ _ _ _ _ _ _ _ _ _ c.requires _ c.loop-i-test.true c.ranges.d c.ranges.ds (omega arith) in
    omega (arith, to.below)

pub overflow_add-slid : goal.overflow_add-slid
overflow_add-slid g c =
    let counts : Bool = not (nat_eq g.row.COUNTS 0) in
    omega (arith, one_below c.loop-i.i _ _ _ (counts && c.started_by-m.result.moved) c.loop-i.invariant.1 (one-counts counts _ _ _ c.count_if-one.ensures c.count_if-slid.ensures))

pub loop-i-preserved : goal.loop-i-preserved
loop-i-preserved g c =
    let counts : Bool = not (nat_eq g.row.COUNTS 0) in
    let from : Step c.args.s c.args.ss c.loop-i.i (length c.args.src.now) = source-step _ _ _ _ _ _ _ _ _ _ _ _ _ _ c.requires _ c.loop-i-test.true c.ranges.s c.ranges.ss (omega arith) in
    let by : Step c.args.t c.args.ts c.loop-i.i (2 ^ 63 - 1) = index-step _ _ _ _ _ _ _ _ _ _ _ _ _ _ c.requires _ c.loop-i-test.true c.ranges.t c.ranges.ts in
    let to : Step c.args.d c.args.ds c.loop-i.i (length c.args.dst.now) = dest-step _ _ _ _ _ _ _ _ _ _ _ _ _ _ c.requires _ c.loop-i-test.true c.ranges.d c.ranges.ds (omega arith) in
    let at : Index c.started_by-m.result.at (length c.args.src.now) = place-index _ _ _ _ _ _ _ _ _ _ _ _ _ _ c.requires _ c.loop-i-test.true from by _ c.started_by-m.ensures.0 (omega arith) in (
      cell-more g.E.Element.absent replaced c.args.src.now (moved_at c.args.starts.now c.args.components.now.offsets c.args.components.now.strides c.args.components.now.limits c.args.count (line (read c.args.s) (read c.args.ss)) (line (read c.args.t) (read c.args.ts))) (line (read c.args.d) (read c.args.ds)) c.args.dst.now c.loop-i.dst c.loop-i.i _ _ _ c.loop-i.invariant.0
          (place_is _ _ _ _ _ _ _ _ _ _ _ _ _ _ c.requires _ c.loop-i-test.true from by _ c.started_by-m.ensures.0 (omega arith)) to.index_is (element c.args.src.now _ _ g.E.Element.absent at.below c.index-src-a.is),
      many_more c.loop-i.i (λ k. counts && start_moved c.args.starts.now c.args.components.now.offsets c.args.components.now.limits (line (read c.args.t) (read c.args.ts) k) c.args.count) _ _ (counts && c.started_by-m.result.moved) c.loop-i.invariant.1
          (one-counts counts _ _ _ c.count_if-one.ensures c.count_if-slid.ensures)
          (ap (λ (b : Bool). counts && b) (started-is c.args.starts.now c.args.components.now.offsets c.args.components.now.limits c.args.count _ _ _ _ by _ c.started_by-m.ensures.1)),
    )

pub returns : goal.returns
returns g c =
    let counts : Bool = not (nat_eq g.row.COUNTS 0) in (
      cells-end g.E.Element.absent replaced c.args.src.now c.args.starts.now c.args.components.now.offsets c.args.components.now.strides c.args.components.now.limits c.args.count _ _ _ _ _ _ _ _ c.args.dst.now c.loop-i.dst c.ranges.s c.ranges.t c.ranges.d c.ranges.ss c.ranges.ts c.ranges.ds (omega arith) c.loop-i.invariant.0,
      c.loop-i.invariant.1
          ∙ all-or-none counts c.loop-i.i (λ k. start_moved c.args.starts.now c.args.components.now.offsets c.args.components.now.limits (line (read c.args.t) (read c.args.ts) k) c.args.count)
          ∙ ap (λ (m : ℕ). cond counts m 0) (starts-end c.args.starts.now c.args.t c.args.ts c.loop-i.i c.args.n _ c.ranges.t c.ranges.ts (omega arith) c.args.components.now.offsets c.args.components.now.limits c.args.count refl),
    )
