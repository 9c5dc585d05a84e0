use Rattle.std.proofs.Common.{rules, refl, ap, ◌∙◌, not, nat_eq, cond, Bool, ◌&&◌, ℕ, length, nat_abs, arith}
use borrow.Author.Rules.{scaled_Fits}
use Rattle.indexing.specs.Counting.{many-none, many_more}
use Rattle.runs.specs.Runs.{line}
use Rattle.runs.proofs.Turns.{none, cell-more}
use Rattle.runs.proofs.Place.{read, machine, Step}
use Rattle.indexed_runs.specs.IndexedRuns.{replaced, clamped_at, moves_at}
use Rattle.indexed_runs.proofs.Places.{element, start-step, plain_step, clamped-step, clamped-is, take-end}
use Rattle.indexed_runs.proofs.Counts.{one_below, one-counts, all-or-none, moves-is, moves-end}
use Rattle.indexed_runs.proofs.take_strided.Goals as goal

pub loop-i-init : goal.loop-i-init
loop-i-init g c = (none _ 0 c.args.dst.now refl, many-none 0 _ refl)

pub overflow_mul-p : goal.overflow_mul-p
overflow_mul-p g c = (start-step _ _ _ _ _ _ _ _ _ _ _ c.requires c.ranges.t c.ranges.ts (omega arith) _ c.loop-i-test.true).multiple

pub overflow_add-p : goal.overflow_add-p
overflow_add-p g c = (start-step _ _ _ _ _ _ _ _ _ _ _ c.requires c.ranges.t c.ranges.ts (omega arith) _ c.loop-i-test.true).fits

pub overflow_cast-p : goal.overflow_cast-p
overflow_cast-p g c = (start-step _ _ _ _ _ _ _ _ _ _ _ c.requires c.ranges.t c.ranges.ts (omega arith) _ c.loop-i-test.true).cast

pub offset_bounds-starts-p : goal.offset_bounds-starts-p
offset_bounds-starts-p g c = omega (arith, (start-step _ _ _ _ _ _ _ _ _ _ _ c.requires c.ranges.t c.ranges.ts (omega arith) _ c.loop-i-test.true).below)

pub bounds-starts-p : goal.bounds-starts-p
bounds-starts-p g c = (start-step _ _ _ _ _ _ _ _ _ _ _ c.requires c.ranges.t c.ranges.ts (omega arith) _ c.loop-i-test.true).below

pub overflow_cast-a : goal.overflow_cast-a
overflow_cast-a g c =
    let start : Step c.args.t c.args.ts c.loop-i.i (length c.args.starts.now) = start-step _ _ _ _ _ _ _ _ _ _ _ c.requires c.ranges.t c.ranges.ts (omega arith) _ c.loop-i-test.true in
    let at : Step c.args.base c.args.stride c.clamp_window_start-y.result.start (length c.args.src.now) = clamped-step _ _ _ _ _ _ _ _ _ _ _ c.requires c.ranges.t c.ranges.ts c.ranges.base c.ranges.stride (omega arith) _ c.loop-i-test.true start (search rules) _ c.clamp_window_start-y.ensures.0 in
    at.count

pub overflow_mul-a : goal.overflow_mul-a
overflow_mul-a g c =
    let start : Step c.args.t c.args.ts c.loop-i.i (length c.args.starts.now) = start-step _ _ _ _ _ _ _ _ _ _ _ c.requires c.ranges.t c.ranges.ts (omega arith) _ c.loop-i-test.true in
    let at : Step c.args.base c.args.stride c.clamp_window_start-y.result.start (length c.args.src.now) = clamped-step _ _ _ _ _ _ _ _ _ _ _ c.requires c.ranges.t c.ranges.ts c.ranges.base c.ranges.stride (omega arith) _ c.loop-i-test.true start (search rules) _ c.clamp_window_start-y.ensures.0 in
    at.multiple

pub overflow_add-a : goal.overflow_add-a
overflow_add-a g c =
    let start : Step c.args.t c.args.ts c.loop-i.i (length c.args.starts.now) = start-step _ _ _ _ _ _ _ _ _ _ _ c.requires c.ranges.t c.ranges.ts (omega arith) _ c.loop-i-test.true in
    let at : Step c.args.base c.args.stride c.clamp_window_start-y.result.start (length c.args.src.now) = clamped-step _ _ _ _ _ _ _ _ _ _ _ c.requires c.ranges.t c.ranges.ts c.ranges.base c.ranges.stride (omega arith) _ c.loop-i-test.true start (search rules) _ c.clamp_window_start-y.ensures.0 in
    at.fits

pub overflow_cast-a-in-loop-i : goal.overflow_cast-a-in-loop-i
overflow_cast-a-in-loop-i g c =
    let start : Step c.args.t c.args.ts c.loop-i.i (length c.args.starts.now) = start-step _ _ _ _ _ _ _ _ _ _ _ c.requires c.ranges.t c.ranges.ts (omega arith) _ c.loop-i-test.true in
    let at : Step c.args.base c.args.stride c.clamp_window_start-y.result.start (length c.args.src.now) = clamped-step _ _ _ _ _ _ _ _ _ _ _ c.requires c.ranges.t c.ranges.ts c.ranges.base c.ranges.stride (omega arith) _ c.loop-i-test.true start (search rules) _ c.clamp_window_start-y.ensures.0 in
    at.cast

pub overflow_mul-b : goal.overflow_mul-b
overflow_mul-b g c = (plain_step _ _ _ _ _ _ _ _ _ _ _ c.requires c.ranges.d c.ranges.ds (omega arith) _ c.loop-i-test.true).multiple

pub overflow_add-b : goal.overflow_add-b
overflow_add-b g c = (plain_step _ _ _ _ _ _ _ _ _ _ _ c.requires c.ranges.d c.ranges.ds (omega arith) _ c.loop-i-test.true).fits

pub overflow_cast-b : goal.overflow_cast-b
overflow_cast-b g c = (plain_step _ _ _ _ _ _ _ _ _ _ _ c.requires c.ranges.d c.ranges.ds (omega arith) _ c.loop-i-test.true).cast

pub offset_bounds-src-a : goal.offset_bounds-src-a
offset_bounds-src-a g c =
    let start : Step c.args.t c.args.ts c.loop-i.i (length c.args.starts.now) = start-step _ _ _ _ _ _ _ _ _ _ _ c.requires c.ranges.t c.ranges.ts (omega arith) _ c.loop-i-test.true in
    let at : Step c.args.base c.args.stride c.clamp_window_start-y.result.start (length c.args.src.now) = clamped-step _ _ _ _ _ _ _ _ _ _ _ c.requires c.ranges.t c.ranges.ts c.ranges.base c.ranges.stride (omega arith) _ c.loop-i-test.true start (search rules) _ c.clamp_window_start-y.ensures.0 in
    omega (arith, at.below)

pub bounds-src-a : goal.bounds-src-a
bounds-src-a g c =
    let start : Step c.args.t c.args.ts c.loop-i.i (length c.args.starts.now) = start-step _ _ _ _ _ _ _ _ _ _ _ c.requires c.ranges.t c.ranges.ts (omega arith) _ c.loop-i-test.true in
    let at : Step c.args.base c.args.stride c.clamp_window_start-y.result.start (length c.args.src.now) = clamped-step _ _ _ _ _ _ _ _ _ _ _ c.requires c.ranges.t c.ranges.ts c.ranges.base c.ranges.stride (omega arith) _ c.loop-i-test.true start (search rules) _ c.clamp_window_start-y.ensures.0 in
    at.below

pub offset_bounds-dst-b : goal.offset_bounds-dst-b
offset_bounds-dst-b g c =
    let plain : Step c.args.d c.args.ds c.loop-i.i (length c.args.dst.now) = plain_step _ _ _ _ _ _ _ _ _ _ _ c.requires c.ranges.d c.ranges.ds (omega arith) _ c.loop-i-test.true in
    scaled_Fits _ (length c.loop-i.dst) _ (omega (arith, plain.below)) (search rules)

pub bounds-dst-b : goal.bounds-dst-b
bounds-dst-b g c =
    let plain : Step c.args.d c.args.ds c.loop-i.i (length c.args.dst.now) = plain_step _ _ _ _ _ _ _ _ _ _ _ c.requires c.ranges.d c.ranges.ds (omega arith) _ c.loop-i-test.true in
    omega (arith, plain.below)

pub overflow_add-slid : goal.overflow_add-slid
overflow_add-slid g c =
    let counts : Bool = not (nat_eq g.row.COUNTS 0) in
    omega (arith, one_below c.loop-i.i _ _ _ (counts && c.clamp_window_start-y.result.moved) c.loop-i.invariant.1 (one-counts counts _ _ _ c.count_if-one.ensures c.count_if-slid.ensures))

pub loop-i-preserved : goal.loop-i-preserved
loop-i-preserved g c =
    let counts : Bool = not (nat_eq g.row.COUNTS 0) in
    let start : Step c.args.t c.args.ts c.loop-i.i (length c.args.starts.now) = start-step _ _ _ _ _ _ _ _ _ _ _ c.requires c.ranges.t c.ranges.ts (omega arith) _ c.loop-i-test.true in
    let at : Step c.args.base c.args.stride c.clamp_window_start-y.result.start (length c.args.src.now) = clamped-step _ _ _ _ _ _ _ _ _ _ _ c.requires c.ranges.t c.ranges.ts c.ranges.base c.ranges.stride (omega arith) _ c.loop-i-test.true start (search rules) _ c.clamp_window_start-y.ensures.0 in
    let plain : Step c.args.d c.args.ds c.loop-i.i (length c.args.dst.now) = plain_step _ _ _ _ _ _ _ _ _ _ _ c.requires c.ranges.d c.ranges.ds (omega arith) _ c.loop-i-test.true in (
      cell-more g.E.Element.absent replaced c.args.src.now (clamped_at c.args.starts.now (line (read c.args.t) (read c.args.ts)) (read c.args.base) (read c.args.stride) c.args.limit) (line (read c.args.d) (read c.args.ds)) c.args.dst.now c.loop-i.dst c.loop-i.i (nat_abs (machine c.args.base c.args.stride c.clamp_window_start-y.result.start)) (nat_abs (machine c.args.d c.args.ds c.loop-i.i)) _ c.loop-i.invariant.0
          (clamped-is c.args.starts.now c.args.t c.args.ts c.args.base c.args.stride c.args.limit _ _ _ _ start (search rules) at c.clamp_window_start-y.ensures.0) plain.index_is (element c.args.src.now _ _ g.E.Element.absent at.below c.index-src-a.is),
      many_more c.loop-i.i (λ k. counts && moves_at c.args.starts.now (line (read c.args.t) (read c.args.ts)) c.args.limit k) _ _ (counts && c.clamp_window_start-y.result.moved) c.loop-i.invariant.1
          (one-counts counts _ _ _ c.count_if-one.ensures c.count_if-slid.ensures)
          (ap (λ (b : Bool). counts && b) (moves-is c.args.starts.now _ _ c.args.limit _ _ start (search rules) _ c.clamp_window_start-y.ensures.1)),
    )

pub returns : goal.returns
returns g c =
    let counts : Bool = not (nat_eq g.row.COUNTS 0) in (
      take-end g.E.Element.absent replaced c.args.src.now c.args.starts.now c.args.t c.args.ts c.args.base c.args.stride c.args.d c.args.ds c.args.limit c.loop-i.i c.args.n c.args.dst.now c.loop-i.dst c.ranges.t c.ranges.ts c.ranges.base c.ranges.stride c.ranges.d c.ranges.ds (omega arith) c.loop-i.invariant.0,
      c.loop-i.invariant.1
          ∙ all-or-none counts c.loop-i.i (moves_at c.args.starts.now (line (read c.args.t) (read c.args.ts)) c.args.limit)
          ∙ ap (λ (m : ℕ). cond counts m 0) (moves-end c.args.starts.now c.args.t c.args.ts c.loop-i.i c.args.n _ c.ranges.t c.ranges.ts (omega arith) c.args.limit refl),
    )
