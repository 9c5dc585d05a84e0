use Rattle.std.proofs.Common.{◌-◌, length, get_or, pos, refl, sym, subst, arith}
use borrow.Author.Rules.{rules}
use Rattle.indexing.specs.Counting.{many-none}
use Rattle.runs.proofs.Turns.{none}
use Rattle.runs.proofs.Place.{read, machine}
use Rattle.indexed_runs.specs.IndexedRuns.{Starting}
use Rattle.scatter_windows.specs.Scattering.{PutLevel}
use Rattle.scatter_windows.proofs.Batches.{step-index, step-update, levels-more, levels-end}
use Rattle.scatter_windows.proofs.Levels.{put, step-put, run-asks, run_end, run-count, part-fits, part-more, parts-end}
use Rattle.scatter_windows.proofs.+scatter_cells.Goals as goal

pub scatter_run-requires : goal.scatter_run-requires
scatter_run-requires g t c = run-asks _ _ _ _ _ _ _ _ _ _ _ _ _ _ _ c.requires c.ranges.t c.ranges.u c.ranges.d _ (omega (arith, c.requires.below)) (search rules) (search rules) c.if-top-low.true

pub returns-then-top-low : goal.returns-then-top-low
returns-then-top-low g t c = (
  run_end _ _ _ _ _ _ _ _ _ _ _ _ _ _ _ c.requires c.ranges.t c.ranges.u c.ranges.d _ (omega (arith, c.requires.below)) (search rules) (search rules) g.E.Element.absent (g.R.Combine.combined c.args.rule) c.args.src.now c.args.dst.now _ c.if-top-low.true c.scatter_run.ensures.0,
  run-count _ _ _ _ _ _ _ _ _ _ _ _ _ _ _ c.requires c.ranges.t c.ranges.u c.ranges.d _ (omega (arith, c.requires.below)) (search rules) (search rules) _ c.if-top-low.true c.scatter_run.ensures.1,
)

pub loop-j-init : goal.loop-j-init
loop-j-init g t c = (none _ 0 _ refl, many-none _ _ (omega arith))

pub overflow_mul-p : goal.overflow_mul-p
overflow_mul-p g t c = (step-index (λ d x y. Starting c.args.starts.now c.args.components.now.offsets c.args.components.now.strides c.args.components.now.limits d x c.args.components.now.count (length c.args.dst.now)) _ _ _ _ _ _ _ _ c.requires.places c.ranges.t c.ranges.u c.ranges.d _ (omega (arith, c.requires.below)) (search rules) (search rules) (omega arith) c.loop-j.j c.loop-j-test.true).multiple

pub overflow_add-p : goal.overflow_add-p
overflow_add-p g t c = (step-index (λ d x y. Starting c.args.starts.now c.args.components.now.offsets c.args.components.now.strides c.args.components.now.limits d x c.args.components.now.count (length c.args.dst.now)) _ _ _ _ _ _ _ _ c.requires.places c.ranges.t c.ranges.u c.ranges.d _ (omega (arith, c.requires.below)) (search rules) (search rules) (omega arith) c.loop-j.j c.loop-j-test.true).fits

pub overflow_mul-q : goal.overflow_mul-q
overflow_mul-q g t c = (step-update (λ d x y. Starting c.args.starts.now c.args.components.now.offsets c.args.components.now.strides c.args.components.now.limits d x c.args.components.now.count (length c.args.dst.now)) _ _ _ _ _ _ _ _ c.requires.places c.ranges.t c.ranges.u c.ranges.d _ (omega (arith, c.requires.below)) (search rules) (search rules) (omega arith) c.loop-j.j c.loop-j-test.true).multiple

pub overflow_add-q : goal.overflow_add-q
overflow_add-q g t c = (step-update (λ d x y. Starting c.args.starts.now c.args.components.now.offsets c.args.components.now.strides c.args.components.now.limits d x c.args.components.now.count (length c.args.dst.now)) _ _ _ _ _ _ _ _ c.requires.places c.ranges.t c.ranges.u c.ranges.d _ (omega (arith, c.requires.below)) (search rules) (search rules) (omega arith) c.loop-j.j c.loop-j-test.true).fits

pub scatter_cells-slid-requires : goal.scatter_cells-slid-requires
scatter_cells-slid-requires g t c κs outlives = (
  omega (arith, c.decreases, c.requires.below),
  (
    outlives.0,
    (
      outlives.1,
      subst
          (PutLevel c.args.starts.now c.args.components.now.offsets c.args.components.now.strides c.args.components.now.limits c.args.components.now.count (machine c.args.t (get_or c.args.ts.now (c.args.rank - 1) (pos 0)) c.loop-j.j) (machine c.args.u (get_or c.args.us.now (c.args.rank - 1) (pos 0)) c.loop-j.j) (read c.args.d) c.args.extents.now c.args.ts.now c.args.us.now c.args.low (c.args.rank - 1) (length c.args.src.now))
          (sym c.loop-j.auto.dst)
          (step-put _ _ _ _ _ _ _ _ _ _ _ _ _ _ _ c.requires c.ranges.t c.ranges.u c.ranges.d _ (omega (arith, c.requires.below)) (search rules) (search rules) (omega arith) c.loop-j.j c.loop-j-test.true (omega (arith, c.requires.below, c.if-top-low.false))),
    ),
  ),
)

pub overflow_add-slid : goal.overflow_add-slid
overflow_add-slid g t c = omega (arith, part-fits _ _ _ _ _ _ _ _ _ _ _ _ _ _ _ c.requires c.ranges.t c.ranges.u c.ranges.d _ (omega (arith, c.requires.below)) (search rules) (search rules) c.loop-j.j _ _ _ c.loop-j-test.true c.loop-j.invariant.1 c.scatter_cells-slid.ensures.1)

pub loop-j-preserved : goal.loop-j-preserved
loop-j-preserved g t c = (
  levels-more (λ d x y. Starting c.args.starts.now c.args.components.now.offsets c.args.components.now.strides c.args.components.now.limits d x c.args.components.now.count (length c.args.dst.now)) _ _ _ _ _ _ _ _ c.requires.places c.ranges.t c.ranges.u c.ranges.d _ (omega (arith, c.requires.below)) (search rules) (search rules) (put g.E.Element.absent (g.R.Combine.combined c.args.rule) c.args.src.now c.args.starts.now c.args.components.now.offsets c.args.components.now.strides c.args.components.now.limits c.args.components.now.count) c.loop-j.j _ c.args.dst.now c.loop-j.dst _
      (step-index (λ d x y. Starting c.args.starts.now c.args.components.now.offsets c.args.components.now.strides c.args.components.now.limits d x c.args.components.now.count (length c.args.dst.now)) _ _ _ _ _ _ _ _ c.requires.places c.ranges.t c.ranges.u c.ranges.d _ (omega (arith, c.requires.below)) (search rules) (search rules) (omega arith) c.loop-j.j c.loop-j-test.true)
      (step-update (λ d x y. Starting c.args.starts.now c.args.components.now.offsets c.args.components.now.strides c.args.components.now.limits d x c.args.components.now.count (length c.args.dst.now)) _ _ _ _ _ _ _ _ c.requires.places c.ranges.t c.ranges.u c.ranges.d _ (omega (arith, c.requires.below)) (search rules) (search rules) (omega arith) c.loop-j.j c.loop-j-test.true) c.loop-j.invariant.0 c.scatter_cells-slid.ensures.0,
  part-more _ _ _ _ _ _ _ _ _ _ _ _ _ _ _ c.requires c.ranges.t c.ranges.u c.ranges.d _ (omega (arith, c.requires.below)) (search rules) (search rules) c.loop-j.j _ _ _ c.loop-j-test.true
      (step-index (λ d x y. Starting c.args.starts.now c.args.components.now.offsets c.args.components.now.strides c.args.components.now.limits d x c.args.components.now.count (length c.args.dst.now)) _ _ _ _ _ _ _ _ c.requires.places c.ranges.t c.ranges.u c.ranges.d _ (omega (arith, c.requires.below)) (search rules) (search rules) (omega arith) c.loop-j.j c.loop-j-test.true) c.loop-j.invariant.1 c.scatter_cells-slid.ensures.1,
)

pub returns : goal.returns
returns g t c = (
  levels-end (λ d x y. Starting c.args.starts.now c.args.components.now.offsets c.args.components.now.strides c.args.components.now.limits d x c.args.components.now.count (length c.args.dst.now)) _ _ _ _ _ _ _ _ c.requires.places c.ranges.t c.ranges.u c.ranges.d _ (omega (arith, c.requires.below)) (search rules) (search rules) (put g.E.Element.absent (g.R.Combine.combined c.args.rule) c.args.src.now c.args.starts.now c.args.components.now.offsets c.args.components.now.strides c.args.components.now.limits c.args.components.now.count) c.loop-j.j c.args.dst.now c.loop-j.dst (omega arith) c.loop-j.invariant.0,
  parts-end _ _ _ _ _ _ _ _ _ _ _ _ _ _ _ c.requires c.ranges.t c.ranges.u c.ranges.d _ (omega (arith, c.requires.below)) (search rules) (search rules) c.loop-j.j _ (omega arith) c.loop-j.invariant.1,
)
