use Rattle.std.proofs.Common.{rules, ap, ap₂, ◌∙◌, ◌+ℤ◌, pos, length, get_or, arith}
use Rattle.integer.specs.Z.{back}
use Rattle.indexing.specs.Counting.{one_none, one_more}
use Rattle.runs.proofs.Place.{read, Index}
use Rattle.indexed_runs.specs.IndexedRuns.{start_at, component_moved, start_moved}
use Rattle.indexed_runs.proofs.Places.{clamped-fits}
use Rattle.indexed_runs.proofs.Starts.{none_yet, component-index, component-moved, product-fits, sum_fits, sum-next}
use Rattle.indexed_runs.proofs.started_by.Goals as goal

pub loop-c-init : goal.loop-c-init
loop-c-init c = (none_yet c.args.starts.now c.args.components.now.offsets c.args.components.now.strides c.args.components.now.limits (read c.args.s) (read c.args.t), one_none (component_moved c.args.starts.now c.args.components.now.offsets c.args.components.now.limits (read c.args.t)))

pub overflow_cast-p : goal.overflow_cast-p
overflow_cast-p c =
    (component-index _ _ _ _ _ _ _ _ c.requires (omega arith) c.ranges.s c.ranges.t _ c.loop-c-test.true (search rules) (omega arith)).cast

pub overflow_cast-at : goal.overflow_cast-at
overflow_cast-at c = clamped-fits _ _ _ (c.requires.small _ c.loop-c-test.true) c.clamp_window_start-y.ensures.0

pub overflow_mul-at : goal.overflow_mul-at
overflow_mul-at c =
    let index_at : Index (read c.args.t +ℤ read (get_or c.args.components.now.offsets c.loop-c.c (pos 0))) (length c.args.starts.now) = component-index _ _ _ _ _ _ _ _ c.requires (omega arith) c.ranges.s c.ranges.t _ c.loop-c-test.true (search rules) (omega arith) in
    product-fits _ _ _ _ _ _ _ _ c.requires (omega arith) c.ranges.s c.ranges.t _ c.loop-c-test.true (search rules) (search rules) _ c.loop-c.invariant.0 _ index_at.is (search rules) _ c.clamp_window_start-y.ensures.0

pub overflow_add-at : goal.overflow_add-at
overflow_add-at c =
    let index_at : Index (read c.args.t +ℤ read (get_or c.args.components.now.offsets c.loop-c.c (pos 0))) (length c.args.starts.now) = component-index _ _ _ _ _ _ _ _ c.requires (omega arith) c.ranges.s c.ranges.t _ c.loop-c-test.true (search rules) (omega arith) in
    sum_fits _ _ _ _ _ _ _ _ c.requires (omega arith) c.ranges.s c.ranges.t _ c.loop-c-test.true (search rules) (search rules) _ c.loop-c.invariant.0 _ index_at.is (search rules) _ c.clamp_window_start-y.ensures.0

pub loop-c-preserved : goal.loop-c-preserved
loop-c-preserved c =
    let index_at : Index (read c.args.t +ℤ read (get_or c.args.components.now.offsets c.loop-c.c (pos 0))) (length c.args.starts.now) = component-index _ _ _ _ _ _ _ _ c.requires (omega arith) c.ranges.s c.ranges.t _ c.loop-c-test.true (search rules) (omega arith) in (
      sum-next _ _ _ _ _ _ _ _ c.requires (omega arith) c.ranges.s c.ranges.t _ c.loop-c-test.true (search rules) (search rules) _ c.loop-c.invariant.0 _ index_at.is (search rules) _ c.clamp_window_start-y.ensures.0,
      one_more _ (component_moved c.args.starts.now c.args.components.now.offsets c.args.components.now.limits (read c.args.t)) _ _ _ c.loop-c.invariant.1
          (component-moved _ _ _ _ _ _ _ _ c.requires (omega arith) c.ranges.s c.ranges.t _ c.loop-c-test.true (search rules) _ index_at.is (search rules) _ c.clamp_window_start-y.ensures.1) c.either-moved.ensures,
    )

pub returns : goal.returns
returns c = (
  c.loop-c.invariant.0 ∙ ap₂ (λ u v. u +ℤ start_at c.args.starts.now c.args.components.now.offsets c.args.components.now.strides c.args.components.now.limits v c.loop-c.c) (back c.ranges.s) (back c.ranges.t) ∙ ap (λ k. c.args.s +ℤ start_at c.args.starts.now c.args.components.now.offsets c.args.components.now.strides c.args.components.now.limits c.args.t k) (omega arith),
  c.loop-c.invariant.1 ∙ ap (λ v. start_moved c.args.starts.now c.args.components.now.offsets c.args.components.now.limits v c.loop-c.c) (back c.ranges.t) ∙ ap (λ k. start_moved c.args.starts.now c.args.components.now.offsets c.args.components.now.limits c.args.t k) (omega arith),
)
