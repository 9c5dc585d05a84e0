use Rattle.std.proofs.Common.{◌≡◌, refl, sym, ap, ap₂, subst, ◌∙◌, cond, ◌&&◌, ltb, ℕ, suc, ◌-◌, ◌≤◌, length, get_or, take, ℤ, pos, w64, FitsSigned, arith}
use borrow.Author.Rules.{rules}
use Rattle.integer.specs.Z.{back}
use Rattle.indexing.specs.Coordinates.{product}
use Rattle.indexing.specs.Odometer.{AllPos}
use Rattle.runs.specs.Runs.{line}
use Rattle.runs.proofs.Turns.{none}
use Rattle.runs.proofs.Place.{read, machine}
use Rattle.windows.specs.Windows.{place_at, Units}
use Rattle.indexed_runs.specs.IndexedRuns.{replaced, starts_moved}
use Rattle.indexed_runs.proofs.Counts.{so-counted}
use Rattle.gather_windows.specs.Gathering.{GatherLevel, BatchLevel}
use Rattle.gather_windows.proofs.Levels.{start-asks, window-asks, window-end, step-source, step-index, step-dest, step-level, run-asks, levels-more, levels-end, run_end}
use Rattle.gather_windows.proofs.Batches.{window-count, run-count, level-below-batches, none_yet, one_on, so-far-fits, all-counted}
use Rattle.gather_windows.proofs.+gather_axes.Goals as goal

pub started-m-requires : goal.started-m-requires
started-m-requires g t c = start-asks _ _ _ _ _ _ _ _ _ _ _ _ _ _ _ _ _ c.requires.0 c.ranges.s c.ranges.t c.ranges.d c.if-rank-wide.true (omega arith)

pub axes-requires : goal.axes-requires
axes-requires g t c = window-asks _ _ _ _ _ _ _ _ _ _ _ _ _ _ _ _ _ c.requires.0 c.ranges.s c.ranges.t c.ranges.d c.if-rank-wide.true (omega arith) _ c.started-m.ensures.0

pub returns-then-rank-wide : goal.returns-then-rank-wide
returns-then-rank-wide g t c = (
  window-end _ _ _ _ _ _ _ _ _ _ _ _ _ _ _ _ _ c.requires.0 c.ranges.s c.ranges.t c.ranges.d c.if-rank-wide.true (omega arith) _ c.started-m.ensures.0 g.E.Element.absent replaced c.args.src.now c.args.dst.now _ c.axes.ensures,
  so-counted c.args.counts c.args.counts _ _ _ refl
      (window-count c.args.starts.now c.args.components.now.offsets c.args.components.now.limits c.args.components.now.count c.args.extents.now c.args.batches.now c.args.ts.now c.args.t c.args.low c.args.wide c.args.rank c.started-m.result.moved _ c.requires.1 c.if-rank-wide.true c.ranges.t c.count_if-one.ensures c.started-m.ensures.1)
      c.count_if.ensures,
)

pub gather_run-requires : goal.gather_run-requires
gather_run-requires g t c =
    let top = c.args.rank - 1 in
    let top-is : c.args.rank ≡ suc top = omega (arith, c.requires.0.below) in
    let x-fits : FitsSigned w64 (get_or c.args.ss.now top (pos 0)) = search rules in
    let y-fits : FitsSigned w64 (get_or c.args.ts.now top (pos 0)) = search rules in
    let z-fits : FitsSigned w64 (get_or c.args.ds.now top (pos 0)) = search rules in
    run-asks _ _ _ _ _ _ _ _ _ _ _ _ _ _ _ _ _ c.requires.0 c.ranges.s c.ranges.t c.ranges.d _ top-is x-fits y-fits z-fits c.if-top-low.true

pub returns-then-top-low : goal.returns-then-top-low
returns-then-top-low g t c =
    let top = c.args.rank - 1 in
    let top-is : c.args.rank ≡ suc top = omega (arith, c.requires.0.below) in
    let x-fits : FitsSigned w64 (get_or c.args.ss.now top (pos 0)) = search rules in
    let y-fits : FitsSigned w64 (get_or c.args.ts.now top (pos 0)) = search rules in
    let z-fits : FitsSigned w64 (get_or c.args.ds.now top (pos 0)) = search rules in
    let level : BatchLevel c.args.extents.now c.args.batches.now c.args.ts.now c.args.low c.args.wide (suc top) = subst (BatchLevel c.args.extents.now c.args.batches.now c.args.ts.now c.args.low c.args.wide) top-is c.requires.1 in
    let steps-room : suc top ≤ length c.args.ts.now = omega (arith, c.requires.0.walk.index.strided) in
    let counted = run-count c.args.starts.now c.args.components.now.offsets c.args.components.now.limits c.args.components.now.count c.args.extents.now c.args.batches.now c.args.ts.now c.args.t top c.args.wide _
    (subst (λ (k : ℕ). BatchLevel c.args.extents.now c.args.batches.now c.args.ts.now k c.args.wide (suc top)) (sym c.if-top-low.true) level)
    (subst (λ (k : ℕ). Units k c.args.extents.now) (sym c.if-top-low.true) c.requires.0.units) steps-room (omega arith) c.ranges.t y-fits refl
    ∙ ap (λ (r : ℕ). starts_moved c.args.starts.now c.args.components.now.offsets c.args.components.now.limits c.args.components.now.count (product (take r c.args.batches.now)) (place_at c.args.t c.args.batches.now c.args.ts.now r)) (sym top-is) in (
      run_end _ _ _ _ _ _ _ _ _ _ _ _ _ _ _ _ _ c.requires.0 c.ranges.s c.ranges.t c.ranges.d _ top-is x-fits y-fits z-fits g.E.Element.absent replaced c.args.src.now c.args.dst.now _ c.if-top-low.true c.gather_run.ensures.0,
      so-counted c.args.counts c.args.counts _ _ _ refl counted c.gather_run.ensures.1,
    )

pub loop-j-init : goal.loop-j-init
loop-j-init g t c =
    let top = c.args.rank - 1 in
    let top-is : c.args.rank ≡ suc top = omega (arith, c.requires.0.below) in
    let level : BatchLevel c.args.extents.now c.args.batches.now c.args.ts.now c.args.low c.args.wide (suc top) = subst (BatchLevel c.args.extents.now c.args.batches.now c.args.ts.now c.args.low c.args.wide) top-is c.requires.1 in
    let positive : AllPos (take (suc top) c.args.extents.now) = subst (λ (r : ℕ). AllPos (take r c.args.extents.now)) top-is c.requires.0.positive in
    let extents-room : suc top ≤ length c.args.extents.now = omega (arith, c.requires.0.walk.source.extents) in
    let steps-room : suc top ≤ length c.args.ts.now = omega (arith, c.requires.0.walk.index.strided) in
    (none _ 0 _ refl, none_yet c.args.starts.now c.args.components.now.offsets c.args.components.now.limits c.args.components.now.count c.args.extents.now c.args.batches.now c.args.ts.now (read c.args.t) c.args.low c.args.wide top level positive extents-room steps-room c.args.counts)

pub overflow_mul-p : goal.overflow_mul-p
overflow_mul-p g t c =
    let top = c.args.rank - 1 in
    let top-is : c.args.rank ≡ suc top = omega (arith, c.requires.0.below) in
    let x-fits : FitsSigned w64 (get_or c.args.ss.now top (pos 0)) = search rules in
    let y-fits : FitsSigned w64 (get_or c.args.ts.now top (pos 0)) = search rules in
    let z-fits : FitsSigned w64 (get_or c.args.ds.now top (pos 0)) = search rules in
    (step-source _ _ _ _ _ _ _ _ _ _ _ _ _ _ _ _ _ c.requires.0 c.ranges.s c.ranges.t c.ranges.d _ top-is x-fits y-fits z-fits (omega arith) (omega arith) c.loop-j.j c.loop-j-test.true).multiple

pub overflow_add-p : goal.overflow_add-p
overflow_add-p g t c =
    let top = c.args.rank - 1 in
    let top-is : c.args.rank ≡ suc top = omega (arith, c.requires.0.below) in
    let x-fits : FitsSigned w64 (get_or c.args.ss.now top (pos 0)) = search rules in
    let y-fits : FitsSigned w64 (get_or c.args.ts.now top (pos 0)) = search rules in
    let z-fits : FitsSigned w64 (get_or c.args.ds.now top (pos 0)) = search rules in
    (step-source _ _ _ _ _ _ _ _ _ _ _ _ _ _ _ _ _ c.requires.0 c.ranges.s c.ranges.t c.ranges.d _ top-is x-fits y-fits z-fits (omega arith) (omega arith) c.loop-j.j c.loop-j-test.true).fits

pub overflow_mul-q : goal.overflow_mul-q
overflow_mul-q g t c =
    let top = c.args.rank - 1 in
    let top-is : c.args.rank ≡ suc top = omega (arith, c.requires.0.below) in
    let x-fits : FitsSigned w64 (get_or c.args.ss.now top (pos 0)) = search rules in
    let y-fits : FitsSigned w64 (get_or c.args.ts.now top (pos 0)) = search rules in
    let z-fits : FitsSigned w64 (get_or c.args.ds.now top (pos 0)) = search rules in
    (step-index _ _ _ _ _ _ _ _ _ _ _ _ _ _ _ _ _ c.requires.0 c.ranges.s c.ranges.t c.ranges.d _ top-is x-fits y-fits z-fits (omega arith) (omega arith) c.loop-j.j c.loop-j-test.true).multiple

pub overflow_add-q : goal.overflow_add-q
overflow_add-q g t c =
    let top = c.args.rank - 1 in
    let top-is : c.args.rank ≡ suc top = omega (arith, c.requires.0.below) in
    let x-fits : FitsSigned w64 (get_or c.args.ss.now top (pos 0)) = search rules in
    let y-fits : FitsSigned w64 (get_or c.args.ts.now top (pos 0)) = search rules in
    let z-fits : FitsSigned w64 (get_or c.args.ds.now top (pos 0)) = search rules in
    (step-index _ _ _ _ _ _ _ _ _ _ _ _ _ _ _ _ _ c.requires.0 c.ranges.s c.ranges.t c.ranges.d _ top-is x-fits y-fits z-fits (omega arith) (omega arith) c.loop-j.j c.loop-j-test.true).fits

pub overflow_mul-r : goal.overflow_mul-r
overflow_mul-r g t c =
    let top = c.args.rank - 1 in
    let top-is : c.args.rank ≡ suc top = omega (arith, c.requires.0.below) in
    let x-fits : FitsSigned w64 (get_or c.args.ss.now top (pos 0)) = search rules in
    let y-fits : FitsSigned w64 (get_or c.args.ts.now top (pos 0)) = search rules in
    let z-fits : FitsSigned w64 (get_or c.args.ds.now top (pos 0)) = search rules in
    (step-dest _ _ _ _ _ _ _ _ _ _ _ _ _ _ _ _ _ c.requires.0 c.ranges.s c.ranges.t c.ranges.d _ top-is x-fits y-fits z-fits (omega arith) (omega arith) c.loop-j.j c.loop-j-test.true).multiple

pub overflow_add-r : goal.overflow_add-r
overflow_add-r g t c =
    let top = c.args.rank - 1 in
    let top-is : c.args.rank ≡ suc top = omega (arith, c.requires.0.below) in
    let x-fits : FitsSigned w64 (get_or c.args.ss.now top (pos 0)) = search rules in
    let y-fits : FitsSigned w64 (get_or c.args.ts.now top (pos 0)) = search rules in
    let z-fits : FitsSigned w64 (get_or c.args.ds.now top (pos 0)) = search rules in
    (step-dest _ _ _ _ _ _ _ _ _ _ _ _ _ _ _ _ _ c.requires.0 c.ranges.s c.ranges.t c.ranges.d _ top-is x-fits y-fits z-fits (omega arith) (omega arith) c.loop-j.j c.loop-j-test.true).fits

pub gather_axes-below-requires : goal.gather_axes-below-requires
gather_axes-below-requires g t c κs outlives =
    let top = c.args.rank - 1 in
    let top-is : c.args.rank ≡ suc top = omega (arith, c.requires.0.below) in
    let x-fits : FitsSigned w64 (get_or c.args.ss.now top (pos 0)) = search rules in
    let y-fits : FitsSigned w64 (get_or c.args.ts.now top (pos 0)) = search rules in
    let z-fits : FitsSigned w64 (get_or c.args.ds.now top (pos 0)) = search rules in
    let level : BatchLevel c.args.extents.now c.args.batches.now c.args.ts.now c.args.low c.args.wide (suc top) = subst (BatchLevel c.args.extents.now c.args.batches.now c.args.ts.now c.args.low c.args.wide) top-is c.requires.1 in
    let positive : AllPos (take (suc top) c.args.extents.now) = subst (λ (r : ℕ). AllPos (take r c.args.extents.now)) top-is c.requires.0.positive in
    let extents-room : suc top ≤ length c.args.extents.now = omega (arith, c.requires.0.walk.source.extents) in
    let steps-room : suc top ≤ length c.args.ts.now = omega (arith, c.requires.0.walk.index.strided) in
    let j = c.loop-j.j in (
      omega (arith, c.requires.0.below),
      (
        outlives,
        (
          subst (GatherLevel c.args.starts.now c.args.components.now.offsets c.args.components.now.strides c.args.components.now.limits c.args.components.now.count
              (machine c.args.s (get_or c.args.ss.now top (pos 0)) j) (machine c.args.t (get_or c.args.ts.now top (pos 0)) j) (machine c.args.d (get_or c.args.ds.now top (pos 0)) j)
              c.args.extents.now c.args.ss.now c.args.ts.now c.args.ds.now c.args.low c.args.wide top (length c.args.src.now)) (sym c.loop-j.auto.dst)
              (step-level _ _ _ _ _ _ _ _ _ _ _ _ _ _ _ _ _ c.requires.0 c.ranges.s c.ranges.t c.ranges.d _ top-is x-fits y-fits z-fits (omega arith) (omega arith) j c.loop-j-test.true (omega (arith, c.requires.0.below))),
          level-below-batches c.args.starts.now c.args.components.now.offsets c.args.components.now.limits c.args.components.now.count c.args.extents.now c.args.batches.now c.args.ts.now c.args.t c.args.low c.args.wide top level positive extents-room steps-room,
        ),
      ),
    )

pub overflow_add-slid : goal.overflow_add-slid
overflow_add-slid g t c =
    let top = c.args.rank - 1 in
    let top-is : c.args.rank ≡ suc top = omega (arith, c.requires.0.below) in
    let x-fits : FitsSigned w64 (get_or c.args.ss.now top (pos 0)) = search rules in
    let y-fits : FitsSigned w64 (get_or c.args.ts.now top (pos 0)) = search rules in
    let z-fits : FitsSigned w64 (get_or c.args.ds.now top (pos 0)) = search rules in
    let level : BatchLevel c.args.extents.now c.args.batches.now c.args.ts.now c.args.low c.args.wide (suc top) = subst (BatchLevel c.args.extents.now c.args.batches.now c.args.ts.now c.args.low c.args.wide) top-is c.requires.1 in
    let positive : AllPos (take (suc top) c.args.extents.now) = subst (λ (r : ℕ). AllPos (take r c.args.extents.now)) top-is c.requires.0.positive in
    let extents-room : suc top ≤ length c.args.extents.now = omega (arith, c.requires.0.walk.source.extents) in
    let steps-room : suc top ≤ length c.args.ts.now = omega (arith, c.requires.0.walk.index.strided) in
    let more = one_on c.args.starts.now c.args.components.now.offsets c.args.components.now.limits c.args.components.now.count c.args.extents.now c.args.batches.now c.args.ts.now (read c.args.t) c.args.low c.args.wide top level positive extents-room steps-room c.args.counts c.loop-j.j c.loop-j.slid _ c.loop-j.invariant.1
    (so-counted (c.args.counts && ltb c.loop-j.j (get_or c.args.batches.now top 0)) c.counts_at-here.result _ _ _ (sym c.counts_at-here.ensures)
    (ap (λ (v : ℤ). starts_moved c.args.starts.now c.args.components.now.offsets c.args.components.now.limits c.args.components.now.count (product (take top c.args.batches.now)) (place_at v c.args.batches.now c.args.ts.now top))
    ((step-index _ _ _ _ _ _ _ _ _ _ _ _ _ _ _ _ _ c.requires.0 c.ranges.s c.ranges.t c.ranges.d _ top-is x-fits y-fits z-fits (omega arith) (omega arith) c.loop-j.j c.loop-j-test.true).read_is ∙ ap (λ (v : ℤ). line (read c.args.t) v c.loop-j.j) (back y-fits)))
    c.gather_axes-below.ensures.1) in
    omega (arith, so-far-fits c.args.starts.now c.args.components.now.offsets c.args.components.now.limits c.args.components.now.count c.args.extents.now c.args.batches.now c.args.ts.now (read c.args.t) c.args.low c.args.wide top level positive extents-room steps-room c.args.counts _ _ more)

pub loop-j-preserved : goal.loop-j-preserved
loop-j-preserved g t c =
    let top = c.args.rank - 1 in
    let top-is : c.args.rank ≡ suc top = omega (arith, c.requires.0.below) in
    let x-fits : FitsSigned w64 (get_or c.args.ss.now top (pos 0)) = search rules in
    let y-fits : FitsSigned w64 (get_or c.args.ts.now top (pos 0)) = search rules in
    let z-fits : FitsSigned w64 (get_or c.args.ds.now top (pos 0)) = search rules in
    let level : BatchLevel c.args.extents.now c.args.batches.now c.args.ts.now c.args.low c.args.wide (suc top) = subst (BatchLevel c.args.extents.now c.args.batches.now c.args.ts.now c.args.low c.args.wide) top-is c.requires.1 in
    let positive : AllPos (take (suc top) c.args.extents.now) = subst (λ (r : ℕ). AllPos (take r c.args.extents.now)) top-is c.requires.0.positive in
    let extents-room : suc top ≤ length c.args.extents.now = omega (arith, c.requires.0.walk.source.extents) in
    let steps-room : suc top ≤ length c.args.ts.now = omega (arith, c.requires.0.walk.index.strided) in
    let more = one_on c.args.starts.now c.args.components.now.offsets c.args.components.now.limits c.args.components.now.count c.args.extents.now c.args.batches.now c.args.ts.now (read c.args.t) c.args.low c.args.wide top level positive extents-room steps-room c.args.counts c.loop-j.j c.loop-j.slid _ c.loop-j.invariant.1
    (so-counted (c.args.counts && ltb c.loop-j.j (get_or c.args.batches.now top 0)) c.counts_at-here.result _ _ _ (sym c.counts_at-here.ensures)
    (ap (λ (v : ℤ). starts_moved c.args.starts.now c.args.components.now.offsets c.args.components.now.limits c.args.components.now.count (product (take top c.args.batches.now)) (place_at v c.args.batches.now c.args.ts.now top))
    ((step-index _ _ _ _ _ _ _ _ _ _ _ _ _ _ _ _ _ c.requires.0 c.ranges.s c.ranges.t c.ranges.d _ top-is x-fits y-fits z-fits (omega arith) (omega arith) c.loop-j.j c.loop-j-test.true).read_is ∙ ap (λ (v : ℤ). line (read c.args.t) v c.loop-j.j) (back y-fits)))
    c.gather_axes-below.ensures.1) in (
      levels-more _ _ _ _ _ _ _ _ _ _ _ _ _ _ _ _ _ c.requires.0 c.ranges.s c.ranges.t c.ranges.d _ top-is x-fits y-fits z-fits g.E.Element.absent replaced c.args.src.now c.loop-j.j _ _ c.args.dst.now c.loop-j.dst _
          (step-source _ _ _ _ _ _ _ _ _ _ _ _ _ _ _ _ _ c.requires.0 c.ranges.s c.ranges.t c.ranges.d _ top-is x-fits y-fits z-fits (omega arith) (omega arith) c.loop-j.j c.loop-j-test.true)
          (step-index _ _ _ _ _ _ _ _ _ _ _ _ _ _ _ _ _ c.requires.0 c.ranges.s c.ranges.t c.ranges.d _ top-is x-fits y-fits z-fits (omega arith) (omega arith) c.loop-j.j c.loop-j-test.true)
          (step-dest _ _ _ _ _ _ _ _ _ _ _ _ _ _ _ _ _ c.requires.0 c.ranges.s c.ranges.t c.ranges.d _ top-is x-fits y-fits z-fits (omega arith) (omega arith) c.loop-j.j c.loop-j-test.true)
          c.loop-j.invariant.0 c.gather_axes-below.ensures.0,
      more,
    )

pub returns : goal.returns
returns g t c =
    let top = c.args.rank - 1 in
    let top-is : c.args.rank ≡ suc top = omega (arith, c.requires.0.below) in
    let x-fits : FitsSigned w64 (get_or c.args.ss.now top (pos 0)) = search rules in
    let y-fits : FitsSigned w64 (get_or c.args.ts.now top (pos 0)) = search rules in
    let z-fits : FitsSigned w64 (get_or c.args.ds.now top (pos 0)) = search rules in
    let level : BatchLevel c.args.extents.now c.args.batches.now c.args.ts.now c.args.low c.args.wide (suc top) = subst (BatchLevel c.args.extents.now c.args.batches.now c.args.ts.now c.args.low c.args.wide) top-is c.requires.1 in
    let positive : AllPos (take (suc top) c.args.extents.now) = subst (λ (r : ℕ). AllPos (take r c.args.extents.now)) top-is c.requires.0.positive in
    let extents-room : suc top ≤ length c.args.extents.now = omega (arith, c.requires.0.walk.source.extents) in
    let steps-room : suc top ≤ length c.args.ts.now = omega (arith, c.requires.0.walk.index.strided) in
    let whole : c.loop-j.j ≡ get_or c.args.extents.now top 0 = omega arith in (
      levels-end _ _ _ _ _ _ _ _ _ _ _ _ _ _ _ _ _ c.requires.0 c.ranges.s c.ranges.t c.ranges.d _ top-is x-fits y-fits z-fits g.E.Element.absent replaced c.args.src.now c.args.dst.now c.loop-j.dst c.loop-j.j whole c.loop-j.invariant.0,
      all-counted c.args.starts.now c.args.components.now.offsets c.args.components.now.limits c.args.components.now.count c.args.extents.now c.args.batches.now c.args.ts.now (read c.args.t) c.args.low c.args.wide top level positive extents-room steps-room c.args.counts c.loop-j.j c.loop-j.slid whole c.loop-j.invariant.1
          ∙ ap₂ (λ (v : ℤ) (r : ℕ). cond c.args.counts (starts_moved c.args.starts.now c.args.components.now.offsets c.args.components.now.limits c.args.components.now.count (product (take r c.args.batches.now)) (place_at v c.args.batches.now c.args.ts.now r)) 0) (back c.ranges.t) (sym top-is),
    )
