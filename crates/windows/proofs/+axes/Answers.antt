use Rattle.std.proofs.Common.{◌≡◌, refl, sym, subst, suc, ◌-◌, length, get_or, pos, w64, FitsSigned, arith}
use borrow.Author.Rules.{rules}
use Rattle.runs.proofs.Turns.{none}
use Rattle.runs.proofs.Place.{machine}
use Rattle.windows.specs.Windows.{Level}
use Rattle.windows.proofs.Levels.{step-source, step-dest, step-level, plane-read, levels-more, levels-end, plane-end}
use Rattle.windows.proofs.+axes.Goals as goal

pub plane-requires : goal.plane-requires
plane-requires g t c =
    let top-is : c.args.rank ≡ suc (c.args.rank - 1) = omega arith in
    let a-fits : FitsSigned w64 (get_or c.args.ss.now (c.args.rank - 1) (pos 0)) = search rules in
    let b-fits : FitsSigned w64 (get_or c.args.ds.now (c.args.rank - 1) (pos 0)) = search rules in
    let x-fits : FitsSigned w64 (get_or c.args.ss.now c.args.low (pos 0)) = search rules in
    let y-fits : FitsSigned w64 (get_or c.args.ds.now c.args.low (pos 0)) = search rules in
    rw c.row_count-count.ensures (plane-read _ _ _ _ _ _ _ _ _ _ top-is c.requires c.if-top-low.true c.ranges.s c.ranges.d x-fits y-fits a-fits b-fits)

pub returns-then-top-low : goal.returns-then-top-low
returns-then-top-low g t c =
    let top-is : c.args.rank ≡ suc (c.args.rank - 1) = omega arith in
    let a-fits : FitsSigned w64 (get_or c.args.ss.now (c.args.rank - 1) (pos 0)) = search rules in
    let b-fits : FitsSigned w64 (get_or c.args.ds.now (c.args.rank - 1) (pos 0)) = search rules in
    let x-fits : FitsSigned w64 (get_or c.args.ss.now c.args.low (pos 0)) = search rules in
    let y-fits : FitsSigned w64 (get_or c.args.ds.now c.args.low (pos 0)) = search rules in
    plane-end _ _ _ _ _ _ _ _ _ _ top-is c.requires g.E.Element.absent (g.R.Combine.combined c.args.rule) c.args.src.now c.ranges.s c.ranges.d a-fits b-fits c.args.dst.now c.plane.new.dst c.if-top-low.true x-fits y-fits (rw (← c.row_count-count.ensures) c.plane.ensures)

pub loop-j-init : goal.loop-j-init
loop-j-init g t c = none _ 0 _ refl

pub overflow_mul-a : goal.overflow_mul-a
overflow_mul-a g t c =
    let top-is : c.args.rank ≡ suc (c.args.rank - 1) = omega arith in
    let a-fits : FitsSigned w64 (get_or c.args.ss.now (c.args.rank - 1) (pos 0)) = search rules in
    let b-fits : FitsSigned w64 (get_or c.args.ds.now (c.args.rank - 1) (pos 0)) = search rules in
    (step-source _ _ _ _ _ _ _ _ _ _ top-is c.requires (omega arith) (omega arith) c.ranges.s c.ranges.d a-fits b-fits c.loop-j.j c.loop-j-test.true).multiple

pub overflow_add-s : goal.overflow_add-s
overflow_add-s g t c =
    let top-is : c.args.rank ≡ suc (c.args.rank - 1) = omega arith in
    let a-fits : FitsSigned w64 (get_or c.args.ss.now (c.args.rank - 1) (pos 0)) = search rules in
    let b-fits : FitsSigned w64 (get_or c.args.ds.now (c.args.rank - 1) (pos 0)) = search rules in
    (step-source _ _ _ _ _ _ _ _ _ _ top-is c.requires (omega arith) (omega arith) c.ranges.s c.ranges.d a-fits b-fits c.loop-j.j c.loop-j-test.true).fits

pub overflow_mul-b : goal.overflow_mul-b
overflow_mul-b g t c =
    let top-is : c.args.rank ≡ suc (c.args.rank - 1) = omega arith in
    let a-fits : FitsSigned w64 (get_or c.args.ss.now (c.args.rank - 1) (pos 0)) = search rules in
    let b-fits : FitsSigned w64 (get_or c.args.ds.now (c.args.rank - 1) (pos 0)) = search rules in
    (step-dest _ _ _ _ _ _ _ _ _ _ top-is c.requires (omega arith) (omega arith) c.ranges.s c.ranges.d a-fits b-fits c.loop-j.j c.loop-j-test.true).multiple

pub overflow_add-d : goal.overflow_add-d
overflow_add-d g t c =
    let top-is : c.args.rank ≡ suc (c.args.rank - 1) = omega arith in
    let a-fits : FitsSigned w64 (get_or c.args.ss.now (c.args.rank - 1) (pos 0)) = search rules in
    let b-fits : FitsSigned w64 (get_or c.args.ds.now (c.args.rank - 1) (pos 0)) = search rules in
    (step-dest _ _ _ _ _ _ _ _ _ _ top-is c.requires (omega arith) (omega arith) c.ranges.s c.ranges.d a-fits b-fits c.loop-j.j c.loop-j-test.true).fits

pub axes-requires : goal.axes-requires
axes-requires g t c κs outlives =
    let top-is : c.args.rank ≡ suc (c.args.rank - 1) = omega arith in
    let a-fits : FitsSigned w64 (get_or c.args.ss.now (c.args.rank - 1) (pos 0)) = search rules in
    let b-fits : FitsSigned w64 (get_or c.args.ds.now (c.args.rank - 1) (pos 0)) = search rules in
    let top = c.args.rank - 1 in (
      omega arith,
      (
        outlives.0,
        (
          outlives.1,
          subst (Level (machine c.args.s (get_or c.args.ss.now top (pos 0)) c.loop-j.j) (machine c.args.d (get_or c.args.ds.now top (pos 0)) c.loop-j.j) c.args.extents.now c.args.ss.now c.args.ds.now c.args.low top (length c.args.src.now)) (sym c.loop-j.auto.dst)
              (step-level _ _ _ _ _ _ _ _ _ _ top-is c.requires (omega arith) (omega arith) c.ranges.s c.ranges.d a-fits b-fits c.loop-j.j c.loop-j-test.true (omega arith)),
        ),
      ),
    )

pub loop-j-preserved : goal.loop-j-preserved
loop-j-preserved g t c =
    let top-is : c.args.rank ≡ suc (c.args.rank - 1) = omega arith in
    let a-fits : FitsSigned w64 (get_or c.args.ss.now (c.args.rank - 1) (pos 0)) = search rules in
    let b-fits : FitsSigned w64 (get_or c.args.ds.now (c.args.rank - 1) (pos 0)) = search rules in
    levels-more _ _ _ _ _ _ _ _ _ _ top-is c.requires g.E.Element.absent (g.R.Combine.combined c.args.rule) c.args.src.now c.loop-j.j _ _ c.args.dst.now c.loop-j.dst _
    (step-source _ _ _ _ _ _ _ _ _ _ top-is c.requires (omega arith) (omega arith) c.ranges.s c.ranges.d a-fits b-fits c.loop-j.j c.loop-j-test.true)
    (step-dest _ _ _ _ _ _ _ _ _ _ top-is c.requires (omega arith) (omega arith) c.ranges.s c.ranges.d a-fits b-fits c.loop-j.j c.loop-j-test.true)
    c.loop-j.invariant c.axes.ensures

pub returns : goal.returns
returns g t c =
    let top-is : c.args.rank ≡ suc (c.args.rank - 1) = omega arith in
    let a-fits : FitsSigned w64 (get_or c.args.ss.now (c.args.rank - 1) (pos 0)) = search rules in
    let b-fits : FitsSigned w64 (get_or c.args.ds.now (c.args.rank - 1) (pos 0)) = search rules in
    levels-end _ _ _ _ _ _ _ _ _ _ top-is c.requires g.E.Element.absent (g.R.Combine.combined c.args.rule) c.args.src.now c.ranges.s c.ranges.d a-fits b-fits c.args.dst.now c.loop-j.dst c.loop-j.j (omega arith) c.loop-j.invariant
