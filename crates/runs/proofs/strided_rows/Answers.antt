use Rattle.std.proofs.Common.{refl, sym, subst, arith}
use Rattle.runs.specs.Runs.{Line}
use Rattle.runs.proofs.Turns.{none}
use Rattle.runs.proofs.Place.{read, machine}
use Rattle.runs.proofs.Runs.{move-source, move-dest, runs-more}
use Rattle.runs.proofs.strided_rows.Goals as goal

pub loop-j-init : goal.loop-j-init
loop-j-init g c = none _ 0 _ refl

pub overflow_mul-st : goal.overflow_mul-st
overflow_mul-st g c = (move-source _ _ _ _ _ _ _ _ _ _ c.requires _ c.loop-j-test.true c.ranges.s c.ranges.ss c.ranges.st (omega arith)).step.multiple

pub overflow_add-s : goal.overflow_add-s
overflow_add-s g c = (move-source _ _ _ _ _ _ _ _ _ _ c.requires _ c.loop-j-test.true c.ranges.s c.ranges.ss c.ranges.st (omega arith)).step.fits

pub overflow_mul-dt : goal.overflow_mul-dt
overflow_mul-dt g c = (move-dest _ _ _ _ _ _ _ _ _ _ c.requires _ c.loop-j-test.true c.ranges.d c.ranges.ds c.ranges.dt (omega arith)).step.multiple

pub overflow_add-d : goal.overflow_add-d
overflow_add-d g c = (move-dest _ _ _ _ _ _ _ _ _ _ c.requires _ c.loop-j-test.true c.ranges.d c.ranges.ds c.ranges.dt (omega arith)).step.fits

pub strided_run-requires : goal.strided_run-requires
strided_run-requires g c =
    record {
      source = (move-source _ _ _ _ _ _ _ _ _ _ c.requires _ c.loop-j-test.true c.ranges.s c.ranges.ss c.ranges.st (omega arith)).run;
      dest = subst (Line (machine c.args.d c.args.dt c.loop-j.j) (read c.args.ds) c.args.n) (sym c.loop-j.auto.dst) (move-dest _ _ _ _ _ _ _ _ _ _ c.requires _ c.loop-j-test.true c.ranges.d c.ranges.ds c.ranges.dt (omega arith)).run;
    }

pub loop-j-preserved : goal.loop-j-preserved
loop-j-preserved g c =
    runs-more g.E.Element.absent (g.R.Combine.combined c.args.rule) c.args.src.now c.args.s c.args.d c.args.ss c.args.ds c.args.st c.args.dt c.args.n c.loop-j.j _ _ c.args.dst.now c.loop-j.dst _ c.loop-j.invariant
    (move-source _ _ _ _ _ _ _ _ _ _ c.requires _ c.loop-j-test.true c.ranges.s c.ranges.ss c.ranges.st (omega arith))
    (move-dest _ _ _ _ _ _ _ _ _ _ c.requires _ c.loop-j-test.true c.ranges.d c.ranges.ds c.ranges.dt (omega arith))
    c.strided_run.ensures
