use Rattle.std.proofs.Common.{refl, true, pos, nat_abs, ◌-◌, arith}
use Rattle.indexing.specs.Counting.{many-none}
use Rattle.runs.specs.Runs.{cell_at}
use Rattle.runs.proofs.Turns.{none}
use Rattle.runs.proofs.Place.{read}
use Rattle.indexed_runs.specs.IndexedRuns.{one_at, moves_at}
use Rattle.indexed_runs.proofs.Ones.{ones-left, turn_more, put-few-end}
use Rattle.indexed_runs.proofs.Counts.{one_below, many-turn, few-count}
use Rattle.indexed_runs.proofs.put_few.Goals as goal

pub loop-i-init : goal.loop-i-init
loop-i-init g c = (none _ (c.args.from - c.args.from) c.args.dst.now (omega arith), many-none (c.args.from - c.args.from) _ (omega arith))

pub put_one-slid-requires : goal.put_one-slid-requires
put_one-slid-requires g c = (omega (arith, c.requires.1), ones-left _ _ _ _ _ _ c.ranges.limit c.requires.2 refl c.loop-i.auto.dst)

pub overflow_add-slid : goal.overflow_add-slid
overflow_add-slid g c =
    omega (arith, one_below (c.loop-i.i - c.args.from) _ _ _ (moves_at c.args.starts.now pos (nat_abs (read c.args.limit)) c.loop-i.i) c.loop-i.invariant.1 c.put_one-slid.ensures.1)

pub loop-i-preserved : goal.loop-i-preserved
loop-i-preserved g c = (
  turn_more (cell_at g.E.Element.absent (g.R.Combine.combined c.args.rule) c.args.src.now pos (one_at c.args.starts.now (read c.args.limit))) c.args.from c.loop-i.i c.args.dst.now _ _ c.loop-i.auto.i c.loop-i.invariant.0 c.put_one-slid.ensures.0,
  many-turn c.args.from c.loop-i.i (moves_at c.args.starts.now pos (nat_abs (read c.args.limit))) _ _ c.loop-i.auto.i c.loop-i.invariant.1 c.put_one-slid.ensures.1,
)

pub returns : goal.returns
returns g c = (
  put-few-end g.E.Element.absent (g.R.Combine.combined c.args.rule) c.args.src.now c.args.starts.now c.args.limit c.args.from c.loop-i.i c.args.to c.args.dst.now c.loop-i.dst c.ranges.limit (omega (arith, c.requires.0)) c.loop-i.invariant.0,
  few-count true c.args.starts.now c.args.limit c.args.from c.loop-i.i c.args.to c.loop-i.slid c.ranges.limit (omega (arith, c.requires.0)) c.loop-i.invariant.1,
)
