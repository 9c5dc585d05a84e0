use Rattle.indexing.specs.Counting.{many-none}
use Rattle.runs.proofs.Turns.{none}
use Rattle.indexed_runs.proofs.Ones.{row-asks}
use Rattle.indexed_runs.proofs.put_run.Goals as goal

pub returns-then-n-eq0 : goal.returns-then-n-eq0
returns-then-n-eq0 g c = (none _ c.args.n c.args.dst.now c.if-n-eq0.true, many-none c.args.n _ c.if-n-eq0.true)

pub put_row-requires : goal.put_row-requires
put_row-requires g c = row-asks _ _ _ c.ranges.ts c.ranges.stride c.ranges.ss c.if-ts-eq1.true c.if-stride-eq1.true c.if-ss-eq1.true _ _ _ _ _ _ _ _ c.ranges.t c.ranges.base c.ranges.s c.if-n-eq0.false c.requires
