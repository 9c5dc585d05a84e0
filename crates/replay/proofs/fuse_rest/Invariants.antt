use Rattle.replay.proofs.Turns.{Fusing}
use Rattle.replay.proofs.fuse_rest.Given as goal

abbrev pub invariant-loop-i : goal.invariant-loop-i
invariant-loop-i l = Fusing l.shape l.source_strides l.dest_strides l.rank l.fn.first l.axes l.last l.n l.i
