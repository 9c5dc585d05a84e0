use Rattle.walk.proofs.Decoding.{Decoding}
use Rattle.walk.proofs.decode.Given as goal

abbrev pub invariant-loop-i : goal.invariant-loop-i
invariant-loop-i l = Decoding l.source_base l.dest_base l.shape l.rows l.rank l.linear l.s l.left l.i
