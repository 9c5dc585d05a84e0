use Rattle.job_bytes.proofs.Reading.{Reading}
use Rattle.job_bytes.proofs.read_words.Given as goal

abbrev pub invariant-loop-i : goal.invariant-loop-i
invariant-loop-i l = Reading l.n l.bytes l.fn.at l.entries l.place l.i
