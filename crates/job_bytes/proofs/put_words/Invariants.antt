use Rattle.job_bytes.proofs.Putting.{PuttingWords}
use Rattle.job_bytes.proofs.put_words.Given as goal

abbrev pub invariant-loop-i : goal.invariant-loop-i
invariant-loop-i l = PuttingWords l.fn.out l.at l.words l.out l.i
