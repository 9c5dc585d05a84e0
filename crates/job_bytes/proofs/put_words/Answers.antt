use Rattle.job_bytes.proofs.Putting.{word-put, all-words-put}
use Rattle.job_bytes.proofs.put_words.Goals as goal

pub loop-i-preserved : goal.loop-i-preserved
loop-i-preserved c = word-put _ _ _ _ _ _ c.loop-i-test.true c.put_number.ensures c.loop-i.invariant

pub returns : goal.returns
returns c = all-words-put _ _ _ _ _ c.loop-i-test.false c.loop-i.invariant
