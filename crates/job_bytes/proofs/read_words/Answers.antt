use Rattle.std.proofs.lemmas.Result.{err_from_is_err_and}
use Rattle.job_bytes.proofs.Reading.{passed_on, stopped, was_read, word-stops, word_more, all_words}
use Rattle.job_bytes.proofs.read_words.Goals as goal

pub returns-in_err-word : goal.returns-in_err-word
returns-in_err-word c =
    let p = err_from_is_err_and c.from_residual.result c.from_residual.ensures.1 in
    passed_on _ _ _ _ _ p.1 p.2 (word-stops _ _ _ _ _ _ c.requires c.loop-i-test.true c.loop-i.invariant _ (stopped _ _ _ c.in_err-word.ensures))

pub loop-i-preserved : goal.loop-i-preserved
loop-i-preserved c = word_more _ _ _ _ _ _ c.requires c.loop-i-test.true c.loop-i.invariant _ _ (was_read _ _ c.in_ok-word.ensures)

pub returns : goal.returns
returns c = all_words _ _ _ _ _ _ c.requires c.loop-i-test.false c.loop-i.invariant
