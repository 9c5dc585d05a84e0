use Rattle.std.proofs.Common.{◌≡◌, sym}
use Rattle.std.proofs.lemmas.Result.{err_from_is_err_and}
use Rattle.job_bytes.proofs.Reading.{gives, passed_on, stopped, got, was_read, byte-range, words_count}
use Rattle.job.specs.Jobs.{held_list}
use Rattle.job_lists.proofs.Chains.{list-1, list-2}
use Rattle.job_lists.proofs.read_list.Goals as goal

pub returns-in_err-count : goal.returns-in_err-count
returns-in_err-count c =
    let p = err_from_is_err_and c.from_residual.result c.from_residual.ensures.1 in
    passed_on _ _ _ _ _ p.1 p.2 (list-1 _ _ _ (stopped _ _ _ c.in_err-count.ensures))

pub read_words-requires : goal.read_words-requires
read_words-requires c = (byte-range _ _ _ _ _ _ (was_read _ _ c.in_ok-count.ensures)).1

pub returns-in_err-words : goal.returns-in_err-words
returns-in_err-words c =
    let p = err_from_is_err_and c.from_residual-in_err-words.result c.from_residual-in_err-words.ensures.1 in
    passed_on _ _ _ _ _ p.1 p.2 (list-2 _ _ _ _ _ (was_read _ _ c.in_ok-count.ensures) (stopped _ _ _ c.in_err-words.ensures))

pub returns : goal.returns
returns c =
    let ws = got _ _ _ c.in_ok-words.ensures in
    let n = words_count _ _ _ _ _ ws.is in
    let l : record { count = c.in_ok-count.count.value; entries = c.in_ok-words.words.value } ≡ held_list ws.value = (λ i. record { count = sym n i; entries = ws.made i }) in
    gives held_list _ _ _ _ (list-2 _ _ _ _ _ (was_read _ _ c.in_ok-count.ensures) ws.is) l
