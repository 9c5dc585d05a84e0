use Rattle.std.proofs.Common.{sym, ap, arith}
use Rattle.std.proofs.lemmas.Result.{err_from_is_err_and}
use Rattle.job_bytes.specs.Fields.{held}
use Rattle.job_bytes.proofs.Reading.{passed_on, stopped, was_read, number-room}
use Rattle.job_reader.proofs.Chains.{count-1, count-2, count-3}
use Rattle.job_reader.proofs.read_count.Goals as goal

pub returns-in_err-count : goal.returns-in_err-count
returns-in_err-count c =
    let p = err_from_is_err_and c.from_residual.result c.from_residual.ensures.1 in
    passed_on _ _ _ _ _ p.1 p.2 (count-1 _ _ (stopped _ _ _ c.in_err-count.ensures))

pub overflow_sub-bytes : goal.overflow_sub-bytes
overflow_sub-bytes c = (number-room _ _ _ _ _ (was_read _ _ c.in_ok-count.ensures)).1

pub returns-then-bytes-count : goal.returns-then-bytes-count
returns-then-bytes-count c =
    let f = was_read _ _ c.in_ok-count.ensures in
    let r = number-room _ _ _ _ _ f in
    sym (ap held (count-2 _ _ _ f (λ e. c.if-bytes-count.true (omega (arith, r.0, r.1, e)))))

pub returns : goal.returns
returns c =
    let f = was_read _ _ c.in_ok-count.ensures in
    let r = number-room _ _ _ _ _ f in
    sym (ap held (count-3 _ _ _ f (omega (arith, r.0, r.1, c.if-bytes-count.false))))
