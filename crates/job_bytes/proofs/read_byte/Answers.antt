use Rattle.std.proofs.Common.{sym, ap, ◌≤◌, rules, tests}
use Rattle.std.proofs.lemmas.Result.{err_from_is_err_and}
use Rattle.job_bytes.specs.Fields.{held}
use Rattle.job_bytes.proofs.Reading.{passed_on, stopped, was_read, byte-fault, byte-out, byte-here}
use Rattle.job_bytes.proofs.read_byte.Goals as goal

pub returns-in_err-byte : goal.returns-in_err-byte
returns-in_err-byte c =
    let p = err_from_is_err_and c.from_residual.result c.from_residual.ensures.1 in
    passed_on _ _ _ _ _ p.1 p.2 (byte-fault _ _ _ _ _ (stopped _ _ _ c.in_err-byte.ensures))

pub returns-then-not-contains : goal.returns-then-not-contains
returns-then-not-contains c =
    let f = was_read _ _ c.in_ok-byte.ensures in
    let out : (c.args.low ≤ c.in_ok-byte.byte.value → c.in_ok-byte.byte.value ≤ c.args.high → ⊥) = λ l h. search (rules, tests, c.contains.ensures.value, c.if-not-contains.true) in
    sym (ap held (byte-out _ _ _ _ _ _ f out))

pub returns : goal.returns
returns c =
    let f = was_read _ _ c.in_ok-byte.ensures in
    let low : c.args.low ≤ c.in_ok-byte.byte.value = search (rules, tests) in
    let high : c.in_ok-byte.byte.value ≤ c.args.high = search (rules, tests) in
    sym (ap held (byte-here _ _ _ _ _ _ f low high))
