use Rattle.std.proofs.Common.{sym, ap}
use Rattle.std.proofs.lemmas.Result.{err_from_is_err_and}
use Rattle.job.specs.declared.Kind.TheVariants as K
use Rattle.job.specs.declared.Element.TheVariants as E
use Rattle.job_bytes.proofs.Reading.{gives, passed_on, stopped, was_read, byte-fault}
use Rattle.job_reader.specs.Held.{held_head, head_of}
use Rattle.job_reader.proofs.Chains.{head-1, head-2, head-3, head-4, head-5}
use Rattle.job_reader.proofs.Listed.{listed, unlisted}
use Rattle.job_reader.proofs.read_head.Goals as goal

pub returns-in_err-count : goal.returns-in_err-count
returns-in_err-count c =
    let p = err_from_is_err_and c.from_residual.result c.from_residual.ensures.1 in
    passed_on _ _ _ _ _ p.1 p.2 (head-1 _ _ (stopped _ _ _ c.in_err-count.ensures))

pub returns-in_err-version : goal.returns-in_err-version
returns-in_err-version c =
    let p = err_from_is_err_and c.from_residual-in_err-version.result c.from_residual-in_err-version.ensures.1 in
    let a = was_read _ _ c.in_ok-count.ensures in
    passed_on _ _ _ _ _ p.1 p.2 (head-2 _ _ _ _ a (stopped _ _ _ c.in_err-version.ensures))

pub returns-in_err-first : goal.returns-in_err-first
returns-in_err-first c =
    let p = err_from_is_err_and c.from_residual-in_err-first.result c.from_residual-in_err-first.ensures.1 in
    let a = was_read _ _ c.in_ok-count.ensures in
    let b = was_read _ _ c.in_ok-version.ensures in
    passed_on _ _ _ _ _ p.1 p.2 (head-3 _ _ _ _ _ _ a b (byte-fault _ _ _ _ _ (stopped _ _ _ c.in_err-first.ensures)))

pub returns-in_default : goal.returns-in_default
returns-in_default c =
    let a = was_read _ _ c.in_ok-count.ensures in
    let b = was_read _ _ c.in_ok-version.ensures in
    let f = was_read _ _ c.in_ok-first.ensures in
    sym (ap held_head (head-3 _ _ _ _ _ _ a b (unlisted K.Gather K.Scatter _ _ _ _ _ f c.in_default.ensures)))

pub returns-in_err-second : goal.returns-in_err-second
returns-in_err-second c =
    let p = err_from_is_err_and c.from_residual-in_err-second.result c.from_residual-in_err-second.ensures.1 in
    let a = was_read _ _ c.in_ok-count.ensures in
    let b = was_read _ _ c.in_ok-version.ensures in
    let f = was_read _ _ c.in_ok-first.ensures in
    let k = listed K.Gather K.Scatter _ _ _ _ _ f c.in-Ok.ensures in
    passed_on _ _ _ _ _ p.1 p.2 (head-4 _ _ _ _ _ _ _ _ a b k.0 (byte-fault _ _ _ _ _ (stopped _ _ _ c.in_err-second.ensures)))

pub returns-in_default-try_from : goal.returns-in_default-try_from
returns-in_default-try_from c =
    let a = was_read _ _ c.in_ok-count.ensures in
    let b = was_read _ _ c.in_ok-version.ensures in
    let f = was_read _ _ c.in_ok-first.ensures in
    let k = listed K.Gather K.Scatter _ _ _ _ _ f c.in-Ok.ensures in
    let s = was_read _ _ c.in_ok-second.ensures in
    sym (ap held_head (head-4 _ _ _ _ _ _ _ _ a b k.0 (unlisted E.I32 E.F64 _ _ _ _ _ s c.in_default-try_from.ensures)))

pub returns : goal.returns
returns c =
    let a = was_read _ _ c.in_ok-count.ensures in
    let b = was_read _ _ c.in_ok-version.ensures in
    let f = was_read _ _ c.in_ok-first.ensures in
    let k = listed K.Gather K.Scatter _ _ _ _ _ f c.in-Ok.ensures in
    let s = was_read _ _ c.in_ok-second.ensures in
    let e = listed E.I32 E.F64 _ _ _ _ _ s c.in-Ok-try_from.ensures in
    gives head_of _ _ _ _ (head-5 _ _ _ _ _ _ _ _ _ a b k.0 e.0) (λ i. record { kind = k.1 i; element = e.1 i })
