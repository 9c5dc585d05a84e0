use Rattle.std.proofs.Common.{sym, ap, refl}
use Rattle.std.proofs.lemmas.Result.{err_from_is_err_and}
use Rattle.job_bytes.specs.Fields.{held}
use Rattle.job_bytes.proofs.Reading.{gives, passed_on, stopped, was_read}
use Rattle.job_reader.proofs.Chains.{got-head, job-1, job-2, job-3, job-4, job-5}
use Rattle.job_reader.proofs.job_of.Goals as goal

pub returns-in_err-head : goal.returns-in_err-head
returns-in_err-head c =
    let p = err_from_is_err_and c.from_residual.result c.from_residual.ensures.1 in
    passed_on _ _ _ _ _ p.1 p.2 (job-1 _ _ (stopped _ _ _ c.in_err-head.ensures))

pub returns-in_err-views : goal.returns-in_err-views
returns-in_err-views c =
    let p = err_from_is_err_and c.from_residual-in_err-views.result c.from_residual-in_err-views.ensures.1 in
    let h = got-head _ _ c.in_ok-head.ensures in
    passed_on _ _ _ _ _ p.1 p.2 (job-2 _ _ _ _ h (stopped _ _ _ c.in_err-views.ensures))

pub returns-in_err-spec : goal.returns-in_err-spec
returns-in_err-spec c =
    let p = err_from_is_err_and c.from_residual-in_err-spec.result c.from_residual-in_err-spec.ensures.1 in
    let h = got-head _ _ c.in_ok-head.ensures in
    let v = was_read _ _ c.in_ok-views.ensures in
    passed_on _ _ _ _ _ p.1 p.2 (job-3 _ _ _ _ _ _ h v (stopped _ _ _ c.in_err-spec.ensures))

pub returns-then-spec-bytes : goal.returns-then-spec-bytes
returns-then-spec-bytes c =
    let h = got-head _ _ c.in_ok-head.ensures in
    let v = was_read _ _ c.in_ok-views.ensures in
    let s = was_read _ _ c.in_ok-spec.ensures in
    sym (ap held (job-4 _ _ _ _ _ _ _ h v s c.if-spec-bytes.true))

pub returns : goal.returns
returns c =
    let h = got-head _ _ c.in_ok-head.ensures in
    let v = was_read _ _ c.in_ok-views.ensures in
    let s = was_read _ _ c.in_ok-spec.ensures in
    gives _ _ _ _ _ (job-5 _ _ _ _ _ _ _ h v s c.if-spec-bytes.false) refl
