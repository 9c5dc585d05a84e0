use Rattle.std.proofs.Common.{refl}
use Rattle.std.proofs.lemmas.Result.{err_from_is_err_and}
use Rattle.job_bytes.proofs.Reading.{gives, passed_on, stopped, was_read}
use Rattle.job_reader.proofs.Chains.{views-1, views-2, views-3, views-4}
use Rattle.job_reader.proofs.read_views.Goals as goal

pub returns-in_err-first : goal.returns-in_err-first
returns-in_err-first c =
    let p = err_from_is_err_and c.from_residual.result c.from_residual.ensures.1 in
    passed_on _ _ _ _ _ p.1 p.2 (views-1 _ _ _ (stopped _ _ _ c.in_err-first.ensures))

pub returns-in_err-second : goal.returns-in_err-second
returns-in_err-second c =
    let p = err_from_is_err_and c.from_residual-in_err-second.result c.from_residual-in_err-second.ensures.1 in
    let a = was_read _ _ c.in_ok-first.ensures in
    passed_on _ _ _ _ _ p.1 p.2 (views-2 _ _ _ _ _ a (stopped _ _ _ c.in_err-second.ensures))

pub returns-in_err-third : goal.returns-in_err-third
returns-in_err-third c =
    let p = err_from_is_err_and c.from_residual-in_err-third.result c.from_residual-in_err-third.ensures.1 in
    let a = was_read _ _ c.in_ok-first.ensures in
    let b = was_read _ _ c.in_ok-second.ensures in
    passed_on _ _ _ _ _ p.1 p.2 (views-3 _ _ _ _ _ _ _ a b (stopped _ _ _ c.in_err-third.ensures))

pub returns : goal.returns
returns c =
    let a = was_read _ _ c.in_ok-first.ensures in
    let b = was_read _ _ c.in_ok-second.ensures in
    let d = was_read _ _ c.in_ok-third.ensures in
    gives _ _ _ _ _ (views-4 _ _ _ _ _ _ _ _ a b d) refl
