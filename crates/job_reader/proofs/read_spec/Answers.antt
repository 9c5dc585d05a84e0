use Rattle.std.proofs.lemmas.Result.{err_from_is_err_and}
use Rattle.job_bytes.proofs.Reading.{gives, passed_on, stopped, was_read, got}
use Rattle.job_reader.proofs.Chains.{spec-1, spec-2, spec-3, spec-4, spec-5, spec-6}
use Rattle.job_reader.proofs.read_spec.Goals as goal

pub returns-in_err-window : goal.returns-in_err-window
returns-in_err-window c =
    let p = err_from_is_err_and c.from_residual.result c.from_residual.ensures.1 in
    passed_on _ _ _ _ _ p.1 p.2 (spec-1 _ _ _ _ (stopped _ _ _ c.in_err-window.ensures))

pub returns-in_err-unit : goal.returns-in_err-unit
returns-in_err-unit c =
    let p = err_from_is_err_and c.from_residual-in_err-unit.result c.from_residual-in_err-unit.ensures.1 in
    let a = got _ _ _ c.in_ok-window.ensures in
    passed_on _ _ _ _ _ p.1 p.2 (spec-2 _ _ _ _ _ _ a.is (stopped _ _ _ c.in_err-unit.ensures))

pub returns-in_err-map : goal.returns-in_err-map
returns-in_err-map c =
    let p = err_from_is_err_and c.from_residual-in_err-map.result c.from_residual-in_err-map.ensures.1 in
    let a = got _ _ _ c.in_ok-window.ensures in
    let b = got _ _ _ c.in_ok-unit.ensures in
    passed_on _ _ _ _ _ p.1 p.2 (spec-3 _ _ _ _ _ _ _ _ a.is b.is (stopped _ _ _ c.in_err-map.ensures))

pub returns-in_err-vector : goal.returns-in_err-vector
returns-in_err-vector c =
    let p = err_from_is_err_and c.from_residual-in_err-vector.result c.from_residual-in_err-vector.ensures.1 in
    let a = got _ _ _ c.in_ok-window.ensures in
    let b = got _ _ _ c.in_ok-unit.ensures in
    let d = got _ _ _ c.in_ok-map.ensures in
    passed_on _ _ _ _ _ p.1 p.2 (spec-4 _ _ _ _ _ _ _ _ _ _ a.is b.is d.is (stopped _ _ _ c.in_err-vector.ensures))

pub returns-in_err-sizes : goal.returns-in_err-sizes
returns-in_err-sizes c =
    let p = err_from_is_err_and c.from_residual-in_err-sizes.result c.from_residual-in_err-sizes.ensures.1 in
    let a = got _ _ _ c.in_ok-window.ensures in
    let b = got _ _ _ c.in_ok-unit.ensures in
    let d = got _ _ _ c.in_ok-map.ensures in
    let v = was_read _ _ c.in_ok-vector.ensures in
    passed_on _ _ _ _ _ p.1 p.2 (spec-5 _ _ _ _ _ _ _ _ _ _ _ _ a.is b.is d.is v (stopped _ _ _ c.in_err-sizes.ensures))

pub returns : goal.returns
returns c =
    let a = got _ _ _ c.in_ok-window.ensures in
    let b = got _ _ _ c.in_ok-unit.ensures in
    let d = got _ _ _ c.in_ok-map.ensures in
    let v = was_read _ _ c.in_ok-vector.ensures in
    let s = got _ _ _ c.in_ok-sizes.ensures in
    gives _ _ _ _ _ (spec-6 _ _ _ _ _ _ _ _ _ _ _ _ _ a.is b.is d.is v s.is)
    (λ i. record { window_dims = a.made i; unit_dims = b.made i; start_map = d.made i; index_vector_dim = c.in_ok-vector.vector.value; slice_sizes = s.made i })
