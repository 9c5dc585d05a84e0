use Rattle.std.proofs.Common.{◌≡◌, ◌+◌, ◌-◌, ◌<◌, ℕ, sym, ap, ◌∙◌, length, take, drop, arith}
use Rattle.job_bytes.specs.Fields.{held, number_from}
use Rattle.job_bytes.proofs.Reading.{number_cut, number-here}
use Rattle.job_bytes.proofs.read_number.Goals as goal
use Rattle.job_bytes.proofs.read_number.Goals.{then-bytes-at-via-then-bytes-at, then-bytes-at-via-else-bytes-at+then-bytes-at-2}

pub returns-then-bytes-at : goal.returns-then-bytes-at
returns-then-bytes-at c =
    let cut : length c.args.bytes.now < c.args.at + c.args.width = elim c.then-bytes-at.branch [ then-bytes-at-via-then-bytes-at w ↦ omega arith | then-bytes-at-via-else-bytes-at+then-bytes-at-2 w ↦ omega arith ] in
    sym (ap held (number_cut c.args.width c.args.bytes.now c.args.at cut))

pub returns : goal.returns
returns c =
    let w : c.args.at + c.args.width - c.args.at ≡ c.args.width = omega arith in
    let e = c.number_of-value.ensures ∙ ap (λ (n : ℕ). number_from 0 (take n (drop c.args.at c.args.bytes.now))) w in
    sym (ap held (number-here c.args.width c.args.bytes.now c.args.at _ (omega arith) e))
