use Rattle.std.proofs.Common.{◌≡◌, ◌-◌, length}
use Rattle.checks.specs.Checks.{first_of}
use Rattle.gather_checks.specs.Refusals.{resets_at}
use Rattle.gather_checks.proofs.check_resets.Given as goal

abbrev pub invariant-loop-i : goal.invariant-loop-i
invariant-loop-i l =
    first_of (resets_at l.de l.ds l.window l.batch) (length l.de - l.i) l.i ≡ first_of (resets_at l.de l.ds l.window l.batch) (length l.de) 0
