use Rattle.std.proofs.Common.{◌≡◌, take, drop}
use Rattle.runs_c.specs.Bench.{all_few}
use Rattle.runs_c.proofs.all_few.Given as goal

abbrev pub invariant-loop-i : goal.invariant-loop-i
invariant-loop-i l = all_few (drop l.i (take l.rank l.extents)) ≡ all_few (take l.rank l.extents)
