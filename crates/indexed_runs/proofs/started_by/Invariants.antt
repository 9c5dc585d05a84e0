use Rattle.std.proofs.Common.{◌≡◌, ◌+ℤ◌}
use Rattle.indexed_runs.specs.IndexedRuns.{start_at, start_moved}
use Rattle.indexed_runs.proofs.started_by.Given as goal

abbrev pub invariant-loop-c : goal.invariant-loop-c
invariant-loop-c l =
    (l.at ≡ l.s +ℤ start_at l.starts l.components.offsets l.components.strides l.components.limits l.t l.c)
    × (l.moved ≡ start_moved l.starts l.components.offsets l.components.limits l.t l.c)
