use Rattle.std.proofs.Common.{◌≡◌, length}
use lib.IntN.{ℤ}
use Rattle.layout.specs.Layouts.{rank_limit}
use Rattle.walk.specs.Walks.{Walk}
use Rattle.walk.proofs.Going.{Going}
use Rattle.walk.proofs.carried.Given as goal

-- on every walk on which the state stands, the axes before i have wrapped
abbrev pub invariant-loop-i : goal.invariant-loop-i
invariant-loop-i l = record {
  full : length l.s.coords ≡ rank_limit;
  going :
      (sb db : ℤ) → Walk sb db l.shape l.rows l.rank → Going sb db l.shape l.rows l.rank l.fn.state.coords l.fn.state.coords l.fn.state.source_offset l.fn.state.dest_offset 0
      → Going sb db l.shape l.rows l.rank l.fn.state.coords l.s.coords l.s.source_offset l.s.dest_offset l.i;
}
