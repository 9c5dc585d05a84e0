use Rattle.std.proofs.Common.{◌≡◌}
use Rattle.walk.specs.Walks.{state_at}
use Rattle.walk_cases.proofs.placed.PlacedWalk.put_places.Given as goal

abbrev pub invariant-loop-k : goal.invariant-loop-k
invariant-loop-k g l = l.state ≡ state_at l.self.source_base l.self.dest_base l.self.shape l.self.rows l.self.rank l._k
