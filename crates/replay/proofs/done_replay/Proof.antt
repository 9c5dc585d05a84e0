use Rattle.replay.proofs.done_replay.Statement.{statement}
use Rattle.replay.proofs.done_replay.Tie as tie

returns : tie.Need-returns
returns c = rw c.shape_of-extents.ensures

pub done_replay_spec : {M : Type 1} → statement M
done_replay_spec = tie.close (tie.spec (λ c κs. tt) returns)
