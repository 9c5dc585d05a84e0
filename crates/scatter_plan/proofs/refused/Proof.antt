use Rattle.scatter_plan.proofs.refused.Statement.{statement}
use Rattle.scatter_plan.proofs.refused.Tie as tie

returns : tie.Need-returns
returns c = rw c.refused_replay-none.ensures

pub refused_spec : {M : Type 1} → statement M
refused_spec = tie.close (tie.spec (λ c κs. tt) returns)
