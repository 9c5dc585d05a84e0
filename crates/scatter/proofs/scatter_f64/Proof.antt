use borrow.Author.Rules.{rules}
use Rattle.calls.proofs.Does.{by_answer}
use Rattle.scatter_move.proofs.Parts.{movable}
use Rattle.scatter.proofs.scatter_f64.Statement.{statement}
use Rattle.scatter.proofs.scatter_f64.Tie as tie

move-f64-requires : tie.Need-move_f64-requires
move-f64-requires c κs = movable c.prepare-p.ensures

same_length : tie.Need-shape_of-into
same_length c = search rules

returns : tie.Need-returns
returns c = let q = c.prepare-p.ensures in by_answer q.answered (c.move_f64.ensures (movable q))

pub scatter_f64_spec : {M : Type 1} → statement M
scatter_f64_spec = tie.close (tie.spec (λ c κs. tt) move-f64-requires same_length returns)
