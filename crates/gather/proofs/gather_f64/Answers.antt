use Rattle.calls.proofs.Does.{by_answer}
use Rattle.gather_move.proofs.Parts.{movable}
use Rattle.gather.proofs.gather_f64.Goals as goal

pub move_elements-requires : goal.move_elements-requires
move_elements-requires c = movable c.prepare-p.ensures

pub returns : goal.returns
returns c = let q = c.prepare-p.ensures in by_answer q.answered (c.move_elements.ensures (movable q))
