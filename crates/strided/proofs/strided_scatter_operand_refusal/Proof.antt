use Rattle.strided.proofs.strided_scatter_operand_refusal.Statement.{statement}
use Rattle.strided.proofs.strided_scatter_operand_refusal.Tie as tie

returns : tie.Need-returns
returns c = rw (c.bare_words.ensures, c.operand_refusal-r.ensures)

pub strided_scatter_operand_refusal_spec : {M : Type 1} → statement M
strided_scatter_operand_refusal_spec =
    tie.close (tie.spec (λ c κs. tt) (λ c κs. tt) returns)
