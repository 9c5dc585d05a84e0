use Rattle.strided.proofs.strided_gather_refusal.Statement.{statement}
use Rattle.strided.proofs.strided_gather_refusal.Tie as tie

returns : tie.Need-returns
returns c = rw (c.bare_words.ensures, c.gather_refusal-r.ensures)

pub strided_gather_refusal_spec : {M : Type 1} → statement M
strided_gather_refusal_spec = tie.close (tie.spec (λ c κs. tt) (λ c κs. tt) returns)
