use Rattle.strided.proofs.words_of.Statement.{statement}
use Rattle.strided.proofs.words_of.Tie as tie

returns : tie.Need-returns
returns c = rw (c.second_number-b.ensures, c.first_number-a.ensures, c.number-n.ensures)

pub words_of_spec : {M : Type 1} → statement M
words_of_spec = tie.close (tie.spec (λ c κs. tt) (λ c κs. tt) (λ c κs. tt) returns)
