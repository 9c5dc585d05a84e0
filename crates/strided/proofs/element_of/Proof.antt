use borrow.Author.Tests.{eq-eqb, ne_eqb}
use Rattle.strided.proofs.element_of.Statement.{statement}
use Rattle.strided.proofs.element_of.Tie as tie

returns : tie.Need-returns-then-element-eq1
returns c = rw (eq-eqb _ _ c.if-element-eq1.true)

returns-2 : tie.Need-returns-else-element-eq1
returns-2 c = rw (ne_eqb _ _ c.if-element-eq1.false)

pub element_of_spec : {M : Type 1} → statement M
element_of_spec = tie.close (tie.spec returns returns-2)
