use borrow.Author.Tests.{eq-eqb, ne_eqb}
use Rattle.strided.proofs.listed.Statement.{statement}
use Rattle.strided.proofs.listed.Tie as tie

returns : tie.Need-returns-then-element-eq1
returns c = rw (eq-eqb _ _ c.if-element-eq1.true)

returns-2 : tie.Need-returns-then-element-eq2
returns-2 c = rw (ne_eqb _ _ c.if-element-eq1.false, eq-eqb _ _ c.if-element-eq2.true)

returns-3 : tie.Need-returns
returns-3 c = rw (ne_eqb _ _ c.if-element-eq1.false, ne_eqb _ _ c.if-element-eq2.false, c.no_job-job.ensures)

pub listed_spec : {M : Type 1} → statement M
listed_spec = tie.close (tie.spec returns returns-2 (λ c κs. tt) returns-3)
