use borrow.Author.Tests.{eq-eqb, ne_eqb}
use Rattle.strided.proofs.rule_f64_of.Statement.{statement}
use Rattle.strided.proofs.rule_f64_of.Tie as tie

returns : tie.Need-returns-then-rule-eq1
returns c = rw (eq-eqb _ _ c.if-rule-eq1.true)

returns-2 : tie.Need-returns-then-rule-eq2
returns-2 c = rw (ne_eqb _ _ c.if-rule-eq1.false, eq-eqb _ _ c.if-rule-eq2.true)

returns-3 : tie.Need-returns-then-rule-eq3
returns-3 c = rw (ne_eqb _ _ c.if-rule-eq1.false, ne_eqb _ _ c.if-rule-eq2.false, eq-eqb _ _ c.if-rule-eq3.true)

returns-4 : tie.Need-returns-then-rule-eq4
returns-4 c = rw (ne_eqb _ _ c.if-rule-eq1.false, ne_eqb _ _ c.if-rule-eq2.false, ne_eqb _ _ c.if-rule-eq3.false, eq-eqb _ _ c.if-rule-eq4.true)

returns-5 : tie.Need-returns
returns-5 c = rw (ne_eqb _ _ c.if-rule-eq1.false, ne_eqb _ _ c.if-rule-eq2.false, ne_eqb _ _ c.if-rule-eq3.false, ne_eqb _ _ c.if-rule-eq4.false)

pub rule_f64_of_spec : {M : Type 1} → statement M
rule_f64_of_spec = tie.close (tie.spec returns returns-2 returns-3 returns-4 returns-5)
