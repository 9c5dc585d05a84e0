use native.Mathlib.Omega.{arith}
use borrow.Author.Tests.{lt-leb, le-leb}
use Rattle.strided.proofs.check_rule.Statement.{statement}
use Rattle.strided.proofs.check_rule.Tie as tie

returns : tie.Need-returns-then-rule-eq0
returns c = let s = c in rw (lt-leb 1 s.args.rule (omega (arith, c.if-rule-eq0.true)))

returns-2 : tie.Need-returns-then-most-rule
returns-2 c =
    let s = c in
    rw (le-leb 1 s.args.rule (omega (arith, c.if-rule-eq0.false)), lt-leb s.args.rule s.args.most (omega (arith, c.if-most-rule.true)))

returns-3 : tie.Need-returns
returns-3 c =
    let s = c in
    rw (le-leb 1 s.args.rule (omega (arith, c.if-rule-eq0.false)), le-leb s.args.rule s.args.most (omega (arith, c.if-most-rule.false)))

pub check_rule_spec : {M : Type 1} → statement M
check_rule_spec = tie.close (tie.spec returns returns-2 returns-3)
