use mathlib.Core.Path.{sym, ◌∙◌}
use borrow.Author.Tests.{not-true, not-false}
use Rattle.strided.proofs.Stored.{not_made, was-made}
use borrow.Author.Rules.{rules}
use Rattle.strided.proofs.store.Statement.{statement}
use Rattle.strided.proofs.store.Tie as tie

returns : tie.Need-returns-then-not-is_done
returns c = let s = c in not_made s.args.made s.args.out.now (sym c.is_done.ensures ∙ c.if-not-is_done.true)

same_length : tie.Need-shape_of-out
same_length c = search rules

returns-2 : tie.Need-returns
returns-2 c = let s = c in was-made s.args.made s.args.out.now _ c.write_job.result (sym c.is_done.ensures ∙ c.if-not-is_done.false) c.write_job.ensures

pub store_spec : {M : Type 1} → statement M
store_spec = tie.close (tie.spec (λ c κs. tt) returns (λ c κs. tt) same_length returns-2)
