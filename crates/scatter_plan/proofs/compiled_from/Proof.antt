use mathlib.Core.Path.{sym, ◌∙◌}
use Rattle.scatter_plan.proofs.Compiled.{compiled-refused, compiled-done}
use Rattle.scatter_plan.proofs.compiled_from.Statement.{statement}
use Rattle.scatter_plan.proofs.compiled_from.Tie as tie

returns : tie.Need-returns-then-not-is_done
returns c = c.refused.ensures ∙ compiled-refused _ _ (sym c.is_done.ensures ∙ c.if-not-is_done.true)

plan-of-requires : tie.Need-plan_of-plan-requires
plan-of-requires c κs = c.requires (sym c.is_done.ensures ∙ c.if-not-is_done.false)

returns-2 : tie.Need-returns
returns-2 c =
    let m = c in
    let d = sym m.is_done.ensures ∙ m.if-not-is_done.false in
    compiled-done _ _ _ _ _ d m.plan_of-plan.ensures (m.requires d)

pub compiled_from_spec : {M : Type 1} → statement M
compiled_from_spec =
    tie.close (tie.spec (λ c κs. tt) (λ c κs. tt) returns plan-of-requires returns-2)
