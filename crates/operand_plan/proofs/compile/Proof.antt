use Rattle.operand_checks.proofs.Sizes.{sized}
use Rattle.operand_plan.proofs.Compiled.{compiled-is}
use Rattle.operand_plan.proofs.compile.Statement.{statement}
use Rattle.operand_plan.proofs.compile.Tie as tie

compiled-from-requires : tie.Need-compiled_from-scatter-requires
compiled-from-requires c κs = λ d. (c.examine-found.ensures.found d).scatter

layout-by-requires : tie.Need-layout_by-operand-requires
layout-by-requires c κs = λ d. let k = sized _ _ _ _ _ _ _ _ (c.examine-found.ensures.found d).sizes in (k.lengths, k.ranks)

returns : tie.Need-returns
returns c = compiled-is _ _ c.examine-found.ensures.answered c.layout_by-operand.ensures c.compiled_from-scatter.ensures

pub compile_spec : {M : Type 1} → statement M
compile_spec = tie.close (tie.spec (λ c κs. tt) compiled-from-requires layout-by-requires returns)
