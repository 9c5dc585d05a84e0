use Rattle.scatter_plan.proofs.compile.Statement.{statement}
use Rattle.scatter_plan.proofs.compile.Tie as tie

compiled-from-requires : tie.Need-compiled_from-requires
compiled-from-requires c κs = c.examine-found.ensures.found

returns : tie.Need-returns
returns c = rw (c.compiled_from.ensures, c.examine-found.ensures.answered)

pub compile_spec : {M : Type 1} → statement M
compile_spec = tie.close (tie.spec (λ c κs. tt) compiled-from-requires returns)
