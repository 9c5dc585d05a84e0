use Rattle.gather.proofs.Planned.{numbers-are}
use Rattle.gather.proofs.numbers_of.Statement.{statement}
use Rattle.gather.proofs.numbers_of.Tie as tie

returns : tie.Need-returns
returns c = numbers-are c.args.plan c.requires _ _ _ _ c.moves_of-moves.ensures c.unless_none-stepped.ensures c.limits_of-limits.ensures c.batch_extents_of-batch_extents.ensures

pub numbers_of_spec : {M : Type 1} → statement M
numbers_of_spec =
    tie.close
    (tie.spec
    (λ c κs. tt)
    (λ c κs. tt)
    (λ c κs. tt)
    (λ c κs. tt)
    returns)
