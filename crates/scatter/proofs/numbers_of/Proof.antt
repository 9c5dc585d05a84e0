use Rattle.scatter.proofs.Planned.{numbers-are}
use Rattle.scatter.proofs.numbers_of.Statement.{statement}
use Rattle.scatter.proofs.numbers_of.Tie as tie

returns : tie.Need-returns
returns c = let s = c in numbers-are s.args.plan s.args.batch_rows s.args.window_rows s.requires _ _ _ _ _ _ c.source_steps-index.ensures c.unless_none-stepped.ensures c.dest_steps-update_steps.ensures c.source_steps-window_steps.ensures c.dest_steps-steps.ensures c.limits_of-limits.ensures

pub numbers_of_spec : {M : Type 1} → statement M
numbers_of_spec =
    tie.close
    (tie.spec
    (λ c κs. tt)
    (λ c κs. tt)
    (λ c κs. tt)
    (λ c κs. tt)
    (λ c κs. tt)
    (λ c κs. tt)
    returns)
