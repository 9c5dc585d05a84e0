use Rattle.std.proofs.Common.{rules}
use Rattle.scatter_checks.proofs.Rest.{axes-are}
use Rattle.scatter_checks.proofs.check_axes.Goals as goal

pub returns-in_err-check_counts : goal.returns-in_err-check_counts
returns-in_err-check_counts c = rw (← axes-are _ _ _ _ c.requires) (search rules)

pub returns : goal.returns
returns c = rw (← axes-are _ _ _ _ c.requires) (search rules)
