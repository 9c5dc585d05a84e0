use Rattle.std.proofs.Common.{sym, ap, ◌∙◌}
use Rattle.layout.specs.Answers.{is_done}
use Rattle.scatter_checks.proofs.Found.{sizes-pass}
use Rattle.scatter_checks.proofs.examine.Goals as goal

pub check_nested-four-requires : goal.check_nested-four-requires
check_nested-four-requires c = (sizes-pass _ _ _ _ _ _ (ap is_done (sym c.check_sizes-sizes.ensures ∙ c.in_default.is))).dest
