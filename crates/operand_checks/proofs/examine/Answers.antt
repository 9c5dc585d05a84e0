use Rattle.std.proofs.Common.{sym, ap, ◌∙◌}
use Rattle.layout.specs.Answers.{is_done}
use Rattle.operand_checks.proofs.Sizes.{sized, examined-on}
use Rattle.operand_checks.proofs.examine.Goals as goal

pub check_nested-four-requires : goal.check_nested-four-requires
check_nested-four-requires c = (sized _ _ _ _ _ _ _ _ (ap is_done (sym c.check_sizes-sizes.ensures ∙ c.in_default.is))).dest

pub examine_from-requires : goal.examine_from-requires
examine_from-requires c = (sized _ _ _ _ _ _ _ _ (ap is_done (sym c.check_sizes-sizes.ensures ∙ c.in_default.is))).scatter

pub returns : goal.returns
returns c = examined-on _ _ (ap is_done (sym c.check_sizes-sizes.ensures ∙ c.in_default.is)) c.check_nested-four.ensures c.examine_from.ensures
