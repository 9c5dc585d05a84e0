use Rattle.std.proofs.Common.{sym, ap, ◌∙◌}
use Rattle.layout.specs.Answers.{is_done}
use Rattle.checks.proofs.Made.{or-done}
use Rattle.scatter_checks.proofs.Counts.{counted}
use Rattle.scatter_checks.proofs.Found.{and-is, turned_down, found}
use Rattle.scatter_checks.proofs.Rest.{fits}
use Rattle.scatter_checks.proofs.examine_axes.Goals as goal

pub returns-in-Err : goal.returns-in-Err
returns-in-Err c =
    turned_down c.args.four _ _ c.requires.sizes c.in-Err.refusal (sym (and-is c.args.four _ c.and.ensures c.check_axes-axes.ensures) ∙ c.in-Err.is) c.unexamined.ensures

pub examine_walks-requires : goal.examine_walks-requires
examine_walks-requires c =
    record { listed = c.requires; counted = counted _ (fits _ _ _ _ c.requires).index (or-done c.args.four _ (ap is_done (sym (and-is c.args.four _ c.and.ensures c.check_axes-axes.ensures) ∙ c.in_default.is))).1 }

pub returns : goal.returns
returns c =
    found c.args.four _ _ c.requires.sizes (ap is_done (sym (and-is c.args.four _ c.and.ensures c.check_axes-axes.ensures) ∙ c.in_default.is)) c.examine_walks.ensures
