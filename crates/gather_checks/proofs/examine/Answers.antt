use Rattle.std.specs.Prelude.{◌≡◌, true}
use Rattle.std.proofs.Common.{rules}
use Rattle.layout.specs.Answers.{is_done}
use Rattle.gather_checks.specs.Refusals.{sizes_refusal}
use Rattle.gather_checks.proofs.Found.{sizes-pass}
use Rattle.gather_checks.proofs.examine.Goals as goal

pub check_nested-four-requires : goal.check_nested-four-requires
check_nested-four-requires c =
    let done : is_done (sizes_refusal c.args.operand_extents.now c.args.operand_strides.now c.args.index_extents.now c.args.index_strides.now c.args.dest_extents.now c.args.dest_strides.now) ≡ true = search rules in
    (sizes-pass _ _ _ _ _ _ done).dest
