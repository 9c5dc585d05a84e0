use Rattle.std.proofs.Common.{◌∙◌}
use Rattle.rules.proofs.Each.{copied}
use Rattle.rules.proofs.ReplaceCombine.apply_each.Goals as goal

pub returns-then-cells-lt-FEW : goal.returns-then-cells-lt-FEW
returns-then-cells-lt-FEW g c = c.copy_each.ensures ∙ copied g.E.Element.absent c.args.updates.now c.args.cells.now c.requires

pub returns-then-cells-le-BLOCK : goal.returns-then-cells-le-BLOCK
returns-then-cells-le-BLOCK g c = c.copy_block.ensures ∙ copied g.E.Element.absent c.args.updates.now c.args.cells.now c.requires

pub returns-else-cells-le-BLOCK : goal.returns-else-cells-le-BLOCK
returns-else-cells-le-BLOCK g c = c.copy_from_slice.ensures.after ∙ copied g.E.Element.absent c.args.updates.now c.args.cells.now c.requires
