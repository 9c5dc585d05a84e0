use Rattle.std.proofs.Common.{rules, ◌∙◌, sym, ap, length, w64, FitsSigned}
use Rattle.indexing.specs.Scatter.{scattered}
use Rattle.indexing.specs.Slid.{slid_scatter}
use Rattle.indexing.specs.Operand.{operand_copied}
use Rattle.indexing.proofs.OperandCells.{length-copied}
use Rattle.operand_move.proofs.Copied.{copy-window, copy-leaves, moved_on, moving}
use Rattle.operand_move.proofs.move_by.Goals as goal

pub copy_operand-requires : goal.copy_operand-requires
copy_operand-requires g c =
    let t = sym c.is_done.ensures ∙ c.if-not-is_done.false in
    let from : FitsSigned w64 c.args.c.offset = search rules in
    let to : FitsSigned w64 c.args.p.dest = search rules in
    let k = c.requires in
    copy-window c.args.p c.args.c k.operand k.scatter _ _ _ _ (k.ready t) (k.copy t) from to

pub move_by-requires : goal.move_by-requires
move_by-requires g c =
    let t = sym c.is_done.ensures ∙ c.if-not-is_done.false in
    let from : FitsSigned w64 c.args.c.offset = search rules in
    let to : FitsSigned w64 c.args.p.dest = search rules in
    let k = c.requires in
    let q = c.copy_operand.ensures ∙ copy-leaves c.args.p c.args.c k.operand k.scatter _ _ _ _ (k.ready t) (k.copy t) g.E.Element.absent c.args.operand.now c.args.into.now from to in
    moving _ (ap length q ∙ length-copied g.E.Element.absent k.operand k.scatter.result c.args.operand.now c.args.into.now) k

pub returns : goal.returns
returns g c =
    let t = sym c.is_done.ensures ∙ c.if-not-is_done.false in
    let from : FitsSigned w64 c.args.c.offset = search rules in
    let to : FitsSigned w64 c.args.p.dest = search rules in
    λ k.
    let q = c.copy_operand.ensures ∙ copy-leaves c.args.p c.args.c k.operand k.scatter _ _ _ _ (k.ready t) (k.copy t) g.E.Element.absent c.args.operand.now c.args.into.now from to in
    moved_on c.args.p.answer (slid_scatter k.scatter c.args.starts.now) (scattered (g.R.Combine.combined c.args.rule) g.E.Element.absent k.scatter c.args.starts.now c.args.source.now) c.args.into.now _ (operand_copied g.E.Element.absent k.operand k.scatter.result c.args.operand.now c.args.into.now) _ _ t q
    (c.move_by.ensures (moving _ (ap length q ∙ length-copied g.E.Element.absent k.operand k.scatter.result c.args.operand.now c.args.into.now) k))
