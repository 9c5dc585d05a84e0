use Rattle.std.proofs.Common.{sym, ◌∙◌}
use Rattle.calls.proofs.Does.{done}
use Rattle.scatter_move.proofs.Empty.{without-cells, without-number}
use Rattle.scatter_move.proofs.move_by.Goals as goal

pub returns-in-Cells : goal.returns-in-Cells
returns-in-Cells g c =
    let t = sym c.is_done.ensures ∙ c.if-not-is_done.false in
    λ k.
    let l = c.cells-reported.ensures (record { scatter = k.scatter; ready = k.ready t; cells = c.in-Cells.is }) in
    done t l.0 l.1

pub returns-in-NoCells : goal.returns-in-NoCells
returns-in-NoCells g c =
    let t = sym c.is_done.ensures ∙ c.if-not-is_done.false in
    λ k.
    done t (without-cells c.args.p k.scatter _ _ _ (k.ready t) (g.R.Combine.combined c.args.rule) g.E.Element.absent c.args.starts.now c.args.source.now c.args.into.now c.in-NoCells.is)
    (without-number c.args.p k.scatter _ _ _ (k.ready t) c.args.starts.now c.in-NoCells.is)
