use Rattle.std.proofs.Common.{sym, ◌∙◌}
use Rattle.calls.proofs.Does.{done}
use Rattle.gather_move.proofs.Parts.{without-cells, none-slid}
use Rattle.gather_move.proofs.move_elements.Goals as goal

pub returns-in-Cells : goal.returns-in-Cells
returns-in-Cells g c =
    λ k.
    let t = sym c.is_done.ensures ∙ c.if-not-is_done.false in
    let e = c.cells-reported.ensures (record { gather = k.gather; ready = k.ready t; cells = c.in-Cells.is }) in
    done t e.0 e.1

pub returns-in-NoCells : goal.returns-in-NoCells
returns-in-NoCells g c =
    λ k.
    let t = sym c.is_done.ensures ∙ c.if-not-is_done.false in
    done t (without-cells c.args.p k.gather _ _ _ (k.ready t) g.E.Element.absent c.args.source.now c.args.starts.now c.args.into.now c.in-NoCells.is) (none-slid c.args.p k.gather _ _ _ (k.ready t) c.args.starts.now c.in-NoCells.is)
