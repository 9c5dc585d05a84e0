use Rattle.std.proofs.Common.{rules, ap, ◌∙◌, take, ℤ, FitsSigned, w64}
use Rattle.integer.specs.Z.{back}
use Rattle.indexing.specs.Coordinates.{product}
use Rattle.indexing.specs.Slid.{slid_of}
use Rattle.windows.specs.Windows.{place_at}
use Rattle.indexed_runs.specs.IndexedRuns.{replaced, starts_moved}
use Rattle.gather_move.proofs.Parts.{back_end}
use Rattle.gather_move.proofs.run.Goals as goal

pub returns : goal.returns
returns g c =
    let operand : FitsSigned w64 c.args.p.operand = search rules in
    let index : FitsSigned w64 c.args.p.index = search rules in
    let w = c.args.p.numbers in
    let m = w.components in (
      back_end g.E.Element.absent replaced c.args.source.now c.args.starts.now m.offsets m.strides m.limits m.count c.args.p.operand c.args.p.index c.args.at w.extents w.window_steps w.batch_steps w.dest_steps w.rank c.args.into.now _ operand index c.ranges.at c.gather_window.ensures.0,
      c.gather_window.ensures.1 ∙ ap (λ (z : ℤ). slid_of (product (take w.rank w.extents)) (starts_moved c.args.starts.now m.offsets m.limits m.count (product (take w.rank w.batch_extents)) (place_at z w.batch_extents w.batch_steps w.rank))) (back index),
    )
