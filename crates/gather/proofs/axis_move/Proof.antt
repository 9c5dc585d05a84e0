use borrow.Author.Rules.{rules}
use mir.Syntax.{w64}
use mir.Val.{SFits}
use Rattle.integer.specs.Z.{back}
use Rattle.gather.proofs.axis_move.Statement.{statement}
use Rattle.gather.proofs.axis_move.Tie as tie

enum_told : tie.Need-enum_told-1
enum_told c = search rules

enum-told-2 : tie.Need-enum_told-in-Batch
enum-told-2 c = search rules

returns : tie.Need-returns-in-Window
returns c =
    let f : SFits w64 c.args.axis.window_step = search rules in
    rw (c.in-Window.is, back f)

returns-2 : tie.Need-returns-in-Batch
returns-2 c =
    let f : SFits w64 c.args.axis.index_batch_step = search rules in
    rw (c.in-Batch.is, back f)

pub axis_move_spec : {M : Type 1} → statement M
axis_move_spec = tie.close (tie.spec enum_told enum-told-2 returns returns-2)
