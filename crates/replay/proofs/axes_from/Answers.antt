use Rattle.std.proofs.Common.{sym, ap, ◌∙◌, arith, rules, [], get_or, pos, SFits}
use Rattle.std.specs.Int.{w64}
use lib.ListN.{replicate}
use Rattle.integer.specs.Z.{back}
use Rattle.indexing.proofs.Updates.{length-tabulate, get_d_tabulate}
use Rattle.layout.specs.Layouts.{rank_limit}
use Rattle.layout.proofs.Fill.{fill_one, fill-all}
use Rattle.replay.specs.Replays.{the_axis, no_axis, axes_from}
use Rattle.replay.proofs.Rows.{axis_at}
use Rattle.replay.proofs.axes_from.Goals as goal

pub loop-i-init : goal.loop-i-init
loop-i-init c = ap (replicate rank_limit) c.no_axis-empty.ensures

pub loop-i-preserved : goal.loop-i-preserved
loop-i-preserved c =
    let es = c.args.extents in
    let rows = c.args.rows in
    let i = c.loop-i.i in
    let row = get_or rows i [] in
    let k = length-tabulate rank_limit (axis_at es rows) in
    let f0 : SFits w64 (get_or row 0 (pos 0)) = search rules in
    let f1 : SFits w64 (get_or row 1 (pos 0)) = search rules in
    let f2 : SFits w64 (get_or row 2 (pos 0)) = search rules in
    let f3 : SFits w64 (get_or row 3 (pos 0)) = search rules in
    fill_one rank_limit no_axis no_axis (axes_from es rows) c.loop-i.out i _ (omega arith) (omega (arith, k)) c.loop-i.invariant
    ((λ ι. the_axis (get_or es i 0) (back f0 ι) (back f1 ι) (back f2 ι) (back f3 ι)) ∙ sym (get_d_tabulate rank_limit (axis_at es rows) i no_axis (omega arith)))

pub returns : goal.returns
returns c = fill-all rank_limit no_axis (axes_from c.args.extents c.args.rows) c.loop-i.out c.loop-i.i (length-tabulate rank_limit (axis_at c.args.extents c.args.rows)) (omega arith) c.loop-i.invariant
