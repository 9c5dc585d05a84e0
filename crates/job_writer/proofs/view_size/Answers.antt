use Rattle.std.proofs.Common.{◌≡◌, length, arith, rules}
use Rattle.layout.specs.Layouts.{rank_limit}
use Rattle.job_writer.proofs.Parts.{length-view}
use Rattle.job_writer.proofs.view_size.Goals as goal

pub returns : goal.returns
returns c =
    let es : length c.args.view.layout.extents ≡ rank_limit = search rules in
    let ss : length c.args.view.layout.strides ≡ rank_limit = search rules in
    let l = length-view c.args.view es ss in
    record { is = omega (arith, c.layout_size.ensures, c.min.ensures); most = omega (arith, c.layout_size.ensures, c.min.ensures) }
