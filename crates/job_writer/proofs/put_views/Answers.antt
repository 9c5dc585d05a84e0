use Rattle.std.proofs.Common.{arith}
use Rattle.job_writer.proofs.Parts.{put-views-is, put_same, length-views}
use Rattle.job_writer.proofs.put_views.Goals as goal

pub put_view-second-requires : goal.put_view-second-requires
put_view-second-requires c =
    let s = length-views c.args.views in
    omega arith

pub put_view-third-requires : goal.put_view-third-requires
put_view-third-requires c =
    let s = length-views c.args.views in
    let same1 = put_same c.put_view-second.ensures in
    let next1 = c.put_view-second.ensures.place in
    omega arith

pub put_view-requires : goal.put_view-requires
put_view-requires c =
    let s = length-views c.args.views in
    let same1 = put_same c.put_view-second.ensures in
    let next1 = c.put_view-second.ensures.place in
    let same2 = put_same c.put_view-third.ensures in
    let next2 = c.put_view-third.ensures.place in
    omega arith

pub returns : goal.returns
returns c =
    put-views-is _ _ _ _ _ _ _ _ _ c.put_view-second.ensures c.put_view-third.ensures c.put_view.ensures
