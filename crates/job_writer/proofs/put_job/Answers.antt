use Rattle.std.proofs.Common.{arith}
use Rattle.job_writer.proofs.Parts.{no_room, put-job-is, put_same, length-body}
use Rattle.job_writer.proofs.put_job.Goals as goal

pub returns-then-out-size : goal.returns-then-out-size
returns-then-out-size c =
    no_room _ _ c.body_size-size.ensures.is _ c.if-out-size.true

pub put_number-requires-2 : goal.put_number-requires-2
put_number-requires-2 c =
    let s = c.body_size-size.ensures.is in
    let l = length-body c.args.job in
    (omega arith, omega arith)

pub put_number-requires-3 : goal.put_number-requires-3
put_number-requires-3 c =
    let s = c.body_size-size.ensures.is in
    let l = length-body c.args.job in
    (omega arith, omega arith)

pub put_number-requires-4 : goal.put_number-requires-4
put_number-requires-4 c =
    let s = c.body_size-size.ensures.is in
    let l = length-body c.args.job in
    (omega arith, omega arith)

pub put_views-next-requires : goal.put_views-next-requires
put_views-next-requires c =
    let s = c.body_size-size.ensures.is in
    let l = length-body c.args.job in
    omega arith

pub put_spec-requires : goal.put_spec-requires
put_spec-requires c =
    let s = c.body_size-size.ensures.is in
    let l = length-body c.args.job in
    let same1 = put_same c.put_views-next.ensures in
    let next1 = c.put_views-next.ensures.place in
    omega arith

pub returns : goal.returns
returns c =
    put-job-is _ _ c.body_size-size.ensures.is _ _ _ _ _ _ _ _ _ _ _ c.from.ensures c.from-2.ensures c.if-out-size.false c.put_number.ensures c.put_number-2.ensures c.put_number-3.ensures c.put_number-4.ensures c.put_views-next.ensures c.put_spec.ensures
