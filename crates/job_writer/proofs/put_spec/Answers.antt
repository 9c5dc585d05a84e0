use Rattle.std.proofs.Common.{arith}
use Rattle.job_writer.proofs.Parts.{put-spec-is, put_same, length_spec}
use Rattle.job_writer.proofs.put_spec.Goals as goal

pub put_list-unit-requires : goal.put_list-unit-requires
put_list-unit-requires c =
    let s = length_spec c.args.kind c.args.spec in
    omega arith

pub put_list-map-requires : goal.put_list-map-requires
put_list-map-requires c =
    let s = length_spec c.args.kind c.args.spec in
    let same1 = put_same c.put_list-unit.ensures in
    let next1 = c.put_list-unit.ensures.place in
    omega arith

pub put_list-vector-requires : goal.put_list-vector-requires
put_list-vector-requires c =
    let s = length_spec c.args.kind c.args.spec in
    let same1 = put_same c.put_list-unit.ensures in
    let next1 = c.put_list-unit.ensures.place in
    let same2 = put_same c.put_list-map.ensures in
    let next2 = c.put_list-map.ensures.place in
    omega arith

pub put_number-requires : goal.put_number-requires
put_number-requires c =
    let s = length_spec c.args.kind c.args.spec in
    let same1 = put_same c.put_list-unit.ensures in
    let next1 = c.put_list-unit.ensures.place in
    let same2 = put_same c.put_list-map.ensures in
    let next2 = c.put_list-map.ensures.place in
    let same3 = put_same c.put_list-vector.ensures in
    let next3 = c.put_list-vector.ensures.place in
    (omega arith, omega arith)

pub overflow_add-vector : goal.overflow_add-vector
overflow_add-vector c =
    let s = length_spec c.args.kind c.args.spec in
    let same1 = put_same c.put_list-unit.ensures in
    let next1 = c.put_list-unit.ensures.place in
    let same2 = put_same c.put_list-map.ensures in
    let next2 = c.put_list-map.ensures.place in
    let same3 = put_same c.put_list-vector.ensures in
    let next3 = c.put_list-vector.ensures.place in
    omega arith

pub put_sizes-requires : goal.put_sizes-requires
put_sizes-requires c =
    let s = length_spec c.args.kind c.args.spec in
    let same1 = put_same c.put_list-unit.ensures in
    let next1 = c.put_list-unit.ensures.place in
    let same2 = put_same c.put_list-map.ensures in
    let next2 = c.put_list-map.ensures.place in
    let same3 = put_same c.put_list-vector.ensures in
    let next3 = c.put_list-vector.ensures.place in
    omega arith

pub returns : goal.returns
returns c =
    put-spec-is _ _ _ _ _ _ _ _ _ _ _ _ _ c.put_list-unit.ensures c.put_list-map.ensures c.put_list-vector.ensures c.put_number.ensures c.put_sizes.ensures
