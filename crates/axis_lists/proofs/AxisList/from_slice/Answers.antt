use Rattle.std.proofs.Common.{refl}
use Rattle.axis_lists.proofs.Filling.{list-is, stored-at-once}
use Rattle.axis_lists.proofs.AxisList.from_slice.Goals as goal

pub returns : goal.returns
returns g c = list-is c.args.rest _ _ c.args.list.now refl (stored-at-once c.args.rest c.axis_count-n.result c.copy_from_slice.new.self c.args.list.now c.axis_count-n.ensures c.copy_from_slice.ensures.after)
