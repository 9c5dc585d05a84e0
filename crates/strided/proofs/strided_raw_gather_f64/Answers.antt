use Rattle.std.specs.Float.{nan}
use Rattle.integer.specs.Z.{back}
use Rattle.calls.specs.Calls.{view_with}
use Rattle.gather_checks.specs.Refusals.{gather_from}
use Rattle.gather_lists.specs.Lists.{by_lists}
use Rattle.gather_move.proofs.Parts.{movable}
use Rattle.strided.proofs.Calls.{gather-handed}
use Rattle.strided.proofs.strided_raw_gather_f64.Goals as goal

pub move_elements-r-requires : goal.move_elements-r-requires
move_elements-r-requires c = movable (simp (back c.ranges.operand_offset, back c.ranges.index_offset, back c.ranges.dest_offset) at c.prepare_views-p.ensures)

pub returns : goal.returns
returns c = gather-handed nan (by_lists (gather_from c.args.operand_extents.now c.args.operand_strides.now c.args.index_extents.now c.args.index_strides.now c.args.dest_extents.now c.args.dest_strides.now c.args.offset_dims.now c.args.collapsed_slice_dims.now c.args.start_index_map.now c.args.index_vector_dim c.args.slice_sizes.now) (view_with c.args.operand_view_extents.now c.args.operand_view_strides.now c.args.operand_offset) (view_with c.args.index_view_extents.now c.args.index_view_strides.now c.args.index_offset) (view_with c.args.dest_view_extents.now c.args.dest_view_strides.now c.args.dest_offset) c.args.starts.now) _ c.args.operand.now c.args.dest.now _ _ _ (simp (back c.ranges.operand_offset, back c.ranges.index_offset, back c.ranges.dest_offset) at c.prepare_views-p.ensures) c.move_elements-r.ensures c.words_of.ensures
