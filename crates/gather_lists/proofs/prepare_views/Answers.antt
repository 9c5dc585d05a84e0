use mathlib.Core.Path.{ap₂}
use mathlib.Core.Bool.{◌&&◌}
use Rattle.integer.specs.Z.{back}
use Rattle.calls.specs.Calls.{view_with}
use Rattle.gather_checks.specs.Refusals.{gather_from}
use Rattle.gather_lists.proofs.Lent.{same-views, other-views}
use Rattle.gather_lists.proofs.prepare_views.Goals as goal

pub returns-then-same : goal.returns-then-same
returns-then-same c =
    let s = c in
    same-views (gather_from s.args.operand_extents.now s.args.operand_strides.now s.args.index_extents.now s.args.index_strides.now s.args.dest_extents.now s.args.dest_strides.now s.args.offset_dims.now s.args.collapsed_slice_dims.now s.args.start_index_map.now s.args.index_vector_dim s.args.slice_sizes.now) (view_with s.args.operand_view_extents.now s.args.operand_view_strides.now s.args.operand_offset) (view_with s.args.index_view_extents.now s.args.index_view_strides.now s.args.index_offset) (view_with s.args.dest_view_extents.now s.args.dest_view_strides.now s.args.dest_offset) s.args.operand_len s.args.starts_len s.args.dest_len _ (ap₂ ◌&&◌ c.same_view-first.ensures (ap₂ ◌&&◌ c.same_view-second.ensures c.same_view-third.ensures)) c.if-same.true (simp (back s.ranges.operand_offset, back s.ranges.index_offset, back s.ranges.dest_offset) at c.prepare.ensures)

pub returns : goal.returns
returns c =
    let s = c in
    other-views (gather_from s.args.operand_extents.now s.args.operand_strides.now s.args.index_extents.now s.args.index_strides.now s.args.dest_extents.now s.args.dest_strides.now s.args.offset_dims.now s.args.collapsed_slice_dims.now s.args.start_index_map.now s.args.index_vector_dim s.args.slice_sizes.now) (view_with s.args.operand_view_extents.now s.args.operand_view_strides.now s.args.operand_offset) (view_with s.args.index_view_extents.now s.args.index_view_strides.now s.args.index_offset) (view_with s.args.dest_view_extents.now s.args.dest_view_strides.now s.args.dest_offset) s.args.operand_len s.args.starts_len s.args.dest_len _ (ap₂ ◌&&◌ c.same_view-first.ensures (ap₂ ◌&&◌ c.same_view-second.ensures c.same_view-third.ensures)) c.if-same.false c.gather_refusal-refusal.ensures c.or_else-answer.ensures c.refused.ensures
