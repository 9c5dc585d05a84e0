use mathlib.Core.Path.{ap₂, ◌∙◌}
use mathlib.Core.Bool.{◌&&◌}
use Rattle.integer.specs.Z.{back}
use Rattle.calls.specs.Calls.{view_with}
use Rattle.scatter_checks.specs.Refusals.{scatter_from}
use Rattle.scatter_lists.proofs.Lent.{same-views, other-views}
use Rattle.scatter_lists.proofs.prepare_views.Goals as goal

pub returns-then-same : goal.returns-then-same
returns-then-same c =
    let s = c in
    same-views (scatter_from s.args.index_extents.now s.args.index_strides.now s.args.updates_extents.now s.args.updates_strides.now s.args.dest_extents.now s.args.dest_strides.now s.args.update_window_dims.now s.args.inserted_window_dims.now s.args.scatter_dims_to_operand_dims.now s.args.index_vector_dim) (view_with s.args.index_view_extents.now s.args.index_view_strides.now s.args.index_offset) (view_with s.args.updates_view_extents.now s.args.updates_view_strides.now s.args.updates_offset) (view_with s.args.dest_view_extents.now s.args.dest_view_strides.now s.args.dest_offset) s.args.starts_len s.args.updates_len s.args.dest_len _ (ap₂ ◌&&◌ c.same_view-first.ensures (ap₂ ◌&&◌ c.same_view-second.ensures c.same_view-third.ensures)) c.if-same.true (simp (back s.ranges.index_offset, back s.ranges.updates_offset, back s.ranges.dest_offset) at c.prepare.ensures)

pub returns : goal.returns
returns c =
    let s = c in
    other-views (scatter_from s.args.index_extents.now s.args.index_strides.now s.args.updates_extents.now s.args.updates_strides.now s.args.dest_extents.now s.args.dest_strides.now s.args.update_window_dims.now s.args.inserted_window_dims.now s.args.scatter_dims_to_operand_dims.now s.args.index_vector_dim) (view_with s.args.index_view_extents.now s.args.index_view_strides.now s.args.index_offset) (view_with s.args.updates_view_extents.now s.args.updates_view_strides.now s.args.updates_offset) (view_with s.args.dest_view_extents.now s.args.dest_view_strides.now s.args.dest_offset) s.args.starts_len s.args.updates_len s.args.dest_len _ (ap₂ ◌&&◌ c.same_view-first.ensures (ap₂ ◌&&◌ c.same_view-second.ensures c.same_view-third.ensures)) c.if-same.false c.scatter_refusal-refusal.ensures c.or_else-answer.ensures c.refused.ensures
