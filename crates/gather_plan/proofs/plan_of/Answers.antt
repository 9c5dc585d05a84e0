use Rattle.std.proofs.Common.{rules, length, min, ap, ◌∙◌, ℤ, w64}
use mir.Val.{SFits}
use Rattle.integer.specs.Z.{back}
use Rattle.indexing.specs.Coordinates.{tabulate}
use Rattle.indexing.specs.Gather.{Gather}
use Rattle.layout.specs.Layouts.{rank_limit}
use Rattle.axis_lists.specs.Held.{held_steps}
use Rattle.checks.specs.Values.{offset_or}
use Rattle.gather_checks.specs.Refusals.{gather_from}
use Rattle.gather_plan.proofs.Planned.{fits, plan-is}
use Rattle.gather_plan.proofs.plan_of.Goals as goal

pub axes_of-axes-requires : goal.axes_of-axes-requires
axes_of-axes-requires c =
    let a = c.args in
    (fits (gather_from a.operand_extents.now a.operand_strides.now a.index_extents.now a.index_strides.now a.dest_extents.now a.dest_strides.now a.offset_dims.now a.collapsed_slice_dims.now a.start_index_map.now a.index_vector_dim a.slice_sizes.now) _ _ c.requires).dest-rank

pub returns : goal.returns
returns c =
    let a = c.args in
    let g : Gather = gather_from a.operand_extents.now a.operand_strides.now a.index_extents.now a.index_strides.now a.dest_extents.now a.dest_strides.now a.offset_dims.now a.collapsed_slice_dims.now a.start_index_map.now a.index_vector_dim a.slice_sizes.now in
    let f : SFits w64 c.stride_at-stride.result = search rules in
    let o = c.index_component_offsets-offsets.ensures ∙ ap (λ (z : ℤ). held_steps (tabulate (min (length a.start_index_map.now) rank_limit) (offset_or z))) (back f ∙ c.stride_at-stride.ensures) in
    plan-is g a.window a.batch c.requires _ _ _ _ _ _ _ _ _ _ _ _ c.make_layout.ensures c.make_layout-2.ensures c.make_layout-3.ensures c.other_axes-shown.ensures c.axes_of-axes.ensures o c.strides_on-entries.ensures c.from_slice.ensures c.from_slice-2.ensures c.from_slice-3.ensures c.from_slice-4.ensures c.total_value-total.ensures
