use Rattle.std.proofs.Common.{rules, length, min, ap, ◌∙◌, ℤ, w64}
use mir.Val.{SFits}
use Rattle.integer.specs.Z.{back}
use Rattle.indexing.specs.Coordinates.{tabulate}
use Rattle.indexing.specs.Scatter.{Scatter}
use Rattle.layout.specs.Layouts.{rank_limit}
use Rattle.axis_lists.specs.Held.{held_steps}
use Rattle.checks.specs.Values.{offset_or}
use Rattle.scatter_checks.specs.Refusals.{scatter_from}
use Rattle.scatter_plan.proofs.Planned.{fits, plan-is}
use Rattle.scatter_plan.proofs.plan_of.Goals as goal

pub windows_of-windows-requires : goal.windows_of-windows-requires
windows_of-windows-requires c =
    let a = c.args in
    let f = fits (scatter_from a.index_extents.now a.index_strides.now a.updates_extents.now a.updates_strides.now a.dest_extents.now a.dest_strides.now a.window.now a.inserted.now a.map.now a.vector) _ _ c.requires in
    (f.dest-rank, f.window-few)

pub batch_elems-batches-requires : goal.batch_elems-batches-requires
batch_elems-batches-requires c = let a = c.args in (fits (scatter_from a.index_extents.now a.index_strides.now a.updates_extents.now a.updates_strides.now a.dest_extents.now a.dest_strides.now a.window.now a.inserted.now a.map.now a.vector) _ _ c.requires).updates-rank

pub product_value-cells-requires : goal.product_value-cells-requires
product_value-cells-requires c = let a = c.args in (fits (scatter_from a.index_extents.now a.index_strides.now a.updates_extents.now a.updates_strides.now a.dest_extents.now a.dest_strides.now a.window.now a.inserted.now a.map.now a.vector) _ _ c.requires).window-few

pub returns : goal.returns
returns c =
    let a = c.args in
    let s : Scatter = scatter_from a.index_extents.now a.index_strides.now a.updates_extents.now a.updates_strides.now a.dest_extents.now a.dest_strides.now a.window.now a.inserted.now a.map.now a.vector in
    let f : SFits w64 c.stride_at-stride.result = search rules in
    let o = c.index_component_offsets-offsets.ensures ∙ ap (λ (z : ℤ). held_steps (tabulate (min (length a.map.now) rank_limit) (offset_or z))) (back f ∙ c.stride_at-stride.ensures) in
    plan-is s a.from_batch a.from_cell c.requires _ _ _ _ _ _ _ _ _ _ _ c.make_layout-first.ensures c.make_layout-second.ensures c.make_layout-third.ensures c.windows_of-windows.ensures o c.strides_on-entries.ensures c.from_slice.ensures c.from_slice-2.ensures c.from_slice-3.ensures c.batch_elems-batches.ensures c.product_value-cells.ensures
