-- To be believed. Whether two plans are the same, and whether a plan is compiled. Definitions only.
use Rattle.std.specs.Prelude.{Bool, true, false, ◌&&◌, eqb}
use Rattle.integer.specs.Defs.{eq_z}
use Rattle.layout.specs.Answers.{is_done}
use Rattle.equality.specs.Same.{same_by, same_layout, same_numbers, same_steps}
use Rattle.gather_plan.specs.declared.Role.{Role}
use Rattle.gather_plan.specs.declared.Role.TheVariants.{Batch, Window}
use Rattle.gather_plan.specs.declared.GatherReplayAxis.{GatherReplayAxis}
use Rattle.gather_plan.specs.declared.GatherPlan.{GatherPlan}
use Rattle.gather_plan.specs.Plan.{compiled_again, held_gather}

-- field by field, arrays past their counts as well
abbrev pub same_role : Role → Role → Bool
same_role Batch Batch = true
same_role Batch (Window y) = false
same_role (Window x) Batch = false
same_role (Window x) (Window y) = eqb x y

unfoldable pub same_axis : GatherReplayAxis → GatherReplayAxis → Bool
same_axis a b =
    same_role a.role b.role
    && (eq_z a.dest_step b.dest_step && (eq_z a.dest_reset b.dest_reset
    && (eq_z a.window_step b.window_step && (eq_z a.window_reset b.window_reset
    && (eq_z a.index_batch_step b.index_batch_step && eq_z a.index_batch_reset b.index_batch_reset)))))

-- whether two plans are the same (`same-plan-decides`)
unfoldable pub same_plan : GatherPlan → GatherPlan → Bool
same_plan a b =
    same_layout a.operand b.operand && (same_layout a.index b.index && (same_layout a.dest b.dest
    && (same_numbers a.offset_dims b.offset_dims
    && (same_numbers a.collapsed_slice_dims b.collapsed_slice_dims
    && (same_numbers a.start_index_map b.start_index_map
    && (eqb a.index_vector_dim b.index_vector_dim && (same_numbers a.slice_sizes b.slice_sizes
    && (same_by same_axis a.axes b.axes
    && (same_steps a.index_component_offsets b.index_component_offsets
    && (same_steps a.index_operand_strides b.index_operand_strides && eqb a.total b.total))))))))))

-- "the plan is .. what compile gives for the layouts and spec in it, 4 not tried again"
unfoldable pub is_compiled : GatherPlan → Bool
is_compiled p = is_done (compiled_again (held_gather p)).answer && same_plan p (compiled_again (held_gather p)).plan
