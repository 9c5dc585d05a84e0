-- To be believed. Whether two plans are the same, and whether a plan is compiled. Definitions only.
use Rattle.std.specs.Prelude.{Bool, ◌&&◌, List, eqb, ℤ}
use Rattle.integer.specs.Defs.{eq_z}
use Rattle.layout.specs.Answers.{is_done}
use Rattle.equality.specs.Same.{same_by, same_layout, same_numbers, same_steps}
use Rattle.replay.specs.declared.ReplaySpans.{ReplaySpans}
use Rattle.replay.specs.declared.WindowReplay.{WindowReplay}
use Rattle.replay.specs.Replays.{rows_of}
use Rattle.scatter_plan.specs.declared.ScatterPlan.{ScatterPlan}
use Rattle.scatter_plan.specs.declared.CompiledScatter.{CompiledScatter}
use Rattle.scatter_plan.specs.Plan.{compiled_again, held_scatter}

-- field by field, arrays past their counts as well: a walk's spans, the walk
unfoldable pub same_spans : ReplaySpans → ReplaySpans → Bool
same_spans a b =
    eq_z a.source_low b.source_low && (eq_z a.source_high b.source_high
    && (eq_z a.dest_low b.dest_low && eq_z a.dest_high b.dest_high))

unfoldable pub same_replay : WindowReplay → WindowReplay → Bool
same_replay a b = eqb a.rank b.rank && (same_by eqb a.extents b.extents && same_spans a.spans b.spans)

-- whether two plans are the same (`same-plan-decides`)
unfoldable pub same_plan : ScatterPlan → ScatterPlan → Bool
same_plan a b =
    same_layout a.index b.index && (same_layout a.updates b.updates && (same_layout a.dest b.dest
    && (same_numbers a.update_window_dims b.update_window_dims
    && (same_numbers a.inserted_window_dims b.inserted_window_dims
    && (same_numbers a.scatter_dims_to_operand_dims b.scatter_dims_to_operand_dims
    && (eqb a.index_vector_dim b.index_vector_dim
    && (same_replay a.batch b.batch && (same_replay a.window b.window
    && (same_numbers a.window_shape b.window_shape
    && (same_steps a.index_component_offsets b.index_component_offsets
    && (same_steps a.index_operand_strides b.index_operand_strides
    && (eqb a.batch_elems b.batch_elems && eqb a.window_elems b.window_elems))))))))))))

-- whether two walks' rows are the same (`rows-decide`)
abbrev pub same_rows : List (List ℤ) → List (List ℤ) → Bool
same_rows = same_by (same_by eq_z)

-- "The steps of a `WindowReplay` walk are rows, one per axis, four numbers in a row, held beside the plan's struct"
unfoldable pub has_rows : CompiledScatter → List (List ℤ) → List (List ℤ) → Bool
has_rows c b w = same_rows b (rows_of c.batch_axes) && same_rows w (rows_of c.window_axes)

-- "the plan is .. what compile gives for the layouts and spec in it, 4 not tried again", and the rows are those that it gives beside it
unfoldable pub is_compiled : ScatterPlan → List (List ℤ) → List (List ℤ) → Bool
is_compiled p b w =
    is_done (compiled_again (held_scatter p)).answer && (same_plan p (compiled_again (held_scatter p)).plan && has_rows (compiled_again (held_scatter p)) b w)
