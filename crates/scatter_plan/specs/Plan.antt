-- To be believed. The plan of a scatter by value, and what compile gives: document 01, "The updates added". Definitions only.
use Rattle.std.specs.Prelude.{cond, length, pos, ◌*ℤ◌, Ok}
use Rattle.indexing.specs.Coordinates.{product, pick, tabulate}
use Rattle.indexing.specs.Scatter.{Scatter, batch_shape, window_shape, windows}
use Rattle.indexing.specs.Steps.{vector_stride}
use Rattle.layout.specs.Answers.{is_done, Answer}
use Rattle.layout.specs.Layouts.{layout_of, extents_of, strides_of}
use Rattle.axis_lists.specs.Held.{numbers_of, held_numbers, held_steps}
use Rattle.checks.specs.Nothing.{no_layout, no_numbers, no_steps}
use Rattle.replay.specs.declared.WindowReplay.{WindowReplay}
use Rattle.replay.specs.Replays.{refused_replay}
use Rattle.scatter_checks.specs.Refusals.{scatter_from, batch_walk, window_walk, refusal_of, compile_refusal}
use Rattle.scatter_plan.specs.declared.ScatterPlan.{ScatterPlan}
use Rattle.scatter_plan.specs.declared.CompiledScatter.{CompiledScatter}

-- THE PLAN of a scatter: its layouts, its spec, the walk from batch to batch and the one from cell to cell of a window; the window's
-- extent on each operand axis; of each component the vector axis's stride times c, and the destination's stride on the axis that it
-- starts the window on; how many batches there are, and how many cells in a window
abbrev pub plan_of : Scatter → ScatterPlan
plan_of s =
    record {
      index = layout_of s.indices.extents s.indices.strides;
      updates = layout_of s.updates.extents s.updates.strides;
      dest = layout_of s.result.extents s.result.strides;
      update_window_dims = held_numbers s.spec.update-window-dims;
      inserted_window_dims = held_numbers s.spec.inserted-window-dims;
      scatter_dims_to_operand_dims = held_numbers s.spec.scatter-dims-to-operand-dims;
      index_vector_dim = s.spec.index-vector-dim;
      batch = (batch_walk s).replay;
      window = (window_walk s).replay;
      window_shape = held_numbers (windows s);
      index_component_offsets = held_steps (tabulate (length s.spec.scatter-dims-to-operand-dims) (λ c. vector_stride s.indices s.spec.index-vector-dim *ℤ pos c));
      index_operand_strides = held_steps (pick (pos 0) s.spec.scatter-dims-to-operand-dims s.result.strides);
      batch_elems = product (batch_shape s);
      window_elems = product (window_shape s);
    }

-- "no plan is given": what stands in its place, of no axes
abbrev pub no_walk : WindowReplay
no_walk = refused_replay.replay

abbrev pub refused_plan : ScatterPlan
refused_plan =
    record {
      index = no_layout;
      updates = no_layout;
      dest = no_layout;
      update_window_dims = no_numbers;
      inserted_window_dims = no_numbers;
      scatter_dims_to_operand_dims = no_numbers;
      index_vector_dim = 0;
      batch = no_walk;
      window = no_walk;
      window_shape = no_numbers;
      index_component_offsets = no_steps;
      index_operand_strides = no_steps;
      batch_elems = 0;
      window_elems = 0;
    }

abbrev pub refused_scatter : Answer → CompiledScatter
refused_scatter x = record { answer = x; plan = refused_plan; batch_axes = refused_replay.axes; window_axes = refused_replay.axes }

-- what compile gives, by its refusal: that, and where there is none the plan, with the axes of its walks beside it
unfoldable pub compiled_by : Answer → Scatter → CompiledScatter
compiled_by x s =
    record {
      answer = x;
      plan = cond (is_done x) (plan_of s) refused_plan;
      batch_axes = cond (is_done x) (batch_walk s).axes refused_replay.axes;
      window_axes = cond (is_done x) (window_walk s).axes refused_replay.axes;
    }

abbrev pub compiled_scatter : Scatter → CompiledScatter
compiled_scatter s = compiled_by (compile_refusal s) s

-- "4 not tried again"
abbrev pub compiled_again : Scatter → CompiledScatter
compiled_again s = compiled_by (refusal_of (Ok tt) s) s

-- the scatter that the layouts and the spec in a plan describe
abbrev pub held_scatter : ScatterPlan → Scatter
held_scatter p =
    scatter_from (extents_of p.index) (strides_of p.index) (extents_of p.updates) (strides_of p.updates) (extents_of p.dest) (strides_of p.dest)
    (numbers_of p.update_window_dims) (numbers_of p.inserted_window_dims) (numbers_of p.scatter_dims_to_operand_dims) p.index_vector_dim
