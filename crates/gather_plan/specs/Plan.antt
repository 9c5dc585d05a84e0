-- To be believed. The plan of a gather by value, and what compile gives: document 01, "The window read". Definitions only.
use Rattle.std.specs.Prelude.{cond, List, [], ◌∷◌, ℕ, eqb, length, get_or, replicate, ℤ, pos, ◌*ℤ◌, Ok}
use Rattle.indexing.specs.Coordinates.{rank, product, pick, tabulate}
use Rattle.indexing.specs.Gather.{Gather, shown_dims}
use Rattle.indexing.specs.Steps.{vector_stride, window_steps, batch_steps}
use Rattle.layout.specs.Answers.{is_done, Answer}
use Rattle.layout.specs.Spans.{reset}
use Rattle.layout.specs.Layouts.{rank_limit, padded, layout_of, extents_of, strides_of}
use Rattle.axis_lists.specs.Held.{numbers_of, held_numbers, held_steps}
use Rattle.checks.specs.Nothing.{no_layout, no_numbers, no_steps}
use Rattle.gather_checks.specs.Refusals.{gather_from, refusal_of, compile_refusal}
use Rattle.gather_plan.specs.declared.Role.{Role}
use Rattle.gather_plan.specs.declared.Role.TheVariants.{Batch, Window}
use Rattle.gather_plan.specs.declared.GatherReplayAxis.{GatherReplayAxis}
use Rattle.gather_plan.specs.declared.GatherPlan.{GatherPlan}
use Rattle.gather_plan.specs.declared.CompiledGather.{CompiledGather}

-- "Each destination axis has a role": "axes in `offset_dims` show, in list order, the operand axes that are not collapsed; the rest are batch axes"
unfoldable pub role_of : List ℕ → List ℕ → ℕ → Role
role_of [] shown a = Batch
role_of (b ∷ offsets) [] a = Batch
role_of (b ∷ offsets) (k ∷ shown) a = cond (eqb b a) (Window k) (role_of offsets shown a)

-- an axis: its role, and its steps in the destination, in the operand and in the index view, with the reset of each at its extent
abbrev pub axis_with : (ℕ → ℤ → ℤ) → Role → ℕ → ℤ → ℤ → ℤ → GatherReplayAxis
axis_with back role d s w b =
    record {
      role = role;
      dest_step = s;
      dest_reset = back d s;
      window_step = w;
      window_reset = back d w;
      index_batch_step = b;
      index_batch_reset = back d b;
    }

-- axis a of a gather's destination
abbrev pub axis_of : Gather → ℕ → GatherReplayAxis
axis_of g a = axis_with reset (role_of g.spec.offset-dims (shown_dims g) a) (get_or g.result.extents a 0) (get_or g.result.strides a (pos 0)) (get_or (window_steps g) a (pos 0)) (get_or (batch_steps g) a (pos 0))

-- what stands past the last axis
abbrev pub no_axis : GatherReplayAxis
no_axis = record { role = Batch; dest_step = pos 0; dest_reset = pos 0; window_step = pos 0; window_reset = pos 0; index_batch_step = pos 0; index_batch_reset = pos 0 }

-- THE PLAN of a gather: its layouts, its spec, its axes; of each component the vector axis's stride times c, and the operand's stride
-- on the axis that it starts the window on; how many cells the destination has
abbrev pub plan_of : Gather → GatherPlan
plan_of g =
    record {
      operand = layout_of g.operand.extents g.operand.strides;
      index = layout_of g.indices.extents g.indices.strides;
      dest = layout_of g.result.extents g.result.strides;
      offset_dims = held_numbers g.spec.offset-dims;
      collapsed_slice_dims = held_numbers g.spec.collapsed-slice-dims;
      start_index_map = held_numbers g.spec.start-index-map;
      index_vector_dim = g.spec.index-vector-dim;
      slice_sizes = held_numbers g.spec.slice-sizes;
      axes = padded rank_limit no_axis (tabulate (rank g.result) (axis_of g));
      index_component_offsets = held_steps (tabulate (length g.spec.start-index-map) (λ c. vector_stride g.indices g.spec.index-vector-dim *ℤ pos c));
      index_operand_strides = held_steps (pick (pos 0) g.spec.start-index-map g.operand.strides);
      total = product g.result.extents;
    }

-- "no plan is given": what stands in its place, of no axes
abbrev pub refused_plan : GatherPlan
refused_plan =
    record {
      operand = no_layout;
      index = no_layout;
      dest = no_layout;
      offset_dims = no_numbers;
      collapsed_slice_dims = no_numbers;
      start_index_map = no_numbers;
      index_vector_dim = 0;
      slice_sizes = no_numbers;
      axes = replicate rank_limit no_axis;
      index_component_offsets = no_steps;
      index_operand_strides = no_steps;
      total = 0;
    }

abbrev pub refused_gather : Answer → CompiledGather
refused_gather x = record { answer = x; plan = refused_plan }

-- what compile gives, by its refusal: that, and the plan where there is none
unfoldable pub compiled_by : Answer → Gather → CompiledGather
compiled_by x g = record { answer = x; plan = cond (is_done x) (plan_of g) refused_plan }

abbrev pub compiled_gather : Gather → CompiledGather
compiled_gather g = compiled_by (compile_refusal g) g

-- "4 not tried again"
abbrev pub compiled_again : Gather → CompiledGather
compiled_again g = compiled_by (refusal_of (Ok tt) g) g

-- the gather that the layouts and the spec in a plan describe
abbrev pub held_gather : GatherPlan → Gather
held_gather p =
    gather_from (extents_of p.operand) (strides_of p.operand) (extents_of p.index) (strides_of p.index) (extents_of p.dest) (strides_of p.dest)
    (numbers_of p.offset_dims) (numbers_of p.collapsed_slice_dims) (numbers_of p.start_index_map) p.index_vector_dim (numbers_of p.slice_sizes)
