use mathlib.Core.Path.{ap, ◌∙◌}
use Prim.Native.Nat.{min}
use borrow.Author.Rules.{rules}
use lib.ListN.{length}
use lib.IntN.{ℤ}
use mir.Syntax.{w64}
use mir.Val.{SFits}
use Rattle.integer.specs.Z.{back}
use Rattle.indexing.specs.Coordinates.{tabulate}
use Rattle.layout.specs.Layouts.{rank_limit}
use Rattle.axis_lists.specs.Held.{held_steps}
use Rattle.checks.specs.Values.{offset_or}
use Rattle.scatter_checks.specs.Refusals.{scatter_from}
use Rattle.scatter_lists.proofs.Lent.{fits, counted, numbers-are}
use Rattle.scatter_lists.proofs.numbers_on.Statement.{statement}
use Rattle.scatter_lists.proofs.numbers_on.Tie as tie

limits-by-requires : tie.Need-limits_by-limits-requires
limits-by-requires c κs = let s = c in ((fits (scatter_from s.args.index_extents.now s.args.index_strides.now s.args.updates_extents.now s.args.updates_strides.now s.args.dest_extents.now s.args.dest_strides.now s.args.update_window_dims.now s.args.inserted_window_dims.now s.args.scatter_dims_to_operand_dims.now s.args.index_vector_dim) _ _ s.requires).dest-rank, counted (scatter_from s.args.index_extents.now s.args.index_strides.now s.args.updates_extents.now s.args.updates_strides.now s.args.dest_extents.now s.args.dest_strides.now s.args.update_window_dims.now s.args.inserted_window_dims.now s.args.scatter_dims_to_operand_dims.now s.args.index_vector_dim) _ _ s.requires)

batch-elems-requires : tie.Need-batch_elems-batches-requires
batch-elems-requires c κs = let s = c in (fits (scatter_from s.args.index_extents.now s.args.index_strides.now s.args.updates_extents.now s.args.updates_strides.now s.args.dest_extents.now s.args.dest_strides.now s.args.update_window_dims.now s.args.inserted_window_dims.now s.args.scatter_dims_to_operand_dims.now s.args.index_vector_dim) _ _ s.requires).updates-rank

returns : tie.Need-returns
returns c =
    let s = c in
    let f : SFits w64 c.stride_at-stride.result = search rules in
    let o = c.index_component_offsets-index_component_offsets.ensures ∙ ap (λ (z : ℤ). held_steps (tabulate (min (length s.args.scatter_dims_to_operand_dims.now) rank_limit) (offset_or z))) (back f ∙ c.stride_at-stride.ensures) in
    numbers-are (scatter_from s.args.index_extents.now s.args.index_strides.now s.args.updates_extents.now s.args.updates_strides.now s.args.dest_extents.now s.args.dest_strides.now s.args.update_window_dims.now s.args.inserted_window_dims.now s.args.scatter_dims_to_operand_dims.now s.args.index_vector_dim) s.args.from_batch s.args.from_cell s.requires _ _ _ _ _ _ _ _ _ _ _ c.rows_of-batch_rows.ensures c.rows_of-window_rows.ensures c.source_steps-index.ensures c.unless_none-stepped.ensures c.dest_steps-update_steps.ensures c.source_steps-window_steps.ensures c.dest_steps-steps.ensures o c.strides_on-strides.ensures c.limits_by-limits.ensures c.batch_elems-batches.ensures

pub numbers_on_spec : {M : Type 1} → statement M
numbers_on_spec =
    tie.close
    (tie.spec
    (λ c κs. tt)
    (λ c κs. tt)
    (λ c κs. tt)
    (λ c κs. tt)
    (λ c κs. tt)
    (λ c κs. tt)
    (λ c κs. tt)
    (λ c κs. tt)
    (λ c κs. tt)
    (λ c κs. tt)
    limits-by-requires
    batch-elems-requires
    returns)
