use mathlib.Core.Path.{ap, ◌∙◌}
use Prim.Native.Nat.{min}
use borrow.Author.Rules.{rules}
use lib.ListN.{length}
use lib.IntN.{ℤ}
use mir.Syntax.{w64}
use mir.Val.{SFits}
use Rattle.integer.specs.Z.{back}
use Rattle.indexing.specs.Coordinates.{tabulate}
use Rattle.layout.specs.Layouts.{rank_limit}
use Rattle.axis_lists.specs.Held.{held_steps}
use Rattle.checks.specs.Values.{offset_or}
use Rattle.gather_checks.specs.Refusals.{gather_from}
use Rattle.gather_lists.proofs.Lent.{numbers-are}
use Rattle.gather_lists.proofs.numbers_on.Statement.{statement}
use Rattle.gather_lists.proofs.numbers_on.Tie as tie

returns : tie.Need-returns
returns c =
    let s = c in
    let f : SFits w64 c.stride_at-stride.result = search rules in
    let q = c.index_component_offsets-index_component_offsets.ensures ∙ ap (λ (z : ℤ). held_steps (tabulate (min (length s.args.start_index_map.now) rank_limit) (offset_or z))) (back f ∙ c.stride_at-stride.ensures) in
    numbers-are (gather_from s.args.operand_extents.now s.args.operand_strides.now s.args.index_extents.now s.args.index_strides.now s.args.dest_extents.now s.args.dest_strides.now s.args.offset_dims.now s.args.collapsed_slice_dims.now s.args.start_index_map.now s.args.index_vector_dim s.args.slice_sizes.now) s.args.window s.args.batch c.requires _ _ _ _ _ _ _ q c.strides_on-strides.ensures c.limits_on-limits.ensures c.unless_none-stepped.ensures c.padded_extents-extents.ensures c.batch_extents-batch_extents.ensures c.padded_strides-dest_steps.ensures

pub numbers_on_spec : {M : Type 1} → statement M
numbers_on_spec =
    tie.close
    (tie.spec
    (λ c κs. tt)
    (λ c κs. tt)
    (λ c κs. tt)
    (λ c κs. tt)
    (λ c κs. tt)
    (λ c κs. tt)
    (λ c κs. tt)
    (λ c κs. tt)
    returns)
