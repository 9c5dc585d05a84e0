use mathlib.Core.Path.{sym, ap, ◌∙◌}
use lib.IntN.{ℤ}
use Rattle.integer.specs.Z.{back}
use Rattle.layout.specs.Reach.{view_reach}
use Rattle.scatter_checks.specs.Refusals.{scatter_from}
use Rattle.scatter_lists.proofs.Lent.{fits, first-refusal, second-refusal, prepared}
use Rattle.scatter_lists.proofs.prepare.Statement.{statement}
use Rattle.scatter_lists.proofs.prepare.Tie as tie

returns : tie.Need-returns-then-not-is_done
returns c =
    let s = c in
    first-refusal (scatter_from s.args.index_extents.now s.args.index_strides.now s.args.updates_extents.now s.args.updates_strides.now s.args.dest_extents.now s.args.dest_strides.now s.args.update_window_dims.now s.args.inserted_window_dims.now s.args.scatter_dims_to_operand_dims.now s.args.index_vector_dim) s.args.index_offset s.args.updates_offset s.args.dest_offset s.args.starts_len s.args.updates_len s.args.dest_len _ _ c.refused.ensures c.examine-found.ensures.answered (sym c.is_done.ensures ∙ c.if-not-is_done.true)

reach-of-requires : tie.Need-reach_of-x-requires
reach-of-requires c κs = let s = c in (fits (scatter_from s.args.index_extents.now s.args.index_strides.now s.args.updates_extents.now s.args.updates_strides.now s.args.dest_extents.now s.args.dest_strides.now s.args.update_window_dims.now s.args.inserted_window_dims.now s.args.scatter_dims_to_operand_dims.now s.args.index_vector_dim) _ _ (c.examine-found.ensures.found (sym c.is_done.ensures ∙ c.if-not-is_done.false))).index-strides

reach-of-requires-2 : tie.Need-reach_of-y-requires
reach-of-requires-2 c κs = let s = c in (fits (scatter_from s.args.index_extents.now s.args.index_strides.now s.args.updates_extents.now s.args.updates_strides.now s.args.dest_extents.now s.args.dest_strides.now s.args.update_window_dims.now s.args.inserted_window_dims.now s.args.scatter_dims_to_operand_dims.now s.args.index_vector_dim) _ _ (c.examine-found.ensures.found (sym c.is_done.ensures ∙ c.if-not-is_done.false))).updates-strides

reach-of-requires-3 : tie.Need-reach_of-z-requires
reach-of-requires-3 c κs = let s = c in (fits (scatter_from s.args.index_extents.now s.args.index_strides.now s.args.updates_extents.now s.args.updates_strides.now s.args.dest_extents.now s.args.dest_strides.now s.args.update_window_dims.now s.args.inserted_window_dims.now s.args.scatter_dims_to_operand_dims.now s.args.index_vector_dim) _ _ (c.examine-found.ensures.found (sym c.is_done.ensures ∙ c.if-not-is_done.false))).dest-strides

returns-2 : tie.Need-returns-then-not-is_done-2
returns-2 c =
    let s = c in
    second-refusal (scatter_from s.args.index_extents.now s.args.index_strides.now s.args.updates_extents.now s.args.updates_strides.now s.args.dest_extents.now s.args.dest_strides.now s.args.update_window_dims.now s.args.inserted_window_dims.now s.args.scatter_dims_to_operand_dims.now s.args.index_vector_dim) s.args.index_offset s.args.updates_offset s.args.dest_offset s.args.starts_len s.args.updates_len s.args.dest_len {x = c.reach_of-x.result} {y = c.reach_of-y.result} {z = c.reach_of-z.result} c.examine-found.ensures.answered (sym c.is_done.ensures ∙ c.if-not-is_done.false) (c.reach_of-x.ensures ∙ ap (λ (z : ℤ). view_reach s.args.index_extents.now s.args.index_strides.now z s.args.starts_len) (back s.ranges.index_offset)) (c.reach_of-y.ensures ∙ ap (λ (z : ℤ). view_reach s.args.updates_extents.now s.args.updates_strides.now z s.args.updates_len) (back s.ranges.updates_offset)) (c.reach_of-z.ensures ∙ ap (λ (z : ℤ). view_reach s.args.dest_extents.now s.args.dest_strides.now z s.args.dest_len) (back s.ranges.dest_offset)) c.check_bounds-answer.ensures _ c.refused-then-not-is_done-2.ensures (sym c.is_done-2.ensures ∙ c.if-not-is_done-2.true)

prepared-from-requires : tie.Need-prepared_from-requires
prepared-from-requires c κs = c.examine-found.ensures.found (sym c.is_done.ensures ∙ c.if-not-is_done.false)

returns-3 : tie.Need-returns
returns-3 c =
    let s = c in
    let t = sym c.is_done.ensures ∙ c.if-not-is_done.false in
    prepared (scatter_from s.args.index_extents.now s.args.index_strides.now s.args.updates_extents.now s.args.updates_strides.now s.args.dest_extents.now s.args.dest_strides.now s.args.update_window_dims.now s.args.inserted_window_dims.now s.args.scatter_dims_to_operand_dims.now s.args.index_vector_dim) s.args.index_offset s.args.updates_offset s.args.dest_offset s.args.starts_len s.args.updates_len s.args.dest_len {x = c.reach_of-x.result} {y = c.reach_of-y.result} {z = c.reach_of-z.result} c.examine-found.ensures.answered t (c.reach_of-x.ensures ∙ ap (λ (z : ℤ). view_reach s.args.index_extents.now s.args.index_strides.now z s.args.starts_len) (back s.ranges.index_offset)) (c.reach_of-y.ensures ∙ ap (λ (z : ℤ). view_reach s.args.updates_extents.now s.args.updates_strides.now z s.args.updates_len) (back s.ranges.updates_offset)) (c.reach_of-z.ensures ∙ ap (λ (z : ℤ). view_reach s.args.dest_extents.now s.args.dest_strides.now z s.args.dest_len) (back s.ranges.dest_offset)) c.check_bounds-answer.ensures _ _ (c.examine-found.ensures.found t) (sym c.is_done-2.ensures ∙ c.if-not-is_done-2.false) _ (simp (back s.ranges.index_offset, back s.ranges.updates_offset, back s.ranges.dest_offset) at c.prepared_from.ensures)

pub prepare_spec : {M : Type 1} → statement M
prepare_spec =
    tie.close
    (tie.spec
    (λ c κs. tt)
    (λ c κs. tt)
    (λ c κs. tt)
    returns
    reach-of-requires
    reach-of-requires-2
    reach-of-requires-3
    (λ c κs. tt)
    (λ c κs. tt)
    (λ c κs. tt)
    returns-2
    prepared-from-requires
    returns-3)
