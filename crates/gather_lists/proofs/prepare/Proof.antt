use mathlib.Core.Path.{refl, sym, ap, ◌∙◌}
use borrow.Author.Rules.{rules}
use lib.ListN.{length}
use lib.IntN.{ℤ, pos}
use mir.Syntax.{w64}
use mir.Val.{SFits}
use Rattle.integer.specs.Z.{back}
use Rattle.layout.specs.Reach.{view_reach}
use Rattle.components.specs.Components.{unless_none}
use Rattle.gather_checks.specs.Refusals.{gather_from}
use Rattle.gather_lists.proofs.Lent.{fits, first-refusal, second-refusal, prepared}
use Rattle.gather_lists.proofs.prepare.Statement.{statement}
use Rattle.gather_lists.proofs.prepare.Tie as tie

returns : tie.Need-returns-then-not-is_done
returns c =
    let s = c in
    first-refusal (gather_from s.args.operand_extents.now s.args.operand_strides.now s.args.index_extents.now s.args.index_strides.now s.args.dest_extents.now s.args.dest_strides.now s.args.offset_dims.now s.args.collapsed_slice_dims.now s.args.start_index_map.now s.args.index_vector_dim s.args.slice_sizes.now) s.args.operand_offset s.args.index_offset s.args.dest_offset s.args.operand_len s.args.starts_len s.args.dest_len _ _ c.refused.ensures c.examine-found.ensures.answered (sym c.is_done.ensures ∙ c.if-not-is_done.true)

reach-of-requires : tie.Need-reach_of-x-requires
reach-of-requires c κs = let s = c in (fits (gather_from s.args.operand_extents.now s.args.operand_strides.now s.args.index_extents.now s.args.index_strides.now s.args.dest_extents.now s.args.dest_strides.now s.args.offset_dims.now s.args.collapsed_slice_dims.now s.args.start_index_map.now s.args.index_vector_dim s.args.slice_sizes.now) _ _ (c.examine-found.ensures.found (sym c.is_done.ensures ∙ c.if-not-is_done.false))).operand-strides

reach-of-requires-2 : tie.Need-reach_of-y-requires
reach-of-requires-2 c κs = let s = c in (fits (gather_from s.args.operand_extents.now s.args.operand_strides.now s.args.index_extents.now s.args.index_strides.now s.args.dest_extents.now s.args.dest_strides.now s.args.offset_dims.now s.args.collapsed_slice_dims.now s.args.start_index_map.now s.args.index_vector_dim s.args.slice_sizes.now) _ _ (c.examine-found.ensures.found (sym c.is_done.ensures ∙ c.if-not-is_done.false))).index-strides

reach-of-requires-3 : tie.Need-reach_of-z-requires
reach-of-requires-3 c κs = let s = c in (fits (gather_from s.args.operand_extents.now s.args.operand_strides.now s.args.index_extents.now s.args.index_strides.now s.args.dest_extents.now s.args.dest_strides.now s.args.offset_dims.now s.args.collapsed_slice_dims.now s.args.start_index_map.now s.args.index_vector_dim s.args.slice_sizes.now) _ _ (c.examine-found.ensures.found (sym c.is_done.ensures ∙ c.if-not-is_done.false))).dest-strides

returns-2 : tie.Need-returns-then-not-is_done-2
returns-2 c =
    let s = c in
    second-refusal (gather_from s.args.operand_extents.now s.args.operand_strides.now s.args.index_extents.now s.args.index_strides.now s.args.dest_extents.now s.args.dest_strides.now s.args.offset_dims.now s.args.collapsed_slice_dims.now s.args.start_index_map.now s.args.index_vector_dim s.args.slice_sizes.now) s.args.operand_offset s.args.index_offset s.args.dest_offset s.args.operand_len s.args.starts_len s.args.dest_len {x = c.reach_of-x.result} {y = c.reach_of-y.result} {z = c.reach_of-z.result} c.examine-found.ensures.answered (sym c.is_done.ensures ∙ c.if-not-is_done.false) (c.reach_of-x.ensures ∙ ap (λ (z : ℤ). view_reach s.args.operand_extents.now s.args.operand_strides.now z s.args.operand_len) (back s.ranges.operand_offset)) (c.reach_of-y.ensures ∙ ap (λ (z : ℤ). view_reach s.args.index_extents.now s.args.index_strides.now z s.args.starts_len) (back s.ranges.index_offset)) (c.reach_of-z.ensures ∙ ap (λ (z : ℤ). view_reach s.args.dest_extents.now s.args.dest_strides.now z s.args.dest_len) (back s.ranges.dest_offset)) c.check_bounds-answer.ensures _ c.refused-then-not-is_done-2.ensures (sym c.is_done-2.ensures ∙ c.if-not-is_done-2.true)

numbers-on-requires : tie.Need-numbers_on-numbers-requires
numbers-on-requires c κs = c.examine-found.ensures.found (sym c.is_done.ensures ∙ c.if-not-is_done.false)

returns-3 : tie.Need-returns
returns-3 c =
    let s = c in
    let fo : SFits w64 s.args.operand_offset = s.ranges.operand_offset in
    let fd : SFits w64 s.args.dest_offset = s.ranges.dest_offset in
    let fb : SFits w64 c.start_base-base.result = search rules in
    prepared (gather_from s.args.operand_extents.now s.args.operand_strides.now s.args.index_extents.now s.args.index_strides.now s.args.dest_extents.now s.args.dest_strides.now s.args.offset_dims.now s.args.collapsed_slice_dims.now s.args.start_index_map.now s.args.index_vector_dim s.args.slice_sizes.now) s.args.operand_offset s.args.index_offset s.args.dest_offset s.args.operand_len s.args.starts_len s.args.dest_len {x = c.reach_of-x.result} {y = c.reach_of-y.result} {z = c.reach_of-z.result} c.examine-found.ensures.answered (sym c.is_done.ensures ∙ c.if-not-is_done.false) (c.reach_of-x.ensures ∙ ap (λ (z : ℤ). view_reach s.args.operand_extents.now s.args.operand_strides.now z s.args.operand_len) (back s.ranges.operand_offset)) (c.reach_of-y.ensures ∙ ap (λ (z : ℤ). view_reach s.args.index_extents.now s.args.index_strides.now z s.args.starts_len) (back s.ranges.index_offset)) (c.reach_of-z.ensures ∙ ap (λ (z : ℤ). view_reach s.args.dest_extents.now s.args.dest_strides.now z s.args.dest_len) (back s.ranges.dest_offset)) c.check_bounds-answer.ensures _ _ (c.examine-found.ensures.found (sym c.is_done.ensures ∙ c.if-not-is_done.false)) (sym c.is_done-2.ensures ∙ c.if-not-is_done-2.false) _ refl refl c.numbers_on-numbers.ensures (back fo) (back fb ∙ c.start_base-base.ensures ∙ ap (λ (z : ℤ). unless_none (length s.args.start_index_map.now) (pos 0) z) (back s.ranges.index_offset)) (back fd)

pub prepare_spec : {M : Type 1} → statement M
prepare_spec =
    tie.close
    (tie.spec
    (λ c κs. tt)
    (λ c κs. tt)
    (λ c κs. tt)
    returns
    reach-of-requires
    reach-of-requires-2
    reach-of-requires-3
    (λ c κs. tt)
    (λ c κs. tt)
    (λ c κs. tt)
    returns-2
    numbers-on-requires
    (λ c κs. tt)
    returns-3)
