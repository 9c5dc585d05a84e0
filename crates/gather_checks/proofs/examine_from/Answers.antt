use Rattle.std.specs.Prelude.{List, [], ◌∷◌}
use Rattle.std.proofs.Common.{ℕ, length, ap, arith, ◌∙◌}
use Rattle.indexing.specs.Coordinates.{others}
use Rattle.checks.proofs.Held.{few-others, lent-others}
use Rattle.gather_checks.specs.Given.{examined_by}
use Rattle.gather_checks.proofs.Found.{sizes-pass, found}
use Rattle.gather_checks.proofs.examine_from.Goals as goal

pub examine_axes-requires : goal.examine_axes-requires
examine_axes-requires c =
    let l = sizes-pass _ _ _ _ _ _ c.requires in
    let n : ℕ = length c.args.index_extents.now in
    let e = c.as_slice-2.ensures ∙ lent-others c.other_axes-batch.result n (c.args.index_vector_dim ∷ []) c.other_axes-batch.ensures l.index-few in
    record { dest = l.dest; few = l.dest-few; batch = omega (arith, few-others n (c.args.index_vector_dim ∷ []) l.index-few, ap length e) }

pub returns : goal.returns
returns c =
    let l = sizes-pass _ _ _ _ _ _ c.requires in
    let oe = c.args.operand_extents.now in
    let os = c.args.operand_strides.now in
    let ie = c.args.index_extents.now in
    let is = c.args.index_strides.now in
    let de = c.args.dest_extents.now in
    let ds = c.args.dest_strides.now in
    let od = c.args.offset_dims.now in
    let cd = c.args.collapsed_slice_dims.now in
    let map = c.args.start_index_map.now in
    let v = c.args.index_vector_dim in
    let sizes = c.args.slice_sizes.now in
    let x = c.as_slice.ensures ∙ lent-others c.other_axes-kept.result (length oe) cd c.other_axes-kept.ensures l.operand-few in
    let y = c.as_slice-2.ensures ∙ lent-others c.other_axes-batch.result (length ie) (v ∷ []) c.other_axes-batch.ensures l.index-few in
    let z = c.as_slice-3.ensures ∙ lent-others c.other_axes-rest.result (length de) od c.other_axes-rest.ensures l.dest-few in
    found c.args.four od cd map v sizes oe os ie is de ds c.examine_axes.result c.requires
    (c.examine_axes.ensures
    ∙ ap (λ (a : List ℕ). examined_by oe os ie is de ds od cd map v sizes c.args.four a c.as_slice-2.result.now c.as_slice-3.result.now) x
    ∙ ap (λ (a : List ℕ). examined_by oe os ie is de ds od cd map v sizes c.args.four (others (length oe) cd) a c.as_slice-3.result.now) y
    ∙ ap (λ (a : List ℕ). examined_by oe os ie is de ds od cd map v sizes c.args.four (others (length oe) cd) (others (length ie) (v ∷ [])) a) z)
