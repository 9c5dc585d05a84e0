use Rattle.std.specs.Prelude.{Option, ℕ, ℤ, pos, nat_abs}
use Rattle.std.proofs.Common.{sym, ap, ap₂, ◌∙◌}
use Rattle.std.proofs.Math.Facts.{sfits_lit}
use Rattle.std.specs.Int.{w64}
use mir.Val.{to_z, of_z}
use Rattle.integer.specs.Z.{less, not-less}
use Rattle.integer.specs.Machine.{as-u64, u64-is}
use Rattle.layout.specs.Sums.{cells_within}
use Rattle.layout.specs.Reach.{view_reach}
use Rattle.spans.proofs.Ends.{cells_are, negative-outside, none_inside, none-outside}
use Rattle.spans.proofs.reach_of.Goals as goal

pub returns-then-offset-lt0 : goal.returns-then-offset-lt0
returns-then-offset-lt0 c = negative-outside _ _ c.args.offset c.args.len (less c.ranges.offset (sfits_lit {z = pos 0} tt) c.if-offset-lt0.true)

pub returns-then-at-len : goal.returns-then-at-len
returns-then-at-len c =
    let e = u64-is c.ranges.offset (not-less c.ranges.offset (sfits_lit {z = pos 0} tt) c.if-offset-lt0.false) in
    none_inside c.args.extents.now c.args.strides.now (nat_abs (to_z w64 (of_z w64 c.args.offset))) c.args.len (sym c.zero_in.ensures ∙ c.if-zero_in.true) c.if-at-len.true ∙ ap (λ (z : ℤ). view_reach c.args.extents.now c.args.strides.now z c.args.len) e

pub returns-then-zero_in : goal.returns-then-zero_in
returns-then-zero_in c =
    let e = u64-is c.ranges.offset (not-less c.ranges.offset (sfits_lit {z = pos 0} tt) c.if-offset-lt0.false) in
    none-outside c.args.extents.now c.args.strides.now (nat_abs (to_z w64 (of_z w64 c.args.offset))) c.args.len (sym c.zero_in.ensures ∙ c.if-zero_in.true) c.if-at-len.false ∙ ap (λ (z : ℤ). view_reach c.args.extents.now c.args.strides.now z c.args.len) e

pub returns : goal.returns
returns c =
    let k = not-less c.ranges.offset (sfits_lit {z = pos 0} tt) c.if-offset-lt0.false in
    let e = u64-is c.ranges.offset k in
    c.cells_within.ensures
    ∙ ap₂ (λ (x y : Option ℕ). cells_within (nat_abs (to_z w64 (of_z w64 c.args.offset))) x y c.args.len) c.side_reach-down.ensures c.side_reach-up.ensures
    ∙ cells_are c.args.extents.now c.args.strides.now (nat_abs (to_z w64 (of_z w64 c.args.offset))) c.args.len (as-u64 c.ranges.offset k).1.fits c.ranges.len.fits (sym c.zero_in.ensures ∙ c.if-zero_in.false)
    ∙ ap (λ (z : ℤ). view_reach c.args.extents.now c.args.strides.now z c.args.len) e
