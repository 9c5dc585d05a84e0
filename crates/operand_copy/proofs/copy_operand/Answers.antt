use Rattle.std.proofs.Common.{◌≡◌, ◌∙◌, refl, sym, arith, take}
use Rattle.indexing.specs.Coordinates.{product}
use Rattle.fused_axes.specs.Totals.{total-told, total-many, many-axes, pays-few, pays-not}
use Rattle.operand_copy.proofs.Windows.{cells-by, chosen-cells, chosen-end, given-cells, given-end, none_end}
use Rattle.operand_copy.proofs.copy_operand.Goals as goal

pub returns-then-n-eq0 : goal.returns-then-n-eq0
returns-then-n-eq0 g c =
    let counted : product (take c.args.rank c.args.extents) ≡ c.in-Some.n = total-told _ c.total_len-total.result _ c.total_len-total.ensures c.in-Some.is in
    none_end _ c.args.s c.args.d c.args.extents c.args.ss c.args.ds c.args.rank c.args.src.now c.args.dst.now (counted ∙ c.if-n-eq0.true)

pub over_fused-requires : goal.over_fused-requires
over_fused-requires g c =
    let counted : product (take c.args.rank c.args.extents) ≡ c.in-Some.n = total-told _ c.total_len-total.result _ c.total_len-total.ensures c.in-Some.is in
    cells-by _ _ _ _ _ _ c.ranges.s c.ranges.d _ _ _ refl refl refl _ _
    (chosen-cells _ _ _ _ _ _ _ _ c.requires (omega (arith, counted)) (omega (arith, counted, pays-few c.args.rank _ _ c.args.extents (sym c.pays.ensures ∙ c.if-pays.true) counted)) _ c.copy_axes-f.ensures)

pub returns-then-pays : goal.returns-then-pays
returns-then-pays g c =
    chosen-end _ c.args.s c.args.d c.args.extents c.args.ss c.args.ds c.args.rank c.args.src.now c.args.dst.now c.ranges.s c.ranges.d _ _ _ c.requires _ c.copy_axes-f.ensures c.over_fused.ensures

pub over_axes-requires : goal.over_axes-requires
over_axes-requires g c =
    let counted : product (take c.args.rank c.args.extents) ≡ c.in-Some.n = total-told _ c.total_len-total.result _ c.total_len-total.ensures c.in-Some.is in
    cells-by _ _ _ _ _ _ c.ranges.s c.ranges.d _ _ _ refl refl refl _ _
    (given-cells _ _ _ _ _ _ _ _ c.requires (pays-not c.args.rank _ _ (sym c.pays.ensures ∙ c.if-pays.false)) (omega (arith, counted)))

pub over_axes-requires-in-None : goal.over_axes-requires-in-None
over_axes-requires-in-None g c =
    let m = total-many (take c.args.rank c.args.extents) c.total_len-total.result c.total_len-total.ensures c.in-None.is in
    cells-by _ _ _ _ _ _ c.ranges.s c.ranges.d _ _ _ refl refl refl _ _
    (given-cells _ _ _ _ _ _ _ _ c.requires (many-axes c.args.rank c.args.extents (omega arith)) (omega arith))

pub returns-else-pays : goal.returns-else-pays
returns-else-pays g c =
    given-end _ c.args.s c.args.d c.args.extents c.args.ss c.args.ds c.args.rank c.args.src.now c.args.dst.now c.ranges.s c.ranges.d _ c.over_axes.ensures

pub returns-in-None : goal.returns-in-None
returns-in-None g c =
    given-end _ c.args.s c.args.d c.args.extents c.args.ss c.args.ds c.args.rank c.args.src.now c.args.dst.now c.ranges.s c.ranges.d _ c.over_axes-in-None.ensures
