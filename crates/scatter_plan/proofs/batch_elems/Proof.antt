use mathlib.Core.Path.{ap, ◌∙◌}
use mathlib.Core.List.{List}
use Prim.Native.Nat.{ℕ}
use native.Mathlib.Omega.{arith}
use lib.ListN.{length}
use Rattle.indexing.specs.Coordinates.{pick}
use Rattle.axis_lists.proofs.Filling.{length-others}
use Rattle.checks.specs.Values.{total_or}
use Rattle.scatter_checks.proofs.Read.{others-few, others-part}
use borrow.Author.Rules.{rules}
use Rattle.scatter_plan.proofs.batch_elems.Statement.{statement}
use Rattle.scatter_plan.proofs.batch_elems.Tie as tie

sub-product-value : tie.Need-slice_bounds-product_value-count
sub-product-value c = search rules

part-product-value-start : tie.Need-slice_bounds-product_value-start
part-product-value-start c = search rules

part-product-value-end : tie.Need-slice_bounds-product_value-end
part-product-value-end c = let s = c in others-few (length s.args.updates.now) s.args.window.now c.other_axes-batch.result s.requires c.other_axes-batch.ensures

product-value-requires : tie.Need-product_value-requires
product-value-requires c κs = let s = c in omega (arith, ap length (others-part (length s.args.updates.now) s.args.window.now c.other_axes-batch.result s.requires c.other_axes-batch.ensures), length-others 0 (length s.args.updates.now) s.args.window.now, s.requires)

returns : tie.Need-returns
returns c =
    let s = c in
    c.product_value.ensures ∙ ap (λ (axes : List ℕ). total_or (pick 0 axes s.args.updates.now)) (others-part (length s.args.updates.now) s.args.window.now c.other_axes-batch.result s.requires c.other_axes-batch.ensures)

pub batch_elems_spec : {M : Type 1} → statement M
batch_elems_spec =
    tie.close
    (tie.spec
    (λ c κs. tt)
    sub-product-value
    part-product-value-start
    part-product-value-end
    product-value-requires
    returns)
