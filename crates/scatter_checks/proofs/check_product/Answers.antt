use Rattle.std.proofs.Common.{arith, ap, ◌∙◌, ℕ, List}
use Rattle.indexing.specs.Coordinates.{pick}
use Rattle.indexing.specs.Axes.{length-pick}
use Rattle.layout.specs.Spans.{total_of}
use Rattle.checks.specs.Checks.{total_fits}
use Rattle.scatter_checks.proofs.Read.{held-read}
use Rattle.scatter_checks.proofs.check_product.Goals as goal

pub returns : goal.returns
returns c =
    let l : List ℕ = pick 0 c.args.axes.now c.args.list.now in
    c.check_total.ensures
    ∙ ap (λ (xs : List ℕ). total_fits (total_of xs)) (c.as_slice.ensures ∙ held-read c.pick-sizes.result l c.pick-sizes.ensures (omega (arith, length-pick 0 c.args.axes.now c.args.list.now, c.requires)))
