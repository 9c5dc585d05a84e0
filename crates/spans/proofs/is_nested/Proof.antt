use mathlib.Core.Path.{ap₂, ◌∙◌}
use Rattle.layout.specs.Layouts.{rank_limit}
use Rattle.layout.specs.Nested.{nested}
use Rattle.spans.proofs.Parts.{part-read}
use borrow.Author.Rules.{rules}
use Rattle.spans.proofs.is_nested.Statement.{statement}
use Rattle.spans.proofs.is_nested.Tie as tie

sub-nested-in : tie.Need-slice_bounds-nested_in-count
sub-nested-in c = search rules

part-nested-in-start : tie.Need-slice_bounds-nested_in-start
part-nested-in-start c = search rules

part-nested-in-end : tie.Need-slice_bounds-nested_in-end
part-nested-in-end c = search rules

sub-nested-in-2 : tie.Need-slice_bounds-nested_in-count-2
sub-nested-in-2 c = search rules

part-nested-in-start-2 : tie.Need-slice_bounds-nested_in-start-2
part-nested-in-start-2 c = search rules

part-nested-in-end-2 : tie.Need-slice_bounds-nested_in-end-2
part-nested-in-end-2 c = search rules

nested-in-requires : tie.Need-nested_in-requires
nested-in-requires c κs = search rules

returns : tie.Need-returns
returns c =
    let a = c in
    c.nested_in.ensures ∙ ap₂ nested (part-read _ _ rank_limit _ a.axis_count-n.ensures (search rules)) (part-read _ _ rank_limit _ a.axis_count-n.ensures (search rules))

pub is_nested_spec : {M : Type 1} → statement M
is_nested_spec =
    tie.close
    (tie.spec
    (λ c κs. tt)
    sub-nested-in
    part-nested-in-start
    part-nested-in-end
    sub-nested-in-2
    part-nested-in-start-2
    part-nested-in-end-2
    nested-in-requires
    returns)
