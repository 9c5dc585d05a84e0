use mathlib.Core.Path.{ap₂, ◌∙◌}
use Rattle.layout.specs.Layouts.{rank_limit}
use Rattle.layout.specs.Spans.{spanned}
use Rattle.spans.proofs.Parts.{part-read}
use borrow.Author.Rules.{rules}
use Rattle.spans.proofs.held_span.Statement.{statement}
use Rattle.spans.proofs.held_span.Tie as tie

sub-validate-layout-span : tie.Need-slice_bounds-validate_layout_span-count
sub-validate-layout-span c = search rules

part-validate-layout-span-start : tie.Need-slice_bounds-validate_layout_span-start
part-validate-layout-span-start c = search rules

part-validate-layout-span-end : tie.Need-slice_bounds-validate_layout_span-end
part-validate-layout-span-end c = search rules

sub-validate-layout-span-2 : tie.Need-slice_bounds-validate_layout_span-count-2
sub-validate-layout-span-2 c = search rules

part-validate-layout-span-start-2 : tie.Need-slice_bounds-validate_layout_span-start-2
part-validate-layout-span-start-2 c = search rules

part-validate-layout-span-end-2 : tie.Need-slice_bounds-validate_layout_span-end-2
part-validate-layout-span-end-2 c = search rules

validate-layout-span-requires : tie.Need-validate_layout_span-requires
validate-layout-span-requires c κs = search rules

returns : tie.Need-returns
returns c =
    let a = c in
    c.validate_layout_span.ensures ∙ ap₂ spanned (part-read _ _ rank_limit _ a.axis_count-n.ensures (search rules)) (part-read _ _ rank_limit _ a.axis_count-n.ensures (search rules))

pub held_span_spec : {M : Type 1} → statement M
held_span_spec =
    tie.close
    (tie.spec
    (λ c κs. tt)
    sub-validate-layout-span
    part-validate-layout-span-start
    part-validate-layout-span-end
    sub-validate-layout-span-2
    part-validate-layout-span-start-2
    part-validate-layout-span-end-2
    validate-layout-span-requires
    returns)
