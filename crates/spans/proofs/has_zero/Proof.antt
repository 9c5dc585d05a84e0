use mathlib.Core.Path.{ap, ◌∙◌}
use Rattle.layout.specs.Layouts.{rank_limit}
use Rattle.layout.specs.Nested.{has_zero}
use Rattle.spans.proofs.Parts.{part-read}
use borrow.Author.Rules.{rules}
use Rattle.spans.proofs.has_zero.Statement.{statement}
use Rattle.spans.proofs.has_zero.Tie as tie

sub-zero-in : tie.Need-slice_bounds-zero_in-count
sub-zero-in c = search rules

part-zero-in-start : tie.Need-slice_bounds-zero_in-start
part-zero-in-start c = search rules

part-zero-in-end : tie.Need-slice_bounds-zero_in-end
part-zero-in-end c = search rules

returns : tie.Need-returns
returns c = c.zero_in.ensures ∙ ap has_zero (part-read _ _ rank_limit _ c.axis_count-n.ensures (search rules))

pub has_zero_spec : {M : Type 1} → statement M
has_zero_spec =
    tie.close
    (tie.spec
    (λ c κs. tt)
    sub-zero-in
    part-zero-in-start
    part-zero-in-end
    (λ c κs. tt)
    returns)
