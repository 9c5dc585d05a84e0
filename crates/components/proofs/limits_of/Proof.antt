use mathlib.Core.Path.{◌≡◌, ◌∙◌}
use borrow.Author.Rules.{rules}
use lib.ListN.{length}
use Rattle.indexing.specs.Coordinates.{tabulate}
use Rattle.layout.specs.Layouts.{rank_limit}
use Rattle.checks.proofs.Lists.{part-fits, part-read}
use Rattle.components.specs.Components.{limit_at}
use Rattle.components.proofs.limits_of.Statement.{statement}
use Rattle.components.proofs.limits_of.Tie as tie

lengths : (s : tie.Start) → (length s.args.layout.extents ≡ rank_limit) × (length s.args.sizes.entries ≡ rank_limit) × (length s.args.map.entries ≡ rank_limit)
lengths s = (search rules, search rules, search rules)

sub-limits-on : tie.Need-slice_bounds-limits_on-count
sub-limits-on c = search rules

part-limits-on-start : tie.Need-slice_bounds-limits_on-start
part-limits-on-start c = search rules

part-limits-on-end : tie.Need-slice_bounds-limits_on-end
part-limits-on-end c = let s = c in part-fits c.axis_count-k.result s.args.map.count s.args.map.entries c.axis_count-k.ensures (lengths search).2

sub-limits-on-2 : tie.Need-slice_bounds-limits_on-count-2
sub-limits-on-2 c = search rules

part-limits-on-start-2 : tie.Need-slice_bounds-limits_on-start-2
part-limits-on-start-2 c = search rules

part-limits-on-end-2 : tie.Need-slice_bounds-limits_on-end-2
part-limits-on-end-2 c = let s = c in part-fits c.axis_count-n.result s.args.layout.rank s.args.layout.extents c.axis_count-n.ensures (lengths search).0

sub-limits-on-3 : tie.Need-slice_bounds-limits_on-count-3
sub-limits-on-3 c = search rules

part-limits-on-start-3 : tie.Need-slice_bounds-limits_on-start-3
part-limits-on-start-3 c = search rules

part-limits-on-end-3 : tie.Need-slice_bounds-limits_on-end-3
part-limits-on-end-3 c = let s = c in part-fits c.axis_count-m.result s.args.sizes.count s.args.sizes.entries c.axis_count-m.ensures (lengths search).1

returns : tie.Need-returns
returns c =
    let s = c in
    let m = part-read c.axis_count-k.result s.args.map.count s.args.map.entries c.axis_count-k.ensures (lengths search).2 in
    let e = part-read c.axis_count-n.result s.args.layout.rank s.args.layout.extents c.axis_count-n.ensures (lengths search).0 in
    let w = part-read c.axis_count-m.result s.args.sizes.count s.args.sizes.entries c.axis_count-m.ensures (lengths search).1 in
    c.limits_on.ensures ∙ λ i. tabulate rank_limit (limit_at (e i) (w i) (m i))

pub limits_of_spec : {M : Type 1} → statement M
limits_of_spec =
    tie.close
    (tie.spec
    (λ c κs. tt)
    (λ c κs. tt)
    (λ c κs. tt)
    sub-limits-on
    part-limits-on-start
    part-limits-on-end
    sub-limits-on-2
    part-limits-on-start-2
    part-limits-on-end-2
    sub-limits-on-3
    part-limits-on-start-3
    part-limits-on-end-3
    (λ c κs. tt)
    returns)
