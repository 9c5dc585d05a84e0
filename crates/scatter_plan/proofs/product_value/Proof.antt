use mathlib.Core.Path.{◌≡◌, sym, ap, ◌∙◌}
use native.Mathlib.Omega.{arith}
use lib.ListN.{length}
use Rattle.indexing.specs.Coordinates.{pick}
use Rattle.indexing.specs.Axes.{length-pick}
use Rattle.layout.specs.Spans.{total_of}
use Rattle.checks.specs.Values.{value_of_u}
use Rattle.scatter_checks.proofs.Read.{filled-part}
use borrow.Author.Rules.{rules}
use Rattle.scatter_plan.proofs.product_value.Statement.{statement}
use Rattle.scatter_plan.proofs.product_value.Tie as tie

total : (c : tie.After-checked_total_len-total) → c.checked_total_len-total.result ≡ total_of (pick 0 c.args.axes.now c.args.list.now)
total c =
    let x = c in
    let s = c in
    let n = length-pick 0 s.args.axes.now s.args.list.now in
    c.checked_total_len-total.ensures ∙ ap total_of (filled-part 0 (length s.args.axes.now) x.picked_extents-sizes.result (pick 0 s.args.axes.now s.args.list.now) x.picked_extents-sizes.ensures (sym n) (omega (arith, n, s.requires)))

picked-extents-requires : tie.Need-picked_extents-sizes-requires
picked-extents-requires c κs = search rules

sub-checked-total-len : tie.Need-slice_bounds-checked_total_len-count
sub-checked-total-len c = search rules

part-checked-total-len-start : tie.Need-slice_bounds-checked_total_len-start
part-checked-total-len-start c = search rules

part-checked-total-len-end : tie.Need-slice_bounds-checked_total_len-end
part-checked-total-len-end c = search rules

enum-known-total : tie.Need-enum_known-total
enum-known-total c = search rules

enum_told : tie.Need-enum_told-1
enum_told c = search rules

returns : tie.Need-returns-in-Some
returns c = ap value_of_u (sym c.in-Some.is ∙ total search)

returns-2 : tie.Need-returns-in-None
returns-2 c = ap value_of_u (sym c.in-None.is ∙ total search)

pub product_value_spec : {M : Type 1} → statement M
product_value_spec =
    tie.close
    (tie.spec
    picked-extents-requires
    sub-checked-total-len
    part-checked-total-len-start
    part-checked-total-len-end
    (λ c κs. tt)
    enum-known-total
    enum_told
    returns
    returns-2)
