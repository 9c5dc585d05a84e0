use mathlib.Core.Path.{◌≡◌, ap, ◌∙◌}
use mathlib.Core.Bool.{cond}
use mathlib.Core.List.{List}
use Prim.Native.Nat.{ℕ}
use borrow.Author.Rules.{rules}
use lib.ListN.{length, get_or}
use Rattle.indexing.specs.Coordinates.{tabulate, has}
use Rattle.layout.specs.Layouts.{rank_limit}
use Rattle.checks.proofs.Lists.{part-fits, part-read}
use Rattle.gather.proofs.batch_extents_of.Statement.{statement}
use Rattle.gather.proofs.batch_extents_of.Tie as tie

held : (s : tie.Start) → length s.args.dims.entries ≡ rank_limit
held s = search rules

sub-batch-extents : tie.Need-slice_bounds-batch_extents-count
sub-batch-extents c = search rules

part-batch-extents-start : tie.Need-slice_bounds-batch_extents-start
part-batch-extents-start c = search rules

part-batch-extents-end : tie.Need-slice_bounds-batch_extents-end
part-batch-extents-end c =
    let n = c in
    let s = c in
    part-fits n.axis_count-n.result s.args.dims.count s.args.dims.entries n.axis_count-n.ensures (held search)

returns : tie.Need-returns
returns c =
    let b = c in
    let n = c in
    let s = c in
    b.batch_extents.ensures
    ∙ ap (λ (l : List ℕ). tabulate rank_limit (λ a. cond (has l a) 1 (get_or s.args.extents a 0))) (part-read n.axis_count-n.result s.args.dims.count s.args.dims.entries n.axis_count-n.ensures (held search))

pub batch_extents_of_spec : {M : Type 1} → statement M
batch_extents_of_spec = tie.close (tie.spec (λ c κs. tt) sub-batch-extents part-batch-extents-start part-batch-extents-end (λ c κs. tt) returns)
