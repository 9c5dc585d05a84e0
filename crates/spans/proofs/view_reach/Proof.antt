use mathlib.Core.Path.{◌≡◌, ap, ap₂, ◌∙◌}
use mathlib.Core.List.{List}
use Prim.Native.Nat.{ℕ}
use lib.IntN.{ℤ}
use lib.ListN.{length}
use mir.Syntax.{w64}
use mir.Val.{SFits, to_z, of_z}
use Rattle.integer.specs.Z.{back}
use Rattle.layout.specs.Layouts.{rank_limit, extents_of, strides_of}
use Rattle.layout.specs.Reach.{view_reach}
use Rattle.spans.proofs.Parts.{part-fits, part-read}
use borrow.Author.Rules.{rules}
use Rattle.spans.proofs.view_reach.Statement.{statement}
use Rattle.spans.proofs.view_reach.Tie as tie

sub-reach-of : tie.Need-slice_bounds-reach_of-count
sub-reach-of c = search rules

part-reach-of-start : tie.Need-slice_bounds-reach_of-start
part-reach-of-start c = search rules

part-reach-of-end : tie.Need-slice_bounds-reach_of-end
part-reach-of-end c =
    let a = c in
    let s = a in
    let e : length s.args.view.layout.extents ≡ rank_limit = search rules in
    part-fits a.axis_count-n.result s.args.view.layout.rank rank_limit s.args.view.layout.extents a.axis_count-n.ensures e

sub-reach-of-2 : tie.Need-slice_bounds-reach_of-count-2
sub-reach-of-2 c = search rules

part-reach-of-start-2 : tie.Need-slice_bounds-reach_of-start-2
part-reach-of-start-2 c = search rules

part-reach-of-end-2 : tie.Need-slice_bounds-reach_of-end-2
part-reach-of-end-2 c =
    let a = c in
    let s = a in
    let e : length s.args.view.layout.strides ≡ rank_limit = search rules in
    part-fits a.axis_count-n.result s.args.view.layout.rank rank_limit s.args.view.layout.strides a.axis_count-n.ensures e

reach-of-requires : tie.Need-reach_of-requires
reach-of-requires c κs = search rules

returns : tie.Need-returns
returns c =
    let a = c in
    let s = a in
    let d : length s.args.view.layout.extents ≡ rank_limit = search rules in
    let e : length s.args.view.layout.strides ≡ rank_limit = search rules in
    let f : SFits w64 s.args.view.offset = search rules in
    c.reach_of.ensures
    ∙ ap₂ (λ (xs : List ℕ) (ss : List ℤ). view_reach xs ss (to_z w64 (of_z w64 s.args.view.offset)) s.args.len) (part-read a.axis_count-n.result s.args.view.layout.rank rank_limit s.args.view.layout.extents a.axis_count-n.ensures d) (part-read a.axis_count-n.result s.args.view.layout.rank rank_limit s.args.view.layout.strides a.axis_count-n.ensures e)
    ∙ ap (λ (z : ℤ). view_reach (extents_of s.args.view.layout) (strides_of s.args.view.layout) z s.args.len) (back f)

pub view_reach_spec : {M : Type 1} → statement M
view_reach_spec =
    tie.close
    (tie.spec
    (λ c κs. tt)
    sub-reach-of
    part-reach-of-start
    part-reach-of-end
    sub-reach-of-2
    part-reach-of-start-2
    part-reach-of-end-2
    reach-of-requires
    returns)
