use Rattle.std.proofs.Common.{arith, sym, ap, ◌∙◌, ℕ, List, length, pos}
use lib.Seq.{take_all}
use Rattle.indexing.specs.Coordinates.{pick}
use Rattle.indexing.specs.Axes.{length-pick}
use Rattle.layout.specs.Layouts.{rank_limit, padded}
use Rattle.scatter_checks.proofs.Read.{walk_is}
use Rattle.scatter_checks.proofs.walk_along.Goals as goal

pub returns : goal.returns
returns c =
    let s = c.args in
    let q = c.requires in
    let a = c.strides_on-source_steps.ensures ∙ ap (λ (l : List ℕ). padded rank_limit (pos 0) (pick (pos 0) l s.source.now)) (take_all rank_limit s.from.now (omega (arith, q.0, q.1))) in
    let b = c.strides_on-dest_steps.ensures ∙ ap (λ (l : List ℕ). padded rank_limit (pos 0) (pick (pos 0) l s.dest.now)) (take_all rank_limit s.to.now (omega (arith, q.0, q.2))) in
    c.compile_window_replay.ensures
    ∙ walk_is (length s.axes.now) c.picked_extents-shape.result (pick 0 s.axes.now s.extents.now) c.strides_on-source_steps.result (pick (pos 0) s.from.now s.source.now) c.strides_on-dest_steps.result (pick (pos 0) s.to.now s.dest.now)
    c.picked_extents-shape.ensures a b q.0
    (sym (length-pick 0 s.axes.now s.extents.now)) (sym (length-pick (pos 0) s.from.now s.source.now ∙ q.1)) (sym (length-pick (pos 0) s.to.now s.dest.now ∙ q.2))
