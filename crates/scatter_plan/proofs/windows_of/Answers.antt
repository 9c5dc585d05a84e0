use Rattle.std.proofs.Common.{◌≡◌, arith, ap, ◌∙◌, ℕ, List, length, min}
use Rattle.indexing.specs.Coordinates.{pick, others}
use Rattle.indexing.specs.Axes.{length-pick}
use Rattle.layout.specs.Layouts.{rank_limit}
use Rattle.axis_lists.specs.Held.{held_numbers}
use Rattle.axis_lists.proofs.Filling.{length-others}
use Rattle.scatter_checks.proofs.Read.{held-read}
use Rattle.scatter_plan.proofs.windows_of.Goals as goal

pub returns : goal.returns
returns c =
    let s = c.args in
    let n : ℕ = length s.dest.now in
    let w : List ℕ = s.window.now in
    let shape : List ℕ = pick 0 w s.updates.now in
    let q : min n rank_limit ≡ n = omega (arith, c.requires.0) in
    let k = held-read c.other_axes-kept.result (others n s.inserted.now) (c.other_axes-kept.ensures ∙ ap (λ (m : ℕ). held_numbers (others m s.inserted.now)) q) (omega (arith, length-others 0 n s.inserted.now, c.requires.0)) in
    let v = held-read c.pick-shape.result shape c.pick-shape.ensures (omega (arith, length-pick 0 w s.updates.now, c.requires.1)) in
    c.spread.ensures ∙ rw (q, c.as_slice.ensures, c.as_slice-2.ensures, k, v)
