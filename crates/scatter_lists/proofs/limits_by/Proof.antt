use mathlib.Core.Path.{◌≡◌, sym, ap, ◌∙◌}
use mathlib.Core.List.{List}
use Prim.Native.Nat.{ℕ, min}
use native.Mathlib.Omega.{arith}
use lib.ListN.{length}
use Rattle.indexing.specs.Coordinates.{pick, spread, others, tabulate}
use Rattle.indexing.specs.Axes.{length-spread}
use Rattle.layout.specs.Layouts.{rank_limit, padded}
use Rattle.components.specs.Components.{limit_at}
use Rattle.scatter_checks.proofs.Read.{filled-part, others-few, others-part}
use borrow.Author.Rules.{rules}
use Rattle.scatter_lists.proofs.limits_by.Statement.{statement}
use Rattle.scatter_lists.proofs.limits_by.Tie as tie

sub-spread-windows : tie.Need-slice_bounds-spread_windows-count
sub-spread-windows c = search rules

part-spread-windows-start : tie.Need-slice_bounds-spread_windows-start
part-spread-windows-start c = search rules

part-spread-windows-end : tie.Need-slice_bounds-spread_windows-end
part-spread-windows-end c = let s = c in others-few (length s.args.dest.now) s.args.inserted.now c.other_axes-kept.result s.requires.0 c.other_axes-kept.ensures

spread-windows-requires : tie.Need-spread_windows-sizes-requires
spread-windows-requires c κs = let s = c in s.requires.1 ∙ sym (ap length (others-part (length s.args.dest.now) s.args.inserted.now c.other_axes-kept.result s.requires.0 c.other_axes-kept.ensures))

sub-limits-on : tie.Need-slice_bounds-limits_on-count
sub-limits-on c = search rules

part-limits-on-start : tie.Need-slice_bounds-limits_on-start
part-limits-on-start c = search rules

part-limits-on-end : tie.Need-slice_bounds-limits_on-end
part-limits-on-end c = search rules

returns : tie.Need-returns
returns c =
    let x = c in
    let s = c in
    let n : ℕ = length s.args.dest.now in
    let kept : List ℕ = others n s.args.inserted.now in
    let shape : List ℕ = pick 0 s.args.window.now s.args.updates.now in
    let q : min n rank_limit ≡ n = omega (arith, s.requires.0) in
    let k = others-part (length s.args.dest.now) s.args.inserted.now c.other_axes-kept.result s.requires.0 c.other_axes-kept.ensures in
    let m = length-spread 1 n kept shape in
    let e = x.spread_windows-sizes.ensures ∙ (λ j. padded rank_limit 1 (spread 1 (q j) (k j) shape)) in
    c.limits_on.ensures ∙ ap (λ (ws : List ℕ). tabulate rank_limit (limit_at s.args.dest.now ws s.args.map.now)) (filled-part 1 n x.spread_windows-sizes.result (spread 1 n kept shape) e (sym m) (omega (arith, m, s.requires.0)))

pub limits_by_spec : {M : Type 1} → statement M
limits_by_spec =
    tie.close
    (tie.spec
    (λ c κs. tt)
    sub-spread-windows
    part-spread-windows-start
    part-spread-windows-end
    spread-windows-requires
    sub-limits-on
    part-limits-on-start
    part-limits-on-end
    (λ c κs. tt)
    returns)
