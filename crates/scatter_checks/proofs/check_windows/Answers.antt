use Rattle.std.proofs.Common.{◌≡◌, arith, sym, ap, ◌∙◌, ℕ, List, min, length}
use Rattle.indexing.specs.Coordinates.{pick, spread}
use Rattle.indexing.specs.Axes.{length-spread}
use Rattle.layout.specs.Layouts.{rank_limit, padded}
use Rattle.checks.specs.Checks.{windows_fit}
use Rattle.scatter_checks.proofs.Read.{filled-read}
use Rattle.scatter_checks.proofs.check_windows.Goals as goal

pub returns : goal.returns
returns c =
    let s = c.args in
    let n : ℕ = length s.dest.now in
    let shape : List ℕ = pick 0 s.window.now s.updates.now in
    let m = length-spread 1 n s.kept.now shape in
    let q : min n rank_limit ≡ n = omega (arith, c.requires.1) in
    c.check_windows.ensures
    ∙ ap (windows_fit 0 s.dest.now) (filled-read 1 n c.spread_windows-sizes.result (spread 1 n s.kept.now shape) (c.spread_windows-sizes.ensures ∙ ap (λ (k : ℕ). padded rank_limit 1 (spread 1 k s.kept.now shape)) q) (sym m) (omega (arith, m, c.requires.1)))
