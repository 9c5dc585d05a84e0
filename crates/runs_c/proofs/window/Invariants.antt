use Rattle.std.proofs.Common.{◌≡◌}
use Rattle.indexing.specs.Loops.{in_order}
use Rattle.windows.specs.Windows.{windowed}
use Rattle.runs_c.proofs.window.Given as goal

abbrev pub invariant-loop : goal.invariant-loop
invariant-loop g l = l.dst ≡ in_order (λ _ x. windowed g.E.Element.absent (g.R.Combine.combined l.rule) l.src l.s l.d l.extents l.ss l.ds l.rank x) l.counter l.fn.dst
