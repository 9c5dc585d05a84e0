use Rattle.std.proofs.Common.{◌≡◌}
use Rattle.indexing.specs.Loops.{in_order}
use Rattle.windows.proofs.Levels.{below}
use Rattle.windows.proofs.+axes.Given as goal

-- the last axis of the window goes with each call
abbrev pub decreases-axes : goal.decreases-axes
decreases-axes g l = l.rank

abbrev pub invariant-loop-j : goal.invariant-loop-j
invariant-loop-j g l = l.dst ≡ in_order (below g.E.Element.absent (g.R.Combine.combined l.rule) l.src l.s l.d l.extents l.ss l.ds l.a l.b l.top) l.j l.fn.dst
