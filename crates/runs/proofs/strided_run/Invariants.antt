use Rattle.std.proofs.Common.{◌≡◌}
use Rattle.indexing.specs.Loops.{in_order}
use Rattle.runs.specs.Runs.{cell_at, line}
use Rattle.runs.proofs.strided_run.Given as goal

abbrev pub invariant-loop-i : goal.invariant-loop-i
invariant-loop-i g l = l.dst ≡ in_order (cell_at g.E.Element.absent (g.R.Combine.combined l.rule) l.src (line l.s l.ss) (line l.d l.ds)) l.i l.fn.dst
