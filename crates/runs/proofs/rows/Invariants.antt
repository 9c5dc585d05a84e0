use Rattle.std.proofs.Common.{◌≡◌, pos}
use Rattle.indexing.specs.Loops.{in_order}
use Rattle.runs.specs.Runs.{run_at}
use Rattle.runs.proofs.rows.Given as goal

abbrev pub invariant-loop-j : goal.invariant-loop-j
invariant-loop-j g l = l.dst ≡ in_order (run_at g.E.Element.absent (g.R.Combine.combined l.rule) l.src l.s l.d (pos 1) (pos 1) l.st l.dt l.n) l.j l.fn.dst
