use Rattle.std.proofs.Common.{◌≡◌}
use Rattle.indexing.specs.Loops.{in_order}
use Rattle.runs.specs.Runs.{cell_at, line}
use Rattle.runs_c.proofs.run.Given as goal

abbrev pub invariant-loop : goal.invariant-loop
invariant-loop g l = l.dst ≡ in_order (λ _ x. in_order (cell_at g.E.Element.absent (g.R.Combine.combined l.rule) l.src (line l.s l.ss) (line l.d l.ds)) l.n x) l.counter l.fn.dst
