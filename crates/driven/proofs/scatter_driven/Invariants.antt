use Rattle.std.proofs.Common.{◌≡◌}
use Rattle.indexing.specs.Loops.{in_order}
use Rattle.windows.specs.Windows.{place_at}
use Rattle.walk.specs.Walks.{column, state_at}
use Rattle.indexed_runs.specs.IndexedRuns.{starts_moved}
use Rattle.scatter_windows.proofs.Levels.{land}
use Rattle.driven.proofs.scatter_driven.Given as goal

abbrev pub invariant-loop : goal.invariant-loop
invariant-loop g l =
    (l.state ≡ state_at l.t l.u l.shape l.rows l.rank l.counter)
    × (l.dst ≡ in_order (λ k. land g.E.Element.absent (g.R.Combine.combined l.rule) l.src l.starts l.components.offsets l.components.strides l.components.limits l.components.count l.wextents l.ws l.ds l.wrank l.d (place_at l.t l.shape (column 0 l.rows) l.rank k) (place_at l.u l.shape (column 2 l.rows) l.rank k)) l.counter l.fn.dst)
    × (l.slid ≡ starts_moved l.starts l.components.offsets l.components.limits l.components.count l.counter (place_at l.t l.shape (column 0 l.rows) l.rank))
