use Rattle.std.proofs.Common.{◌≡◌}
use Rattle.indexing.specs.Coordinates.{tabulate}
use Rattle.layout.specs.Layouts.{rank_limit}
use Rattle.axis_lists.proofs.Filling.{written}
use Rattle.components.specs.Components.{limit_at}
use Rattle.components.proofs.limits_on.Given as goal

abbrev pub invariant-loop-i : goal.invariant-loop-i
invariant-loop-i l = l.out ≡ written 0 (tabulate rank_limit (limit_at l.extents l.sizes l.map)) l.i
