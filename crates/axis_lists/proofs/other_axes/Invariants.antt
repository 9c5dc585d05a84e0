use Rattle.std.proofs.Common.{◌≡◌, ◌≤◌, ◌-◌, min, length}
use lib.ListN.{drop}
use Rattle.indexing.specs.Coordinates.{others, others_from}
use Rattle.layout.specs.Layouts.{rank_limit}
use Rattle.axis_lists.proofs.Filling.{written}
use Rattle.axis_lists.proofs.other_axes.Given as goal

-- those below i are written, and those from i on are left
abbrev pub invariant-loop-i : goal.invariant-loop-i
invariant-loop-i l = record {
  counted : l.count ≤ length (others (min l.n rank_limit) l.list);
  stored : l.entries ≡ written 0 (others (min l.n rank_limit) l.list) l.count;
  left : drop l.count (others (min l.n rank_limit) l.list) ≡ others_from l.i (min l.n rank_limit - l.i) l.list;
}
