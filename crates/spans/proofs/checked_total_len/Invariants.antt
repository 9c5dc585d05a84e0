use Rattle.std.proofs.Common.{◌≡◌, drop}
use Rattle.layout.specs.Spans.{total_from, total_of}
use Rattle.spans.proofs.checked_total_len.Given as goal

abbrev pub invariant-loop-extent : goal.invariant-loop-extent
invariant-loop-extent l = total_from l.total (drop l.extent-index l.extents) ≡ total_of l.extents
