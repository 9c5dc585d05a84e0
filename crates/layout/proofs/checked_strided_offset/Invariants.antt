use Rattle.std.proofs.Common.{◌≡◌, take, drop}
use Rattle.layout.specs.Spans.{strided_offset}
use Rattle.layout.proofs.checked_strided_offset.Given as goal

abbrev pub invariant-loop-i : goal.invariant-loop-i
invariant-loop-i l = strided_offset l.offset (drop l.i (take l.fn.rank l.strides)) (drop l.i (take l.fn.rank l.index)) ≡ strided_offset l.fn.base (take l.fn.rank l.strides) (take l.fn.rank l.index)
