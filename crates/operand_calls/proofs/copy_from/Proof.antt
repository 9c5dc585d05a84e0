use lib.ListN.{length}
use Rattle.integer.specs.Z.{back}
use Rattle.operand_calls.proofs.copy_from.Statement.{statement}
use Rattle.operand_calls.proofs.copy_from.Tie as tie

returns : tie.Need-returns
returns c =
    let s = c in
    let e = c in
    let f = c in
    let g = c in
    λ i. record {
      layout = record { rank = length s.args.extents.now; extents = e.padded_extents-held_extents.ensures i; strides = f.padded_strides-held_strides.ensures i };
      strides = g.padded_strides-held_dest.ensures i;
      offset = back s.ranges.offset i;
    }

pub copy_from_spec : {M : Type 1} → statement M
copy_from_spec = tie.close (tie.spec (λ c κs. tt) (λ c κs. tt) (λ c κs. tt) returns)
