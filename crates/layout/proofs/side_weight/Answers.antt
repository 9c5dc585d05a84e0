use Rattle.std.specs.Prelude.{◌≡◌, Bool, true, false, ℕ, ℤ, pos, negsuc, Some}
use Rattle.std.proofs.Common.{sym, ap, ◌∙◌, arith, true≢false}
use mathlib.Core.Bool.{beq}
use lib.Signed.{lt_z}
use lib.Dec.{ltb}
use Rattle.std.proofs.lemmas.Bool.{le-ltb}
use Rattle.integer.specs.Defs.{checked_u}
use Rattle.integer.specs.Machine.{checked_u-yes}
use Rattle.integer.specs.Z.{back}
use Rattle.layout.specs.Sums.{side_weight}
use Rattle.layout.proofs.side_weight.Goals as goal

other-side : (below : Bool) (d : ℕ) (s : ℤ) → beq below (lt_z s (pos 0)) ≡ false → Some 0 ≡ checked_u (side_weight below d s)
other-side true d (pos n) h = checked_u-yes 0 (omega arith)
other-side true d (negsuc n) h = absurd (true≢false h)
other-side false d (pos n) h = let z : ltb n 0 ≡ false = le-ltb n 0 (omega arith) in absurd (true≢false (ap (beq false) (sym z) ∙ h))
other-side false d (negsuc n) h = checked_u-yes 0 (omega arith)

pub returns-else-below-stride : goal.returns-else-below-stride
returns-else-below-stride c = other-side _ _ _ (ap (λ (z : ℤ). beq c.args.below (lt_z z (pos 0))) (sym (back c.ranges.stride)) ∙ c.if-below-stride.false)
