use mathlib.Core.Path.{sym, ap, ◌∙◌}
use Prim.Native.Nat.{ℕ}
use native.Mathlib.Omega.{arith}
use lib.IntN.{pos}
use Rattle.integer.specs.Z.{back}
use Rattle.components.specs.Components.{unless_none}
use Rattle.components.proofs.Padded.{unless-some}
use Rattle.components.proofs.start_base.Statement.{statement}
use Rattle.components.proofs.start_base.Tie as tie

returns : tie.Need-returns-then-count-eq0
returns c = sym (ap (λ (m : ℕ). unless_none m (pos 0) c.args.offset) c.if-count-eq0.true)

returns-2 : tie.Need-returns-else-count-eq0
returns-2 c = back c.ranges.offset ∙ sym (unless-some c.args.count (pos 0) c.args.offset (omega (arith, c.if-count-eq0.false)))

pub start_base_spec : {M : Type 1} → statement M
start_base_spec = tie.close (tie.spec returns returns-2)
