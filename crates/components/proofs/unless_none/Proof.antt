use mathlib.Core.Path.{sym, ap}
use Prim.Native.Nat.{ℕ}
use native.Mathlib.Omega.{arith}
use lib.ListN.{replicate}
use lib.IntN.{pos}
use Rattle.layout.specs.Layouts.{rank_limit}
use Rattle.components.specs.Components.{unless_none}
use Rattle.components.proofs.Padded.{unless-some}
use Rattle.components.proofs.unless_none.Statement.{statement}
use Rattle.components.proofs.unless_none.Tie as tie

returns : tie.Need-returns-then-count-eq0
returns c = sym (ap (λ (m : ℕ). unless_none m (replicate rank_limit (pos 0)) c.args.steps) c.if-count-eq0.true)

returns-2 : tie.Need-returns-else-count-eq0
returns-2 c = sym (unless-some c.args.count (replicate rank_limit (pos 0)) c.args.steps (omega (arith, c.if-count-eq0.false)))

pub unless_none_spec : {M : Type 1} → statement M
unless_none_spec = tie.close (tie.spec returns returns-2)
