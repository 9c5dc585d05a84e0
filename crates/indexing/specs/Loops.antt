-- Gather and scatter as loops: what they leave is what stands after the last turn, and each turn stores one element. Assumes nothing.
use Rattle.std.specs.Prelude.{ℕ, zero, suc}

-- the turns 0, 1, .., n − 1, one after the other
unfoldable pub in_order : {C : Type 0} → (ℕ → C → C) → ℕ → C → C
in_order turn zero x = x
in_order turn (suc n) x = turn n (in_order turn n x)
