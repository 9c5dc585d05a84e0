-- Lists of updates and of reads, of any element type: what one element holds at the end, and what order cannot change. Assumes nothing.
use Rattle.std.specs.Prelude.{pos}
use mathlib.Core.List.{List, [], ◌∷◌}
use Rattle.indexing.specs.Gather.{Read}

-- ---- what an element gets

-- x and then each of the updates, in order, by the rule
unfoldable pub in_turn : {A : Type 0} → (A → A → A) → A → List A → A
in_turn rule x [] = x
in_turn rule x (u ∷ us) = in_turn rule (rule x u) us

-- ---- reads

-- what stands for no read
abbrev pub no_read : Read
no_read = (pos 0, pos 0)
