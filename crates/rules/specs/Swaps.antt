-- To be believed. Two ships on one i32 grid, each with a rule of its own: when they may swap order, and what each cell holds then. Definitions only.
use Rattle.std.specs.Prelude.{◌≡◌, ◌⊎◌, List, [], ◌∷◌, ◌++◌, ℕ, ◌<◌, get_or, ℤ, pos}
use Rattle.integer.specs.Defs.{min_ℤ, max_ℤ}
use Rattle.indexing.specs.Scatter.{Update, combined, landing}
use Rattle.indexing.specs.Sums.{added}
use Rattle.rules.specs.Rules.{rule_i32}
use Rattle.rules.specs.declared.Rule.{Rule}
use Rattle.rules.specs.declared.Rule.TheVariants as R

-- the least, the greatest and the last of an old value and the updates us
unfoldable pub least : ℤ → List ℤ → ℤ
least old [] = old
least old (u ∷ us) = min_ℤ u (least old us)

unfoldable pub greatest : ℤ → List ℤ → ℤ
greatest old [] = old
greatest old (u ∷ us) = max_ℤ u (greatest old us)

unfoldable pub latest : ℤ → List ℤ → ℤ
latest old [] = old
latest old (u ∷ us) = latest u us

-- what the updates us leave of an old value by a rule: the sum modulo 2^32, the least, the greatest, the last
abbrev pub leaves : Rule → ℤ → List ℤ → ℤ
leaves R.Add old us = added old us
leaves R.Lowest old us = least old us
leaves R.Highest old us = greatest old us
leaves R.Replace old us = latest old us

-- a grid with these updates put on it by a rule, in order
abbrev pub put_on : Rule → List (Update ℤ) → List ℤ → List ℤ
put_on r us grid = combined (rule_i32 r) (pos 0) us grid

-- "both use Add, both Lowest or both Highest"
pub data Alike : Rule → Rule → Type 0 where
  both-add : Alike R.Add R.Add
  both-lowest : Alike R.Lowest R.Lowest
  both-highest : Alike R.Highest R.Highest

-- "no cell gets an update from both", of a grid of n elements
abbrev pub Apart : {A : Type 0} → ℕ → List (Update A) → List (Update A) → Type 0
Apart n north south = (i : ℕ) → i < n → (landing (pos i) north ≡ []) ⊎ (landing (pos i) south ≡ [])

-- THE CONDITION under which North's updates by the rule r and South's by the rule s may swap, on a grid of n elements
abbrev pub MaySwap : ℕ → Rule → Rule → List (Update ℤ) → List (Update ℤ) → Type 0
MaySwap n r s north south = Alike r s ⊎ Apart n north south

-- WHAT A CELL HOLDS, by pairing: element i of the grid `after`, which was `grid` before North by the rule r and South by the rule s
pub record CellHolds (r s : Rule) (north south : List (Update ℤ)) (grid after : List ℤ) (i : ℕ) : Type 0 where
  -- two Adds, two Lowest, two Highest: the sum modulo 2^32, the least, the greatest of its old value and every update of either that lands on it
  pub alike : Alike r s → get_or after i (pos 0) ≡ leaves r (get_or grid i (pos 0)) (landing (pos i) north ++ landing (pos i) south)
  -- any pairing: "what the one ship that lands on it would leave there alone",
  pub north-alone : landing (pos i) south ≡ [] → get_or after i (pos 0) ≡ get_or (put_on r north grid) i (pos 0)
  pub south-alone : landing (pos i) north ≡ [] → get_or after i (pos 0) ≡ get_or (put_on s south grid) i (pos 0)
  -- "or its old value where neither lands"
  pub neither : landing (pos i) north ≡ [] → landing (pos i) south ≡ [] → get_or after i (pos 0) ≡ get_or grid i (pos 0)
