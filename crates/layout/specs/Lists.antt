-- To be believed. The axis lists of a spec: "in range and unrepeated". Definitions only.
use Rattle.layout.specs.Answers.{Answer}
use Rattle.std.specs.Prelude.{◌||◌, cond, List, [], ◌∷◌, ◌++◌, ℕ, leb, Ok, Err}
use Rattle.indexing.specs.Coordinates.{has}
use Rattle.layout.specs.declared.Refusal.TheVariants as F

-- the first axis that is too large, or is among those before it: 6, a = axis, b = rank
unfoldable pub unique_axes : ℕ → List ℕ → List ℕ → Answer
unique_axes rank before [] = Ok tt
unique_axes rank before (a ∷ rest) = cond (leb rank a || has before a) (Err (F.InvalidAxis a rank)) (unique_axes rank (before ++ (a ∷ [])) rest)
