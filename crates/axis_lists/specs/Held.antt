-- To be believed. Lists as they are held by value. Definitions only.
use Rattle.std.specs.Prelude.{◌≡◌, Bool, true, false, ◌&&◌, List, [], ◌∷◌, ℕ, eqb, length, take, ℤ, pos}
use Rattle.layout.specs.Layouts.{rank_limit, padded}
use Rattle.axis_lists.specs.declared.AxisList.{AxisList}

abbrev pub Numbers : Type 0
Numbers = AxisList ℕ

abbrev pub Steps : Type 0
Steps = AxisList ℤ

-- what is read of a list
abbrev pub entries_of : {A : Type 0} → AxisList A → List A
entries_of l = take l.count l.entries

abbrev pub numbers_of : Numbers → List ℕ
numbers_of = entries_of

abbrev pub steps_of : Steps → List ℤ
steps_of = entries_of

-- how a list is held: z past its end, which is 0 in a plan
abbrev pub held : {A : Type 0} → A → List A → AxisList A
held z l = record { count = length l; entries = padded rank_limit z l }

abbrev pub held_numbers : List ℕ → Numbers
held_numbers = held 0

abbrev pub held_steps : List ℤ → Steps
held_steps = held (pos 0)

-- the flag r says exactly whether a and b are the same
pub record Decides {A : Type 0} (r : Bool) (a b : A) : Type 0 where
  pub yes : r ≡ true → a ≡ b
  pub no : a ≡ b → r ≡ true

-- whether two lists are the same
unfoldable pub same_list : List ℕ → List ℕ → Bool
same_list [] [] = true
same_list [] (b ∷ ys) = false
same_list (a ∷ xs) [] = false
same_list (a ∷ xs) (b ∷ ys) = eqb a b && same_list xs ys
