-- To be believed. Document 01, "The number handed back": the number, a and b of each answer. 18 is ours, for a rule that an exported call names by an
-- unlisted number; 11 to 17 are document 02's. Definitions only.
use Rattle.std.specs.Prelude.{Bool, true, false, cond, ℕ, Result, Ok, Err}
use Rattle.layout.specs.declared.Refusal.{Refusal}
use Rattle.layout.specs.declared.Refusal.TheVariants.{StrideLengthMismatch, RankTooLarge, OffsetOverflow, NonInjectiveOutputLayout, RankMismatch, InvalidAxis, ShapeMismatch, PlanLayoutMismatch, BufferBounds, JobBytes, UnlistedRule}

-- an answer: that it is done, or a refusal
abbrev pub Answer : Type 0
Answer = Result (Unit {0}) Refusal

abbrev pub refusal_number : Refusal → ℕ
refusal_number StrideLengthMismatch = 1
refusal_number (RankTooLarge a b) = 2
refusal_number OffsetOverflow = 3
refusal_number NonInjectiveOutputLayout = 4
refusal_number (RankMismatch a b) = 5
refusal_number (InvalidAxis a b) = 6
refusal_number (ShapeMismatch a b) = 7
refusal_number PlanLayoutMismatch = 8
refusal_number (BufferBounds a b) = 9
refusal_number (JobBytes a) = 10
refusal_number (UnlistedRule a) = 18

abbrev pub refusal_a : Refusal → ℕ
refusal_a StrideLengthMismatch = 0
refusal_a (RankTooLarge a b) = a
refusal_a OffsetOverflow = 0
refusal_a NonInjectiveOutputLayout = 0
refusal_a (RankMismatch a b) = a
refusal_a (InvalidAxis a b) = a
refusal_a (ShapeMismatch a b) = a
refusal_a PlanLayoutMismatch = 0
refusal_a (BufferBounds a b) = a
refusal_a (JobBytes a) = a
refusal_a (UnlistedRule a) = a

abbrev pub refusal_b : Refusal → ℕ
refusal_b StrideLengthMismatch = 0
refusal_b (RankTooLarge a b) = b
refusal_b OffsetOverflow = 0
refusal_b NonInjectiveOutputLayout = 0
refusal_b (RankMismatch a b) = b
refusal_b (InvalidAxis a b) = b
refusal_b (ShapeMismatch a b) = b
refusal_b PlanLayoutMismatch = 0
refusal_b (BufferBounds a b) = b
refusal_b (JobBytes a) = 0
refusal_b (UnlistedRule a) = 0

-- "Returned": 0 means done
abbrev pub number_of : Answer → ℕ
number_of (Ok _) = 0
number_of (Err e) = refusal_number e

-- "a and b (0 if unnamed)"
abbrev pub a_of : Answer → ℕ
a_of (Ok _) = 0
a_of (Err e) = refusal_a e

abbrev pub b_of : Answer → ℕ
b_of (Ok _) = 0
b_of (Err e) = refusal_b e

abbrev pub is_done : Answer → Bool
is_done (Ok _) = true
is_done (Err e) = false

-- "first hit counts": the first answer that is not done
abbrev pub or_else : Answer → Answer → Answer
or_else x y = cond (is_done x) y x
