-- Numbers that are made of any arguments, where one that does not fit counts as 0. Of what is not refused they are the numbers themselves. Definitions only.
use Rattle.std.specs.Prelude.{List, ℕ, ℤ, pos, Option, Some, None}
use Rattle.layout.specs.Spans.{total_of, reset_of, offset_add}

-- a number that fits, or 0
abbrev pub value_of : Option ℤ → ℤ
value_of (Some z) = z
value_of None = pos 0

abbrev pub value_of_u : Option ℕ → ℕ
value_of_u (Some n) = n
value_of_u None = 0

abbrev pub reset_or : ℕ → ℤ → ℤ
reset_or d s = value_of (reset_of d s)

abbrev pub offset_or : ℤ → ℕ → ℤ
offset_or stride c = value_of (offset_add (pos 0) stride c)

abbrev pub total_or : List ℕ → ℕ
total_or ds = value_of_u (total_of ds)
