-- To be believed. The combining rules, document 02, item 1: what each makes of the old value x of a cell and an update u. Definitions only.
use Rattle.std.specs.Prelude.{cond, ℤ, Float}
use Rattle.std.specs.Int.Signed.{lt_z}
use Rattle.std.specs.Float.Ieee.{lt}
use Rattle.indexing.specs.Scatter.{add_i32, add_f64}
use Rattle.rules.specs.declared.Rule.{Rule}
use Rattle.rules.specs.declared.Rule.TheVariants as R
use Rattle.rules.specs.declared.RuleF64.{RuleF64}
use Rattle.rules.specs.declared.RuleF64.TheVariants as F

-- "take the update if it is less"; "if it is greater"
abbrev pub lowest : ℤ → ℤ → ℤ
lowest x u = cond (lt_z u x) u x

abbrev pub highest : ℤ → ℤ → ℤ
highest x u = cond (lt_z x u) u x

-- an i32 rule; Replace is the update as it is
abbrev pub rule_i32 : Rule → ℤ → ℤ → ℤ
rule_i32 R.Add x u = add_i32 x u
rule_i32 R.Lowest x u = lowest x u
rule_i32 R.Highest x u = highest x u
rule_i32 R.Replace x u = u

-- the same of f64: "a comparison with NaN is false, so the old value stands"
abbrev pub lowest_f64 : Float → Float → Float
lowest_f64 x u = cond (lt u x) u x

abbrev pub highest_f64 : Float → Float → Float
highest_f64 x u = cond (lt x u) u x

-- Ceiling: "the sum, or the limit where the sum is greater than it"
abbrev pub capped : Float → Float → Float
capped limit sum = cond (lt limit sum) limit sum

-- an f64 rule
abbrev pub rule_f64 : RuleF64 → Float → Float → Float
rule_f64 F.Add x u = add_f64 x u
rule_f64 F.Lowest x u = lowest_f64 x u
rule_f64 F.Highest x u = highest_f64 x u
rule_f64 F.Replace x u = u
rule_f64 (F.Ceiling limit) x u = capped limit (add_f64 x u)
