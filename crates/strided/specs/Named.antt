-- To be believed. The rule of an exported scatter, by the number that stands for it. Definitions only.
use Rattle.std.specs.Prelude.{cond, ◌&&◌, ℕ, eqb, leb, Float, Ok, Err}
use Rattle.layout.specs.Answers.{or_else, Answer}
use Rattle.rules.specs.declared.Rule.{Rule}
use Rattle.rules.specs.declared.Rule.TheVariants as R
use Rattle.rules.specs.declared.RuleF64.{RuleF64}
use Rattle.rules.specs.declared.RuleF64.TheVariants as F
use Rattle.calls.specs.Calls.{ScatterCall}
use Rattle.layout.specs.declared.Refusal.TheVariants as A

-- 1 Add, 2 Lowest, 3 Highest, 4 Replace; for f64 also 5 Ceiling, with the limit that is given beside
abbrev pub rule_of : ℕ → Rule
rule_of n = cond (eqb n 1) R.Add (cond (eqb n 2) R.Lowest (cond (eqb n 3) R.Highest R.Replace))

abbrev pub rule_f64_of : ℕ → Float → RuleF64
rule_f64_of n limit = cond (eqb n 1) F.Add (cond (eqb n 2) F.Lowest (cond (eqb n 3) F.Highest (cond (eqb n 4) F.Replace (F.Ceiling limit))))

-- the listed numbers: from 1 up to
abbrev pub rules_i32 : ℕ
rules_i32 = 4

abbrev pub rules_f64 : ℕ
rules_f64 = 5

-- 18: the number is not listed
abbrev pub rule_refusal : ℕ → ℕ → Answer
rule_refusal most n = cond (leb 1 n && leb n most) (Ok tt) (Err (A.UnlistedRule n))

-- a call that names its rule by a number: 18 comes before all other refusals
abbrev pub named : {A : Type 0} → ℕ → ℕ → ScatterCall A → ScatterCall A
named most n c = record { answer = λ k. or_else (rule_refusal most n) (c.answer k); scatter = c.scatter; starts = c.starts; updates = c.updates }
