-- To be believed. An answer as it is exported. Definitions only.
use Rattle.std.specs.Prelude.{List, [], ◌∷◌, ℕ}
use Rattle.layout.specs.declared.CallAnswer.{CallAnswer}
use Rattle.layout.specs.Answers.{number_of, a_of, b_of, Answer}

-- an answer as it is handed back: its number, a and b, and the number that the call reports
abbrev pub words : CallAnswer → List ℕ
words x = number_of x.answer ∷ a_of x.answer ∷ b_of x.answer ∷ x.reported ∷ []

-- the answer of what moves nothing: it reports 0
abbrev pub bare : Answer → CallAnswer
bare x = record { answer = x; reported = 0 }
