-- What is found of a scatter with an operand: its first refusal, and where there is none its two walks. Definitions only.
use Rattle.std.specs.Prelude.{◌≡◌, true}
use Rattle.indexing.specs.Coordinates.{View}
use Rattle.indexing.specs.Scatter.{Scatter}
use Rattle.layout.specs.Answers.{is_done, Answer}
use Rattle.replay.specs.declared.CompiledReplay.{CompiledReplay}
use Rattle.scatter_checks.specs.declared.Examined.{Examined}
use Rattle.scatter_checks.specs.Examine.{Found}
use Rattle.operand_checks.specs.Refusals.{sizes_of, refusal_of}

-- sizes that are not refused, and the scatter without its operand, which is not refused either
pub record FoundOn (o : View) (s : Scatter) (batch window : CompiledReplay) : Type 0 where
  pub sizes : is_done (sizes_of o s) ≡ true
  pub scatter : Found s batch window

-- WHAT IS FOUND OF A SCATTER WITH AN OPERAND
pub record ExaminesOn (r : Examined) (four : Answer) (o : View) (s : Scatter) : Type 0 where
  pub answered : r.answer ≡ refusal_of four o s
  pub found : is_done r.answer ≡ true → FoundOn o s r.batch r.window
