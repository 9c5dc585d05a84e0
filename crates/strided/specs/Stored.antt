-- To be believed. Stored jobs as they are exported. Definitions only.
use Rattle.std.specs.Prelude.{◌≡◌, cond, List, ℕ, eqb, length, Err}
use Rattle.layout.specs.Answers.{or_else, Answer}
use Rattle.job.specs.declared.MadeJob.{MadeJob}
use Rattle.job.specs.Jobs.{no_job}
use Rattle.job_writer.specs.Written.{written_answer, written_left}
use Rattle.strided.specs.Words.{words, bare}
use Rattle.layout.specs.declared.Refusal.TheVariants as F

-- "element byte 1 i32 or 2 f64": a job of any other element is refused by 10, at that byte, before all else
abbrev pub element_listed : ℕ → MadeJob → MadeJob
element_listed e m = cond (eqb e 1) m (cond (eqb e 2) m (record { answer = Err (F.JobBytes 6); job = no_job }))

-- the refusal by which a job was not made, then the writer's, given the bytes that are lent
abbrev pub stored_answer : MadeJob → ℕ → Answer
stored_answer m room = or_else m.answer (written_answer m.job room)

-- what the lent bytes then hold
abbrev pub stored_left : MadeJob → List ℕ → List ℕ
stored_left m before = written_left (stored_answer m (length before)) m.job before

-- a job made and written, the answer not yet in words
pub record Stored (m : MadeJob) (before after : List ℕ) (answer : Answer) : Type 0 where
  pub answered : answer ≡ stored_answer m (length before)
  pub left : after ≡ stored_left m before

-- WHAT AN EXPORTED WRITER DOES: it hands back these four words and leaves this in the lent bytes
pub record StoredAs (m : MadeJob) (before after : List ℕ) (answer : List ℕ) : Type 0 where
  pub answered : answer ≡ words (bare (stored_answer m (length before)))
  pub left : after ≡ stored_left m before
