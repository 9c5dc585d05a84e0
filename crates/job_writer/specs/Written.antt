-- To be believed. What the writer hands back, and what the lent bytes hold afterwards. Definitions only.
use Rattle.std.specs.Prelude.{◌≡◌, cond, List, ◌++◌, ℕ, ◌+◌, ◌≤◌, leb, length, drop, Ok, Err}
use Rattle.std.proofs.lemmas.List.Edits.{sets}
use Rattle.layout.specs.Answers.{is_done, or_else, Answer}
use Rattle.job.specs.declared.Job.{Job}
use Rattle.job.specs.Jobs.{job_refusal}
use Rattle.job.specs.Format.{encoded}
use Rattle.layout.specs.declared.Refusal.TheVariants as F

-- a part, stored from a place on, and the place after it
pub record Put (before after : List ℕ) (at : ℕ) (part : List ℕ) (next : ℕ) : Type 0 where
  pub cells : after ≡ sets before at part
  pub place : next ≡ at + length part

-- 9, "a = 0, b = bytes a writer needs", of a job and the bytes that are lent
abbrev pub room_refusal : Job → ℕ → Answer
room_refusal job room = cond (leb (length (encoded job)) room) (Ok tt) (Err (F.BufferBounds 0 (length (encoded job))))

-- what the writer answers: 2 and 5 of the job, then 9
abbrev pub written_answer : Job → ℕ → Answer
written_answer job room = or_else (job_refusal job) (room_refusal job room)

-- the lent bytes afterwards: the job's in front, "bytes past a written job stay"; a refusal changes no byte
abbrev pub written_left : Answer → Job → List ℕ → List ℕ
written_left answer job before = cond (is_done answer) (encoded job ++ drop (length (encoded job)) before) before

-- a job that is stored where there is room
pub record PutJob (job : Job) (before : List ℕ) (answer : Answer) (after : List ℕ) : Type 0 where
  pub answers : answer ≡ room_refusal job (length before)
  pub leaves : after ≡ written_left answer job before

-- WHAT THE WRITER DOES
pub record Written (job : Job) (before : List ℕ) (answer : Answer) (after : List ℕ) : Type 0 where
  pub answers : answer ≡ written_answer job (length before)
  pub leaves : after ≡ written_left answer job before

-- how many bytes a part takes, and that they are not more than so many
pub record Sized (part : List ℕ) (limit size : ℕ) : Type 0 where
  pub is : size ≡ length part
  pub most : size ≤ limit
