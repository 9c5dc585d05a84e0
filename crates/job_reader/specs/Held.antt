-- To be believed. The head of a job, and the job, as they are handed back by value. Definitions only.
use Rattle.std.specs.Prelude.{Result, Ok, Err}
use Rattle.layout.specs.declared.Refusal.TheVariants as F
use Rattle.job_bytes.specs.Fields.{Field, read, fault, held_as}
use Rattle.job_bytes.specs.declared.Read.{Read}
use Rattle.job_bytes.specs.declared.Fault.{Fault}
use Rattle.job.specs.declared.Kind.{Kind}
use Rattle.job.specs.declared.Element.{Element}
use Rattle.job.specs.declared.Job.{Job}
use Rattle.job_reader.specs.declared.Head.{Head}
use Rattle.job_reader.specs.declared.ReadJob.{ReadJob}
use Rattle.job.specs.Jobs.{no_job}

abbrev pub head_of : Kind × Element → Head
head_of h = record { kind = h.0; element = h.1 }

abbrev pub held_head : Field (Kind × Element) → Result (Read Head) Fault
held_head f = held_as head_of f

-- what is handed back: the job; or 10, "a = place in a stored job", with the job of nothing in its place
abbrev pub read_job : Field Job → ReadJob
read_job (read j k) = record { answer = Ok tt; job = j }
read_job (fault k) = record { answer = Err (F.JobBytes k); job = no_job }
