-- The calls in a row: a job written and read back, and bytes read and written again. Assumes nothing.
use Rattle.std.specs.Prelude.{Ok}
use mathlib.Core.Path.{◌≡◌, sym, ap, ◌∙◌}
use mathlib.Core.Bool.{true}
use mathlib.Core.List.{List}
use Prim.Native.Nat.{ℕ}
use lib.ListN.{length, take, drop}
use lib.Seq.{take-append_seam}
use Rattle.layout.specs.Answers.{is_done}
use Rattle.checks.proofs.Made.{or-done}
use Rattle.job_bytes.specs.Fields.{read}
use Rattle.job_bytes.specs.Below.{AllBelow}
use Rattle.job.specs.declared.Job.{Job}
use Rattle.job.specs.Jobs.{job_refusal}
use Rattle.job.specs.Format.{encoded, job_at}
use Rattle.job.specs.Made.{Made, stored_job, JobValue}
use Rattle.job.proofs.RoundTrip.{written_read, read-written}
use Rattle.job.proofs.Stored.{stored-made, same_bytes}
use Rattle.job_writer.specs.Written.{room_refusal, Written}

-- the bytes in front are the job's where the writer answers that it is done
module _ (j : Job) (before after : List ℕ) (w : Written j before (Ok tt) after) where
  front : take (length (encoded j)) after ≡ encoded j
  front = ap (take (length (encoded j))) w.leaves ∙ take-append_seam (encoded j) (drop (length (encoded j)) before)

  -- "Writing and reading back gives the same job": of every value what is stored of it, which has no more axes and entries than it says
  pub write_read : JobValue j → job_at (take (length (encoded j)) after) ≡ read (stored_job j) (length (encoded j))
  write_read v =
      let d : is_done (job_refusal j) ≡ true = (or-done (job_refusal j) (room_refusal j (length before)) (ap is_done (sym w.answers))).0 in
      ap job_at (front ∙ sym (same_bytes j v d)) ∙ written_read (stored_job j) (stored-made j v d) ∙ ap (λ (b : List ℕ). read (stored_job j) (length b)) (same_bytes j v d)

  -- and of a job that was made or read, that job
  pub write-read-made : Made j → job_at (take (length (encoded j)) after) ≡ read j (length (encoded j))
  write-read-made m = ap job_at front ∙ written_read j m

  -- reading and writing again gives the same bytes
  pub read-write : (bs : List ℕ) (k : ℕ) → AllBelow 256 bs → job_at bs ≡ read j k → take (length bs) after ≡ bs
  read-write bs k a e =
      let x : encoded j ≡ bs = (read-written bs j k a e).bytes in
      ap (λ (n : ℕ). take n after) (ap length (sym x)) ∙ front ∙ x
