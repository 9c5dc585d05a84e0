use mathlib.Core.Path.{ap, ◌∙◌}
use Rattle.job_reader.specs.declared.ReadJob.{ReadJob}
use Rattle.strided.specs.Words.{words, bare}
use Rattle.strided.proofs.strided_read_job.Statement.{statement}
use Rattle.strided.proofs.strided_read_job.Tie as tie

returns : tie.Need-returns
returns c = c.bare_words.ensures ∙ ap (λ (r : ReadJob). words (bare r.answer)) c.read_job-r.ensures

pub strided_read_job_spec : {M : Type 1} → statement M
strided_read_job_spec = tie.close (tie.spec (λ c κs. tt) (λ c κs. tt) returns)
