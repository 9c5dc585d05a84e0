-- What a call by a stored job decides. Assumes nothing.
use mathlib.Core.Path.{◌≡◌, sym, ap, subst}
use Prim.Native.Nat.{ℕ}
use lib.IntN.{ℤ}
use Rattle.indexing.specs.Gather.{Gather}
use Rattle.indexing.specs.Scatter.{Scatter}
use Rattle.layout.specs.Answers.{or_else}
use Rattle.calls.specs.Calls.{bounds_refusal}
use Rattle.gather_checks.specs.Refusals.{compile_refusal as compile-gather}
use Rattle.gather_lists.proofs.Lent.{placed-answer as gather-placed}
use Rattle.scatter_checks.specs.Refusals.{compile_refusal as compile-scatter}
use Rattle.scatter_lists.proofs.Lent.{placed-answer as scatter-placed}
use Rattle.job.specs.declared.Element.{Element}
use Rattle.job.specs.declared.Kind.TheVariants as K
use Rattle.job_reader.specs.declared.ReadJob.{ReadJob}
use Rattle.gather_lists.specs.Lists as gathers
use Rattle.gather_move.specs.declared.PreparedGather.{PreparedGather}
use Rattle.scatter_lists.specs.Lists as scatters
use Rattle.scatter_move.specs.declared.PreparedScatter.{PreparedScatter}
use Rattle.job_calls.specs.Jobs.{read_refusal, held_gather, held_scatter, job_gather, job_scatter, gather_answer, scatter_answer}

-- ---- the same lists
pub gather-listed : {g h : Gather} (r : PreparedGather) (a b c : ℤ) (on sn dn : ℕ) → g ≡ h → gathers.ListedAt r g a b c on sn dn → gathers.ListedAt r h a b c on sn dn
gather-listed r a b c on sn dn e p = subst (λ (x : Gather). gathers.ListedAt r x a b c on sn dn) e p

pub scatter-listed : {s h : Scatter} (r : PreparedScatter) (a b c : ℤ) (sn un dn : ℕ) → s ≡ h → scatters.ListedAt r s a b c sn un dn → scatters.ListedAt r h a b c sn un dn
scatter-listed r a b c sn un dn e p = subst (λ (x : Scatter). scatters.ListedAt r x a b c sn un dn) e p

-- ---- 8 does not come of a stored job: its views have the layouts that are compiled for, and what follows compile's refusal is 9
pub gather-without-eight : (e : Element) (r : ReadJob) (on sn dn : ℕ)
    → gather_answer e r on sn dn
    ≡ or_else (read_refusal K.Gather e r) (or_else (compile-gather (held_gather r.job)) (bounds_refusal (job_gather r.job).operand (job_gather r.job).indices (job_gather r.job).result on sn dn))
gather-without-eight e r on sn dn =
    ap (or_else (read_refusal K.Gather e r)) (sym (gather-placed (held_gather r.job) r.job.views.first.offset r.job.views.second.offset r.job.views.third.offset on sn dn))

pub scatter-without-eight : (e : Element) (r : ReadJob) (sn un dn : ℕ)
    → scatter_answer e r sn un dn
    ≡ or_else (read_refusal K.Scatter e r) (or_else (compile-scatter (held_scatter r.job)) (bounds_refusal (job_scatter r.job).indices (job_scatter r.job).updates (job_scatter r.job).result sn un dn))
scatter-without-eight e r sn un dn =
    ap (or_else (read_refusal K.Scatter e r)) (sym (scatter-placed (held_scatter r.job) r.job.views.first.offset r.job.views.second.offset r.job.views.third.offset sn un dn))
