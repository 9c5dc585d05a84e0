-- To be believed. "A read job is handed back to be compiled and called": a call by a stored job. Definitions only.
use Rattle.std.specs.Prelude.{List, ℕ, length, ℤ, Ok, Err}
use Rattle.indexing.specs.Gather.{Gather}
use Rattle.indexing.specs.Scatter.{Scatter}
use Rattle.layout.specs.declared.Layout.{Layout}
use Rattle.layout.specs.Answers.{or_else, Answer}
use Rattle.layout.specs.Layouts.{extents_of, strides_of}
use Rattle.calls.specs.Calls.{GatherCall, ScatterCall}
use Rattle.job.specs.declared.Kind.{Kind}
use Rattle.job.specs.declared.Kind.TheVariants as K
use Rattle.job.specs.declared.Element.{Element}
use Rattle.job.specs.declared.Element.TheVariants as E
use Rattle.job.specs.declared.Spec.{Spec}
use Rattle.job.specs.declared.Job.{Job}
use Rattle.job.specs.Jobs.{entries_of}
use Rattle.job.specs.Format.{job_at}
use Rattle.job_reader.specs.declared.ReadJob.{ReadJob}
use Rattle.job_reader.specs.Held.{read_job}
use Rattle.gather_checks.specs.Refusals.{gather_from}
use Rattle.gather_lists.specs.Lists as gathers
use Rattle.scatter_checks.specs.Refusals.{scatter_from}
use Rattle.scatter_lists.specs.Lists as scatters
use Rattle.layout.specs.declared.Refusal.TheVariants as F

-- the gather, or the scatter, that the layouts and the spec of a job describe
abbrev pub gather_with : Layout → Layout → Layout → Spec → Gather
gather_with o i d s =
    gather_from (extents_of o) (strides_of o) (extents_of i) (strides_of i) (extents_of d) (strides_of d)
    (entries_of s.window_dims) (entries_of s.unit_dims) (entries_of s.start_map) s.index_vector_dim (entries_of s.slice_sizes)

abbrev pub scatter_with : Layout → Layout → Layout → Spec → Scatter
scatter_with i u d s =
    scatter_from (extents_of i) (strides_of i) (extents_of u) (strides_of u) (extents_of d) (strides_of d)
    (entries_of s.window_dims) (entries_of s.unit_dims) (entries_of s.start_map) s.index_vector_dim

abbrev pub held_gather : Job → Gather
held_gather j = gather_with j.views.first.layout j.views.second.layout j.views.third.layout j.spec

abbrev pub held_scatter : Job → Scatter
held_scatter j = scatter_with j.views.first.layout j.views.second.layout j.views.third.layout j.spec

-- on the views of the job
abbrev pub job_gather : Job → Gather
job_gather j = gathers.placed (held_gather j) j.views.first.offset j.views.second.offset j.views.third.offset

abbrev pub job_scatter : Job → Scatter
job_scatter j = scatters.placed (held_scatter j) j.views.first.offset j.views.second.offset j.views.third.offset

-- a job of another kind or element than the one that is asked for: 10, with the place of the kind byte or of the element byte
abbrev pub kind_answer : Kind → Kind → Answer
kind_answer K.Gather K.Gather = Ok tt
kind_answer K.Gather K.Scatter = Err (F.JobBytes 5)
kind_answer K.Scatter K.Gather = Err (F.JobBytes 5)
kind_answer K.Scatter K.Scatter = Ok tt

abbrev pub element_answer : Element → Element → Answer
element_answer E.I32 E.I32 = Ok tt
element_answer E.I32 E.F64 = Err (F.JobBytes 6)
element_answer E.F64 E.I32 = Err (F.JobBytes 6)
element_answer E.F64 E.F64 = Ok tt

-- the reader's refusal, then that of another kind or element
abbrev pub read_refusal : Kind → Element → ReadJob → Answer
read_refusal k e r = or_else r.answer (or_else (kind_answer r.job.kind k) (element_answer r.job.element e))

-- then those of the call by the job's lists and views, given the lengths of their slices
abbrev pub gather_answer : Element → ReadJob → ℕ → ℕ → ℕ → Answer
gather_answer e r on sn dn = or_else (read_refusal K.Gather e r) (gathers.lists_answer (held_gather r.job) (job_gather r.job) on sn dn)

abbrev pub scatter_answer : Element → ReadJob → ℕ → ℕ → ℕ → Answer
scatter_answer e r sn un dn = or_else (read_refusal K.Scatter e r) (scatters.lists_answer (held_scatter r.job) (job_scatter r.job) sn un dn)

-- A GATHER, AND A SCATTER, CALLED BY A STORED JOB
abbrev pub gather_by_job : Element → List ℕ → List ℤ → GatherCall
gather_by_job e bytes starts = record { answer = λ on dn. gather_answer e (read_job (job_at bytes)) on (length starts) dn; gather = job_gather (read_job (job_at bytes)).job; starts = starts }

abbrev pub scatter_by_job : {A : Type 0} → Element → List ℕ → List ℤ → List A → ScatterCall A
scatter_by_job e bytes starts updates = record { answer = λ n. scatter_answer e (read_job (job_at bytes)) (length starts) (length updates) n; scatter = job_scatter (read_job (job_at bytes)).job; starts = starts; updates = updates }
