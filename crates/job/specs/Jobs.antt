-- To be believed. A job by value, from extents, strides, offsets and lists: the refusals 1, 2 and 5. Definitions only.
use Rattle.std.specs.Prelude.{cond, List, [], ℕ, leb, length, take, ℤ, pos, Ok, Err}
use Rattle.layout.specs.declared.View.{View}
use Rattle.layout.specs.Answers.{is_done, or_else, Answer}
use Rattle.layout.specs.Layouts.{padded, layout_of, stride_length}
use Rattle.job_bytes.specs.Version.{stored_rank_limit, list_limit}
use Rattle.job.specs.declared.Kind.{Kind}
use Rattle.job.specs.declared.Kind.TheVariants as K
use Rattle.job.specs.declared.Element.{Element}
use Rattle.job.specs.declared.Element.TheVariants as E
use Rattle.job.specs.declared.List16.{List16}
use Rattle.job.specs.declared.Views.{Views}
use Rattle.job.specs.declared.Spec.{Spec}
use Rattle.job.specs.declared.Job.{Job}
use Rattle.job.specs.declared.MadeJob.{MadeJob}
use Rattle.layout.specs.declared.Refusal.TheVariants as F

-- a list as it is held, with zeros past its end, and what is read of it again
abbrev pub held_list : List ℕ → List16
held_list l = record { count = length l; entries = padded list_limit 0 l }

abbrev pub entries_of : List16 → List ℕ
entries_of l = take l.count l.entries

-- a view
abbrev pub view_of : List ℕ → List ℤ → ℤ → View
view_of es ss offset = record { layout = layout_of es ss; offset = offset }

abbrev pub views_of : View → View → View → Views
views_of a b c = record { first = a; second = b; third = c }

-- a spec: window axes, collapsed or inserted axes, map, vector axis, slice sizes (none in a scatter)
abbrev pub spec_of : List ℕ → List ℕ → List ℕ → ℕ → List ℕ → Spec
spec_of window unit map vector sizes =
    record { window_dims = held_list window; unit_dims = held_list unit; start_map = held_list map; index_vector_dim = vector; slice_sizes = held_list sizes }

-- the job of no axes and no entries
abbrev pub no_views : Views
no_views = views_of (view_of [] [] (pos 0)) (view_of [] [] (pos 0)) (view_of [] [] (pos 0))

abbrev pub no_job : Job
no_job = record { kind = K.Gather; element = E.I32; views = no_views; spec = spec_of [] [] [] 0 [] }

-- 2: a rank above what is stored
abbrev pub rank_stored : ℕ → Answer
rank_stored n = cond (leb n stored_rank_limit) (Ok tt) (Err (F.RankTooLarge n stored_rank_limit))

-- 5: "list length against 16"
abbrev pub list_at_most : ℕ → Answer
list_at_most n = cond (leb n list_limit) (Ok tt) (Err (F.RankMismatch n list_limit))

-- "The writer refuses by 1, 2, 5": each for the views in order, or for the lists as they are declared
unfoldable pub views_refusal : ℕ → ℕ → ℕ → ℕ → ℕ → ℕ → Answer
views_refusal e1 s1 e2 s2 e3 s3 =
    or_else (stride_length e1 s1) (or_else (stride_length e2 s2) (or_else (stride_length e3 s3)
    (or_else (rank_stored e1) (or_else (rank_stored e2) (rank_stored e3)))))

unfoldable pub lists_refusal : ℕ → ℕ → ℕ → ℕ → Answer
lists_refusal a b c d = or_else (list_at_most a) (or_else (list_at_most b) (or_else (list_at_most c) (list_at_most d)))

-- the slice sizes that are stored, "which a scatter's spec has not"
abbrev pub stored_sizes : Kind → List16 → List16
stored_sizes K.Gather l = l
stored_sizes K.Scatter l = held_list []

-- the same of a job by value, which has as many strides as extents
abbrev pub job_refusal : Job → Answer
job_refusal j =
    or_else (views_refusal j.views.first.layout.rank j.views.first.layout.rank j.views.second.layout.rank j.views.second.layout.rank j.views.third.layout.rank j.views.third.layout.rank)
    (lists_refusal j.spec.window_dims.count j.spec.unit_dims.count j.spec.start_map.count (stored_sizes j.kind j.spec.slice_sizes).count)

-- the job, or the refusal with the job of nothing in its place
abbrev pub made_job : Answer → Job → MadeJob
made_job x j = cond (is_done x) (record { answer = x; job = j }) (record { answer = x; job = no_job })

-- a job from its parts, if none is refused
unfoldable pub job_from : Kind → Element → List ℕ → List ℤ → ℤ → List ℕ → List ℤ → ℤ → List ℕ → List ℤ → ℤ → List ℕ → List ℕ → List ℕ → ℕ → List ℕ → MadeJob
job_from kind element e1 s1 o1 e2 s2 o2 e3 s3 o3 window unit map vector sizes =
    made_job (or_else (views_refusal (length e1) (length s1) (length e2) (length s2) (length e3) (length s3)) (lists_refusal (length window) (length unit) (length map) (length sizes)))
    (record { kind = kind; element = element; views = views_of (view_of e1 s1 o1) (view_of e2 s2 o2) (view_of e3 s3 o3); spec = spec_of window unit map vector sizes })
