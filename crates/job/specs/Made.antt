-- Jobs that have a stored form of their own: those that the makers make and that the reader hands back. Definitions only.
use Rattle.std.specs.Prelude.{◌≡◌, List, [], ℕ, ◌≤◌, ◌<◌, ◌^◌, length, ℤ}
use Rattle.std.specs.Int.{w64}
use Rattle.std.proofs.Common.{SFits}
use Rattle.layout.specs.declared.View.{View}
use Rattle.layout.specs.Layouts.{rank_limit, extents_of, strides_of}
use Rattle.job_bytes.specs.Version.{stored_rank_limit, list_limit}
use Rattle.job_bytes.specs.Below.{AllBelow, AllFit}
use Rattle.job.specs.declared.Kind.{Kind}
use Rattle.job.specs.declared.Kind.TheVariants as K
use Rattle.job.specs.declared.List16.{List16}
use Rattle.job.specs.declared.Spec.{Spec}
use Rattle.job.specs.declared.Job.{Job}
use Rattle.job.specs.Jobs.{held_list, entries_of, view_of, views_of, spec_of, stored_sizes}

-- as many strides as extents, no more than are stored; each number one that a u64 or an i64 holds
pub record MadeView (v : View) : Type 0 where
  pub extents : List ℕ
  pub strides : List ℤ
  pub offset : ℤ
  pub is : v ≡ view_of extents strides offset
  pub same : length strides ≡ length extents
  pub few : length extents ≤ stored_rank_limit
  pub words : AllBelow (2 ^ 64) extents
  pub fits : AllFit strides
  pub fit : SFits w64 offset

-- no more entries than are stored
pub record MadeList (l : List16) : Type 0 where
  pub entries : List ℕ
  pub is : l ≡ held_list entries
  pub few : length entries ≤ list_limit
  pub words : AllBelow (2 ^ 64) entries

-- a scatter has no slice sizes
abbrev pub MadeSizes : Kind → List16 → Type 0
MadeSizes K.Gather l = MadeList l
MadeSizes K.Scatter l = l ≡ held_list []

pub record MadeSpec (kind : Kind) (s : Spec) : Type 0 where
  pub window : MadeList s.window_dims
  pub unit : MadeList s.unit_dims
  pub start : MadeList s.start_map
  pub vector : s.index_vector_dim < 2 ^ 64
  pub sizes : MadeSizes kind s.slice_sizes

pub record Made (j : Job) : Type 0 where
  pub first : MadeView j.views.first
  pub second : MadeView j.views.second
  pub third : MadeView j.views.third
  pub spec : MadeSpec j.kind j.spec

-- ---- a job by value, whoever made it
-- what is stored of it: nothing past its ranks and counts
abbrev pub stored_view : View → View
stored_view v = view_of (extents_of v.layout) (strides_of v.layout) v.offset

unfoldable pub stored_job : Job → Job
stored_job j =
    record {
      kind = j.kind;
      element = j.element;
      views = views_of (stored_view j.views.first) (stored_view j.views.second) (stored_view j.views.third);
      spec = spec_of (entries_of j.spec.window_dims) (entries_of j.spec.unit_dims) (entries_of j.spec.start_map) j.spec.index_vector_dim (entries_of (stored_sizes j.kind j.spec.slice_sizes));
    }

-- what every value of the types has: arrays of their lengths, and numbers that a u64 or an i64 holds
pub record ViewValue (v : View) : Type 0 where
  pub extents : length v.layout.extents ≡ rank_limit
  pub strides : length v.layout.strides ≡ rank_limit
  pub words : AllBelow (2 ^ 64) v.layout.extents
  pub fits : AllFit v.layout.strides
  pub fit : SFits w64 v.offset

pub record ListValue (l : List16) : Type 0 where
  pub entries : length l.entries ≡ list_limit
  pub words : AllBelow (2 ^ 64) l.entries

pub record JobValue (j : Job) : Type 0 where
  pub first : ViewValue j.views.first
  pub second : ViewValue j.views.second
  pub third : ViewValue j.views.third
  pub window : ListValue j.spec.window_dims
  pub unit : ListValue j.spec.unit_dims
  pub start : ListValue j.spec.start_map
  pub vector : j.spec.index_vector_dim < 2 ^ 64
  pub sizes : ListValue j.spec.slice_sizes
