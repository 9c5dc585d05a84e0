-- A job by value that is not refused: what is stored of it is a job that was made, and has the same bytes. Assumes nothing.
use mathlib.Core.Path.{◌≡◌, refl, sym, ap, ◌∙◌}
use mathlib.Core.Bool.{true}
use mathlib.Core.List.{List, [], ◌∷◌, ◌++◌, map}
use Prim.Native.Nat.{ℕ, zero, suc, ◌≤◌, min}
use native.Mathlib.Omega.{arith}
use lib.ListN.{length, take}
use lib.Seq.{length-take-le}
use lib.IntN.{ℤ}
use Rattle.layout.specs.declared.View.{View}
use Rattle.layout.specs.Answers.{is_done}
use Rattle.layout.specs.Layouts.{extents_of, strides_of}
use Rattle.job_bytes.specs.Fields.{bytes_of, words_of, word_of}
use Rattle.job_bytes.specs.Version.{stored_rank_limit, list_limit, stored-held}
use Rattle.job_bytes.specs.Below.{AllFit, fit_none, fit-more}
use Rattle.job_bytes.proofs.Back.{below-take}
use Rattle.job.specs.declared.Kind.{Kind}
use Rattle.job.specs.declared.Kind.TheVariants as K
use Rattle.job.specs.declared.List16.{List16}
use Rattle.job.specs.declared.Job.{Job}
use Rattle.job.specs.Jobs.{held_list, entries_of, stored_sizes, job_refusal}
use Rattle.job.specs.Format.{view_bytes, list_bytes, sizes_bytes, spec_bytes, views_bytes, body_bytes, encoded}
use Rattle.job.specs.Made.{MadeView, MadeList, MadeSizes, Made, stored_view, stored_job, ViewValue, ListValue, JobValue}
use Rattle.job.proofs.PartsBack.{list-bytes, view-bytes}
use Rattle.job.proofs.Making.{Counted, counted}

fit-take : (k : ℕ) (zs : List ℤ) → AllFit zs → AllFit (take k zs)
fit-take zero zs a = fit_none
fit-take (suc k) [] fit_none = fit_none
fit-take (suc k) (z ∷ zs) (fit-more h a) = fit-more h (fit-take k zs a)

-- ---- a view
module _ (v : View) (w : ViewValue v) (h : v.layout.rank ≤ stored_rank_limit) where
  extents-count : length (extents_of v.layout) ≡ v.layout.rank
  extents-count = length-take-le v.layout.rank v.layout.extents (omega (arith, w.extents, stored-held))

  strides-count : length (strides_of v.layout) ≡ v.layout.rank
  strides-count = length-take-le v.layout.rank v.layout.strides (omega (arith, w.strides, stored-held))

  view-stored : MadeView (stored_view v)
  view-stored =
      record {
        extents = extents_of v.layout;
        strides = strides_of v.layout;
        offset = v.offset;
        is = refl;
        same = strides-count ∙ sym extents-count;
        few = omega (arith, extents-count);
        words = below-take _ v.layout.rank v.layout.extents w.words;
        fits = fit-take v.layout.rank v.layout.strides w.fits;
        fit = w.fit;
      }

  view-same : view_bytes (stored_view v) ≡ view_bytes v
  unfolding view_bytes
  view-same =
      let m : min v.layout.rank stored_rank_limit ≡ v.layout.rank = omega arith in
      view-bytes (extents_of v.layout) (strides_of v.layout) v.offset (strides-count ∙ sym extents-count) (omega (arith, extents-count))
      ∙ (λ i. bytes_of 1 (length (take (sym m i) v.layout.extents)) ++ (words_of (take (sym m i) v.layout.extents) ++ (words_of (map word_of (take (sym m i) v.layout.strides)) ++ bytes_of 8 (word_of v.offset))))

-- ---- a list
module _ (l : List16) (w : ListValue l) (h : l.count ≤ list_limit) where
  entries-count : length (entries_of l) ≡ l.count
  entries-count = length-take-le l.count l.entries (omega (arith, w.entries))

  list-stored : MadeList (held_list (entries_of l))
  list-stored = record { entries = entries_of l; is = refl; few = omega (arith, entries-count); words = below-take _ l.count l.entries w.words }

  list_same : list_bytes (held_list (entries_of l)) ≡ list_bytes l
  unfolding list_bytes
  list_same = list-bytes (entries_of l) (omega (arith, entries-count))

sizes-stored : (kind : Kind) (l : List16) → ListValue l → (stored_sizes kind l).count ≤ list_limit → MadeSizes kind (held_list (entries_of (stored_sizes kind l)))
sizes-stored K.Gather l w h = list-stored l w h
sizes-stored K.Scatter l w h = refl

sizes-same : (kind : Kind) (l : List16) → ListValue l → (stored_sizes kind l).count ≤ list_limit → sizes_bytes kind (held_list (entries_of (stored_sizes kind l))) ≡ sizes_bytes kind l
sizes-same K.Gather l w h = list_same l w h
sizes-same K.Scatter l w h = refl

-- ---- the job
module _ (j : Job) (w : JobValue j) (d : is_done (job_refusal j) ≡ true) where
  abbrev ranks : ℕ × ℕ × ℕ
  ranks = (j.views.first.layout.rank, j.views.second.layout.rank, j.views.third.layout.rank)

  few : Counted ranks.0 ranks.0 ranks.1 ranks.1 ranks.2 ranks.2 j.spec.window_dims.count j.spec.unit_dims.count j.spec.start_map.count (stored_sizes j.kind j.spec.slice_sizes).count
  few = counted ranks.0 ranks.0 ranks.1 ranks.1 ranks.2 ranks.2 j.spec.window_dims.count j.spec.unit_dims.count j.spec.start_map.count (stored_sizes j.kind j.spec.slice_sizes).count d

  pub stored-made : Made (stored_job j)
  unfolding stored_job
  stored-made =
      record {
        first = view-stored j.views.first w.first few.ranks.0;
        second = view-stored j.views.second w.second few.ranks.1;
        third = view-stored j.views.third w.third few.ranks.2;
        spec = record {
          window = list-stored j.spec.window_dims w.window few.lists.0;
          unit = list-stored j.spec.unit_dims w.unit few.lists.1;
          start = list-stored j.spec.start_map w.start few.lists.2;
          vector = w.vector;
          sizes = sizes-stored j.kind j.spec.slice_sizes w.sizes few.lists.3;
        };
      }

  body_same : body_bytes (stored_job j) ≡ body_bytes j
  unfolding stored_job body_bytes views_bytes spec_bytes
  body_same =
      rw (
        view-same j.views.first w.first few.ranks.0,
        view-same j.views.second w.second few.ranks.1,
        view-same j.views.third w.third few.ranks.2,
        list_same j.spec.window_dims w.window few.lists.0,
        list_same j.spec.unit_dims w.unit few.lists.1,
        list_same j.spec.start_map w.start few.lists.2,
        sizes-same j.kind j.spec.slice_sizes w.sizes few.lists.3,
      )

  pub same_bytes : encoded (stored_job j) ≡ encoded j
  unfolding encoded
  same_bytes = ap (λ (b : List ℕ). bytes_of 4 (length b) ++ b) body_same
