-- The parts of a job, read field after field: where one is at fault, and what they come to. Assumes nothing.
use mathlib.Core.Path.{◌≡◌, sym, ap, ◌∙◌}
use mathlib.Core.List.{List}
use Prim.Native.Nat.{ℕ, ◌+◌}
use borrow.Author.Tests.{eq-eqb, ne_eqb}
use lib.ListN.{length}
use Rattle.layout.specs.declared.View.{View}
use Rattle.job_bytes.specs.Fields.{Field, read, fault, number_at, byte_at}
use Rattle.std.proofs.Common.{Ok}
use Rattle.job_bytes.specs.declared.Read.{Read}
use Rattle.job_bytes.proofs.Reading.{got}
use Rattle.job_reader.specs.declared.Head.{Head}
use Rattle.job_reader.specs.Held.{head_of, held_head}
use Rattle.job.specs.declared.Kind.{Kind}
use Rattle.job.specs.declared.Element.{Element}
use Rattle.job.specs.declared.Views.{Views}
use Rattle.job.specs.declared.Spec.{Spec}
use Rattle.job.specs.Jobs.{views_of, spec_of}
use Rattle.job.specs.Format.{kind_of, element_of, view_at, views_at, list_at, sizes_at, spec_at, count_at, head_at, job_at}
use Rattle.job_bytes.specs.Version.{version}

-- ---- three views
module _ (bs : List ℕ) (at : ℕ) where
  pub views-1 : (k : ℕ) → view_at bs at ≡ fault k → views_at bs at ≡ fault k
  unfolding views_at
  views-1 k e = rw e

  pub views-2 : (a : View) (k m : ℕ) → view_at bs at ≡ read a k → view_at bs k ≡ fault m → views_at bs at ≡ fault m
  unfolding views_at
  views-2 a k m e f = rw (e, f)

  pub views-3 : (a : View) (k : ℕ) (b : View) (l m : ℕ) → view_at bs at ≡ read a k → view_at bs k ≡ read b l → view_at bs l ≡ fault m → views_at bs at ≡ fault m
  unfolding views_at
  views-3 a k b l m e f g = rw (e, f, g)

  pub views-4 : (a : View) (k : ℕ) (b : View) (l : ℕ) (c : View) (m : ℕ) → view_at bs at ≡ read a k → view_at bs k ≡ read b l → view_at bs l ≡ read c m → views_at bs at ≡ read (views_of a b c) m
  unfolding views_at
  views-4 a k b l c m e f g = rw (e, f, g)

-- ---- a spec
module _ (kind : Kind) (bs : List ℕ) (at : ℕ) where
  pub spec-1 : (k : ℕ) → list_at bs at ≡ fault k → spec_at kind bs at ≡ fault k
  unfolding spec_at
  spec-1 k e = rw e

  pub spec-2 : (a : List ℕ) (k m : ℕ) → list_at bs at ≡ read a k → list_at bs k ≡ fault m → spec_at kind bs at ≡ fault m
  unfolding spec_at
  spec-2 a k m e f = rw (e, f)

  pub spec-3 : (a : List ℕ) (k : ℕ) (b : List ℕ) (l m : ℕ) → list_at bs at ≡ read a k → list_at bs k ≡ read b l → list_at bs l ≡ fault m → spec_at kind bs at ≡ fault m
  unfolding spec_at
  spec-3 a k b l m e f g = rw (e, f, g)

  pub spec-4 : (a : List ℕ) (k : ℕ) (b : List ℕ) (l : ℕ) (c : List ℕ) (m o : ℕ) → list_at bs at ≡ read a k → list_at bs k ≡ read b l → list_at bs l ≡ read c m → number_at 8 bs m ≡ fault o → spec_at kind bs at ≡ fault o
  unfolding spec_at
  spec-4 a k b l c m o e f g h = rw (e, f, g, h)

  pub spec-5 : (a : List ℕ) (k : ℕ) (b : List ℕ) (l : ℕ) (c : List ℕ) (m v o p : ℕ) → list_at bs at ≡ read a k → list_at bs k ≡ read b l → list_at bs l ≡ read c m → number_at 8 bs m ≡ read v o → sizes_at kind bs o ≡ fault p → spec_at kind bs at ≡ fault p
  unfolding spec_at
  spec-5 a k b l c m v o p e f g h i = rw (e, f, g, h, i)

  pub spec-6 : (a : List ℕ) (k : ℕ) (b : List ℕ) (l : ℕ) (c : List ℕ) (m v o : ℕ) (d : List ℕ) (p : ℕ) → list_at bs at ≡ read a k → list_at bs k ≡ read b l → list_at bs l ≡ read c m → number_at 8 bs m ≡ read v o → sizes_at kind bs o ≡ read d p → spec_at kind bs at ≡ read (spec_of a b c v d) p
  unfolding spec_at
  spec-6 a k b l c m v o d p e f g h i = rw (e, f, g, h, i)

-- ---- the count of bytes
module _ (bs : List ℕ) where
  pub count-1 : (k : ℕ) → number_at 4 bs 0 ≡ fault k → count_at bs ≡ fault k
  unfolding count_at
  count-1 k e = rw e

  pub count-2 : (n k : ℕ) → number_at 4 bs 0 ≡ read n k → (k + n ≡ length bs → ⊥) → count_at bs ≡ fault 0
  unfolding count_at
  count-2 n k e h = rw (e, ne_eqb (k + n) (length bs) h)

  pub count-3 : (n k : ℕ) → number_at 4 bs 0 ≡ read n k → k + n ≡ length bs → count_at bs ≡ read n k
  unfolding count_at
  count-3 n k e h = rw (e, eq-eqb (k + n) (length bs) h)

  -- ---- kind and element
  pub head-1 : (k : ℕ) → count_at bs ≡ fault k → head_at bs ≡ fault k
  unfolding head_at
  head-1 k e = rw e

  pub head-2 : (n k m : ℕ) → count_at bs ≡ read n k → byte_at version version bs k ≡ fault m → head_at bs ≡ fault m
  unfolding head_at
  head-2 n k m e f = rw (e, f)

  pub head-3 : (n k v l m : ℕ) → count_at bs ≡ read n k → byte_at version version bs k ≡ read v l → byte_at 1 2 bs l ≡ fault m → head_at bs ≡ fault m
  unfolding head_at
  head-3 n k v l m e f g = rw (e, f, g)

  pub head-4 : (n k v l a m o : ℕ) → count_at bs ≡ read n k → byte_at version version bs k ≡ read v l → byte_at 1 2 bs l ≡ read a m → byte_at 1 2 bs m ≡ fault o → head_at bs ≡ fault o
  unfolding head_at
  head-4 n k v l a m o e f g h = rw (e, f, g, h)

  pub head-5 : (n k v l a m b o : ℕ) → count_at bs ≡ read n k → byte_at version version bs k ≡ read v l → byte_at 1 2 bs l ≡ read a m → byte_at 1 2 bs m ≡ read b o → head_at bs ≡ read (kind_of a, element_of b) o
  unfolding head_at
  head-5 n k v l a m b o e f g h = rw (e, f, g, h)

  -- ---- the job
  pub job-1 : (k : ℕ) → head_at bs ≡ fault k → job_at bs ≡ fault k
  unfolding job_at
  job-1 k e = rw e

  pub job-2 : (h : Kind × Element) (k m : ℕ) → head_at bs ≡ read h k → views_at bs k ≡ fault m → job_at bs ≡ fault m
  unfolding job_at
  job-2 h k m e f = rw (e, f)

  pub job-3 : (h : Kind × Element) (k : ℕ) (vs : Views) (l m : ℕ) → head_at bs ≡ read h k → views_at bs k ≡ read vs l → spec_at h.0 bs l ≡ fault m → job_at bs ≡ fault m
  unfolding job_at
  job-3 h k vs l m e f g = rw (e, f, g)

  pub job-4 : (h : Kind × Element) (k : ℕ) (vs : Views) (l : ℕ) (s : Spec) (m : ℕ) → head_at bs ≡ read h k → views_at bs k ≡ read vs l → spec_at h.0 bs l ≡ read s m → (m ≡ length bs → ⊥) → job_at bs ≡ fault m
  unfolding job_at
  job-4 h k vs l s m e f g n = rw (e, f, g, ne_eqb m (length bs) n)

  pub job-5 : (h : Kind × Element) (k : ℕ) (vs : Views) (l : ℕ) (s : Spec) (m : ℕ) → head_at bs ≡ read h k → views_at bs k ≡ read vs l → spec_at h.0 bs l ≡ read s m → m ≡ length bs → job_at bs ≡ read (record { kind = h.0; element = h.1; views = vs; spec = s }) m
  unfolding job_at
  job-5 h k vs l s m e f g n = rw (e, f, g, eq-eqb m (length bs) n)

pub got-head : (f : Field (Kind × Element)) (r : Read Head) → Ok r ≡ held_head f → f ≡ read (r.value.kind, r.value.element) r.at
got-head f r h = let p = got head_of f r h in p.is ∙ ap (λ (x : Head). read (x.kind, x.element) r.at) (sym p.made)
