-- A job from its parts, and that it is one that can be stored. Assumes nothing.
use Rattle.std.specs.Prelude.{Ok, Err}
use mathlib.Core.Path.{◌≡◌, refl, sym, ap, ◌∙◌}
use mathlib.Core.Bool.{Bool, true, false}
use mathlib.Core.List.{List, []}
use Prim.Native.Nat.{ℕ, ◌≤◌, ◌<◌, ◌^◌}
use lib.ListN.{length}
use lib.IntN.{ℤ}
use mir.Syntax.{w64}
use mir.Val.{SFits}
use Rattle.layout.specs.Answers.{is_done, or_else, Answer}
use Rattle.layout.specs.Layouts.{stride_length}
use Rattle.checks.proofs.Made.{or-done, same_length, at_most}
use Rattle.job_bytes.specs.Version.{stored_rank_limit, list_limit}
use Rattle.job_bytes.specs.Below.{AllBelow, AllFit}
use Rattle.job.specs.declared.Kind.{Kind}
use Rattle.job.specs.declared.Kind.TheVariants as K
use Rattle.job.specs.declared.Element.{Element}
use Rattle.job.specs.declared.Job.{Job}
use Rattle.job.specs.Jobs.{held_list, view_of, views_of, spec_of, rank_stored, list_at_most, views_refusal, lists_refusal, made_job, job_from}
use Rattle.job.specs.Made.{MadeView, MadeList, MadeSizes, Made}
use Rattle.layout.specs.declared.Refusal.TheVariants as F

-- ---- what a job that is not refused tells of its counts
pub record Counted (e1 s1 e2 s2 e3 s3 window unit map sizes : ℕ) : Type 0 where
  pub strides : (s1 ≡ e1) × (s2 ≡ e2) × (s3 ≡ e3)
  pub ranks : (e1 ≤ stored_rank_limit) × (e2 ≤ stored_rank_limit) × (e3 ≤ stored_rank_limit)
  pub lists : (window ≤ list_limit) × (unit ≤ list_limit) × (map ≤ list_limit) × (sizes ≤ list_limit)

rank-done : (n : ℕ) → is_done (rank_stored n) ≡ true → n ≤ stored_rank_limit
rank-done n e = at_most n stored_rank_limit (Err (F.RankTooLarge n stored_rank_limit)) refl e

list_done : (n : ℕ) → is_done (list_at_most n) ≡ true → n ≤ list_limit
list_done n e = at_most n list_limit (Err (F.RankMismatch n list_limit)) refl e

pub counted : (e1 s1 e2 s2 e3 s3 window unit map sizes : ℕ) → is_done (or_else (views_refusal e1 s1 e2 s2 e3 s3) (lists_refusal window unit map sizes)) ≡ true → Counted e1 s1 e2 s2 e3 s3 window unit map sizes
unfolding views_refusal lists_refusal
counted e1 s1 e2 s2 e3 s3 window unit map sizes d =
    let p = or-done (views_refusal e1 s1 e2 s2 e3 s3) (lists_refusal window unit map sizes) d in
    let p1 = or-done (stride_length e1 s1) _ p.0 in
    let p2 = or-done (stride_length e2 s2) _ p1.1 in
    let p3 = or-done (stride_length e3 s3) _ p2.1 in
    let p4 = or-done (rank_stored e1) _ p3.1 in
    let p5 = or-done (rank_stored e2) (rank_stored e3) p4.1 in
    let q1 = or-done (list_at_most window) _ p.1 in
    let q2 = or-done (list_at_most unit) _ q1.1 in
    let q3 = or-done (list_at_most map) (list_at_most sizes) q2.1 in
    record {
      strides = (same_length e1 s1 p1.0, same_length e2 s2 p2.0, same_length e3 s3 p3.0);
      ranks = (rank-done e1 p4.0, rank-done e2 p5.0, rank-done e3 p5.1);
      lists = (list_done window q1.0, list_done unit q2.0, list_done map q3.0, list_done sizes q3.1);
    }

view_made : (es : List ℕ) (ss : List ℤ) (o : ℤ) → length ss ≡ length es → length es ≤ stored_rank_limit → AllBelow (2 ^ 64) es → AllFit ss → SFits w64 o → MadeView (view_of es ss o)
view_made es ss o s h a b f = record { extents = es; strides = ss; offset = o; is = refl; same = s; few = h; words = a; fits = b; fit = f }

list-made : (l : List ℕ) → length l ≤ list_limit → AllBelow (2 ^ 64) l → MadeList (held_list l)
list-made l h a = record { entries = l; is = refl; few = h; words = a }

-- numbers that a u64 or an i64 holds, as lent slices have
pub record Held (e1 : List ℕ) (s1 : List ℤ) (o1 : ℤ) (e2 : List ℕ) (s2 : List ℤ) (o2 : ℤ) (e3 : List ℕ) (s3 : List ℤ) (o3 : ℤ) (window unit map : List ℕ) (vector : ℕ) : Type 0 where
  pub extents : AllBelow (2 ^ 64) e1 × AllBelow (2 ^ 64) e2 × AllBelow (2 ^ 64) e3
  pub strides : AllFit s1 × AllFit s2 × AllFit s3
  pub offsets : SFits w64 o1 × SFits w64 o2 × SFits w64 o3
  pub lists : AllBelow (2 ^ 64) window × AllBelow (2 ^ 64) unit × AllBelow (2 ^ 64) map
  pub vectors : vector < 2 ^ 64

module _ (element : Element) (e1 : List ℕ) (s1 : List ℤ) (o1 : ℤ) (e2 : List ℕ) (s2 : List ℤ) (o2 : ℤ) (e3 : List ℕ) (s3 : List ℤ) (o3 : ℤ) (window unit map : List ℕ) (vector : ℕ) (held : Held e1 s1 o1 e2 s2 o2 e3 s3 o3 window unit map vector) where
  parts-made : (kind : Kind) (sizes : List ℕ)
      → is_done (or_else (views_refusal (length e1) (length s1) (length e2) (length s2) (length e3) (length s3)) (lists_refusal (length window) (length unit) (length map) (length sizes))) ≡ true
      → (length sizes ≤ list_limit → MadeSizes kind (held_list sizes))
      → Made (record { kind = kind; element = element; views = views_of (view_of e1 s1 o1) (view_of e2 s2 o2) (view_of e3 s3 o3); spec = spec_of window unit map vector sizes })
  parts-made kind sizes d z =
      let c = counted (length e1) (length s1) (length e2) (length s2) (length e3) (length s3) (length window) (length unit) (length map) (length sizes) d in
      record {
        first = view_made e1 s1 o1 c.strides.0 c.ranks.0 held.extents.0 held.strides.0 held.offsets.0;
        second = view_made e2 s2 o2 c.strides.1 c.ranks.1 held.extents.1 held.strides.1 held.offsets.1;
        third = view_made e3 s3 o3 c.strides.2 c.ranks.2 held.extents.2 held.strides.2 held.offsets.2;
        spec = record {
          window = list-made window c.lists.0 held.lists.0;
          unit = list-made unit c.lists.1 held.lists.1;
          start = list-made map c.lists.2 held.lists.2;
          vector = held.vectors;
          sizes = z c.lists.3;
        };
      }

  done-made : (x : Answer) (j : Job) → (made_job x j).answer ≡ Ok tt → (is_done x ≡ true → Made j) → Made (made_job x j).job
  done-made x j e f = go (is_done x) refl e
    where
      answer-is : (t : Bool) → is_done x ≡ t → (made_job x j).answer ≡ x
      answer-is true h = rw h
      answer-is false h = rw h

      done : is_done x ≡ true
      done = ap is_done (sym (answer-is (is_done x) refl) ∙ e)

      go : (t : Bool) → is_done x ≡ t → (made_job x j).answer ≡ Ok tt → Made (made_job x j).job
      go t h e = rw done (f done)

  -- a gather and a scatter that are done can be stored
  pub gather-made : (sizes : List ℕ) → AllBelow (2 ^ 64) sizes → (job_from K.Gather element e1 s1 o1 e2 s2 o2 e3 s3 o3 window unit map vector sizes).answer ≡ Ok tt → Made (job_from K.Gather element e1 s1 o1 e2 s2 o2 e3 s3 o3 window unit map vector sizes).job
  unfolding job_from
  gather-made sizes a e =
      done-made (or_else (views_refusal (length e1) (length s1) (length e2) (length s2) (length e3) (length s3)) (lists_refusal (length window) (length unit) (length map) (length sizes))) (record { kind = K.Gather; element = element; views = views_of (view_of e1 s1 o1) (view_of e2 s2 o2) (view_of e3 s3 o3); spec = spec_of window unit map vector sizes }) e
      (λ d. parts-made K.Gather sizes d (λ h. list-made sizes h a))

  pub scatter-made : (job_from K.Scatter element e1 s1 o1 e2 s2 o2 e3 s3 o3 window unit map vector []).answer ≡ Ok tt → Made (job_from K.Scatter element e1 s1 o1 e2 s2 o2 e3 s3 o3 window unit map vector []).job
  unfolding job_from
  scatter-made e =
      done-made (or_else (views_refusal (length e1) (length s1) (length e2) (length s2) (length e3) (length s3)) (lists_refusal (length window) (length unit) (length map) 0)) (record { kind = K.Scatter; element = element; views = views_of (view_of e1 s1 o1) (view_of e2 s2 o2) (view_of e3 s3 o3); spec = spec_of window unit map vector [] }) e
      (λ d. parts-made K.Scatter [] d (λ h. refl))
