-- Axes that give the same reads and writes in the same order: an axis of extent 1 goes, and two neighbours that are contiguous in both layouts are one. For any rank. Assumes nothing.
use Rattle.std.specs.Prelude.{◌≡◌, refl, Bool, true, false, cond, ◌&&◌, List, [], ◌∷◌, ℕ, suc, ◌*◌, ◌/◌, ◌%◌, ◌≤◌, eqb, length, ℤ, pos, ◌+ℤ◌, ◌*ℤ◌, Option, Some, None, option_and_then}
use Rattle.std.proofs.Common.{sym, ap, ap₂, ◌∙◌, subst, one-mul, arith, eqb-true}
use Rattle.integer.specs.Defs.{checked, checked_u}
use Rattle.integer.specs.Laws.{eq_z-true}
use Rattle.integer.specs.Machine.{checked-fits, checked_u-fits}
use Rattle.indexing.specs.Coordinates.{product, unravel, dot}
use Rattle.indexing.specs.Odometer.{offset_at}
use Rattle.indexing.specs.Loops.{in_order}
use Rattle.indexing.proofs.Loops.{in_order-same}
use Rattle.indexing.proofs.Fusion.{dot-fuse, dot-unit, product-fuse}
use Rattle.layout.specs.Laws.{then-inv}
use Rattle.fused_axes.specs.declared.FusedAxis.{FusedAxis}
use Rattle.fused_axes.specs.Fusing.{copy_turn, axes_copied, the_axis, dims, dsts, srcs, long_axes, is_it, goes_on, merged_dim, merged_by, merged_from, merged}

-- as many cells, and each read and written where it was
pub record Same (l l' : List FusedAxis) : Type 0 where
  pub reads : (k : ℕ) → dot (srcs l') (unravel (dims l') k) ≡ dot (srcs l) (unravel (dims l) k)
  pub writes : (k : ℕ) → dot (dsts l') (unravel (dims l') k) ≡ dot (dsts l) (unravel (dims l) k)
  pub total : product (dims l') ≡ product (dims l)

pub same_refl : (l : List FusedAxis) → Same l l
same_refl l = record { reads = λ k. refl; writes = λ k. refl; total = refl }

pub same_then : (l m n : List FusedAxis) → Same l m → Same m n → Same l n
same_then l m n h k = record { reads = λ i. k.reads i ∙ h.reads i; writes = λ i. k.writes i ∙ h.writes i; total = k.total ∙ h.total }

pub same-under : (a : FusedAxis) (l l' : List FusedAxis) → Same l l' → Same (a ∷ l) (a ∷ l')
unfolding dot unravel product
same-under a l l' h = record {
  reads = λ k. ap (λ (x : ℤ). a.src *ℤ pos (k % a.dim) +ℤ x) (h.reads (k / a.dim));
  writes = λ k. ap (λ (x : ℤ). a.dst *ℤ pos (k % a.dim) +ℤ x) (h.writes (k / a.dim));
  total = ap (λ (n : ℕ). a.dim * n) h.total;
}

-- AN AXIS OF EXTENT 1
pub same-unit : (t s : ℤ) (l : List FusedAxis) → Same (the_axis 1 t s ∷ l) l
unfolding product
same-unit t s l = record { reads = λ k. sym (dot-unit s (srcs l) (dims l) k); writes = λ k. sym (dot-unit t (dsts l) (dims l) k); total = sym (one-mul (product (dims l))) }

-- TWO NEIGHBOURS that are contiguous in both layouts
pub same-fuse : (a b : FusedAxis) (l : List FusedAxis) → b.dst ≡ a.dst *ℤ pos a.dim → b.src ≡ a.src *ℤ pos a.dim → Same (a ∷ b ∷ l) (the_axis (a.dim * b.dim) a.dst a.src ∷ l)
same-fuse a b l e f = record {
  reads = λ k. sym (dot-fuse a.src b.src (srcs l) a.dim b.dim (dims l) k f);
  writes = λ k. sym (dot-fuse a.dst b.dst (dsts l) a.dim b.dim (dims l) k e);
  total = sym (product-fuse a.dim b.dim (dims l));
}

-- ---- extents of 1 left out
pub long_same : (l : List FusedAxis) → Same l (long_axes l)
unfolding long_axes
long_same [] = same_refl []
long_same (a ∷ l) = go (eqb a.dim 1) refl (long_same l)
  where
    go : (t : Bool) → eqb a.dim 1 ≡ t → Same l (long_axes l) → Same (a ∷ l) (cond t (long_axes l) (a ∷ long_axes l))
    go true e h =
        let one : the_axis 1 a.dst a.src ≡ a = ap (λ (n : ℕ). the_axis n a.dst a.src) (sym (eqb-true a.dim 1 e)) in
        same_then (a ∷ l) l (long_axes l) (subst (λ (b : FusedAxis). Same (b ∷ l) l) one (same-unit a.dst a.src l)) h
    go false e h = same-under a l (long_axes l) h

-- ---- merged where they can be
is-it : (x : Option ℤ) (t : ℤ) → is_it x t ≡ true → x ≡ Some t
is-it (Some z) t e = ap Some (eq_z-true z t e)
is-it None t e = cc

-- the stride is the one before times the extent before
pub goes-on : (e : ℕ) (s t : ℤ) → goes_on e s t ≡ true → t ≡ s *ℤ pos e
unfolding goes_on
goes-on e s t h =
    let u = then-inv (checked (pos e)) (λ m. checked (s *ℤ m)) t (is-it (option_and_then (λ m. checked (s *ℤ m)) (checked (pos e))) t h) in
    sym (checked-fits (s *ℤ u.0) t u.2) ∙ ap (λ (x : ℤ). s *ℤ x) (sym (checked-fits (pos e) u.0 u.1))

pub record Contiguous (a b : FusedAxis) (n : ℕ) : Type 0 where
  pub dest : b.dst ≡ a.dst *ℤ pos a.dim
  pub operand : b.src ≡ a.src *ℤ pos a.dim
  pub size : n ≡ a.dim * b.dim

pub merged-dim : (a b : FusedAxis) (n : ℕ) → merged_dim a b ≡ Some n → Contiguous a b n
unfolding merged_dim
merged-dim a b n h = go (goes_on a.dim a.dst b.dst) (goes_on a.dim a.src b.src) refl refl h
  where
    go : (t u : Bool) → goes_on a.dim a.dst b.dst ≡ t → goes_on a.dim a.src b.src ≡ u → cond (t && u) (checked_u (a.dim * b.dim)) None ≡ Some n → Contiguous a b n
    go true true e f g = record { dest = goes-on a.dim a.dst b.dst e; operand = goes-on a.dim a.src b.src f; size = sym (checked_u-fits (a.dim * b.dim) n g) }
    go true false e f g = let z : ◌≡◌ {A = ℕ} 0 1 = cc in absurd (omega arith)
    go false u e f g = let z : ◌≡◌ {A = ℕ} 0 1 = cc in absurd (omega arith)

pub merged-from-same : (l : List FusedAxis) (a : FusedAxis) → Same (a ∷ l) (merged_from a l)
unfolding merged_from
merged-from-same [] a = same_refl (a ∷ [])
merged-from-same (b ∷ l) a = go (merged_dim a b) refl (λ c. merged-from-same l c)
  where
    go : (x : Option ℕ) → merged_dim a b ≡ x → ((c : FusedAxis) → Same (c ∷ l) (merged_from c l)) → Same (a ∷ b ∷ l) (merged_by x a b (λ c. merged_from c l))
    go (Some n) e ih =
        let k = merged-dim a b n e in
        let c : FusedAxis = the_axis n a.dst a.src in
        same_then (a ∷ b ∷ l) (c ∷ l) (merged_from c l)
        (subst (λ (m : ℕ). Same (a ∷ b ∷ l) (the_axis m a.dst a.src ∷ l)) (sym k.size) (same-fuse a b l k.dest k.operand)) (ih c)
    go None e ih = same-under a (b ∷ l) (merged_from b l) (ih b)

pub merged-same : (l : List FusedAxis) → Same l (merged l)
unfolding merged product
merged-same [] = record { reads = λ k. dot-unit (pos 0) [] [] k; writes = λ k. dot-unit (pos 0) [] [] k; total = refl }
merged-same (a ∷ l) = merged-from-same l a

-- no more axes than there were, but for the one that stands for none
pub merged-count : (l : List FusedAxis) (a : FusedAxis) → length (merged_from a l) ≤ suc (length l)
unfolding merged_from
merged-count [] a = omega arith
merged-count (b ∷ l) a = go (merged_dim a b) (λ c. merged-count l c)
  where
    go : (x : Option ℕ) → ((c : FusedAxis) → length (merged_from c l) ≤ suc (length l)) → length (merged_by x a b (λ c. merged_from c l)) ≤ suc (suc (length l))
    go (Some n) ih = omega (arith, ih (the_axis n a.dst a.src))
    go None ih = omega (arith, ih b)

-- THE COPY over such axes is the same, whatever the layouts
pub same-copied : {A : Type 0} (z : A) (from : List A) (o d : ℤ) (l l' : List FusedAxis) (into : List A) → Same l l' → axes_copied z from o d l' into ≡ axes_copied z from o d l into
unfolding offset_at
same-copied {A} z from o d l l' into h =
    ap (λ (n : ℕ). in_order (copy_turn z from (offset_at o (dims l') (srcs l')) (offset_at d (dims l') (dsts l'))) n into) h.total
    ∙ in_order-same (copy_turn z from (offset_at o (dims l') (srcs l')) (offset_at d (dims l') (dsts l'))) (copy_turn z from (offset_at o (dims l) (srcs l)) (offset_at d (dims l) (dsts l))) (product (dims l)) into
    (λ k x. ap₂ (λ (a b : ℤ). copy_turn z from (λ j. o +ℤ a) (λ j. d +ℤ b) k x) (h.reads k) (h.writes k))
