-- The last axis of a walk, and axes of one place in front of it. Over any rank. Assumes nothing.
use mathlib.Core.Path.{◌≡◌, sym, ap, ap₂, subst, ◌∙◌}
use mathlib.Core.List.{List, [], ◌∷◌, ◌++◌}
use Prim.Native.Nat.{ℕ, zero, suc, ◌+◌, ◌*◌, ◌/◌, ◌%◌, ◌<◌}
use native.Mathlib.Nat.{mul-suc, mul_assoc, one-mul, mod-eq_of_lt, add-mul-mod_self_left, add-mul-div_left, mul-le-mul_left}
use native.Mathlib.Omega.{arith}
use lib.ListN.{length, get_or, take}
use lib.Seq.{take-suc, length-take-le}
use lib.IntN.{ℤ, pos, ◌+ℤ◌, ◌*ℤ◌, +ℤ_assoc, +ℤ_comm, +ℤ_idr}
use Rattle.integer.specs.Laws.{+ℤ-ac}
use Rattle.indexing.specs.Coordinates.{product, unravel, dot}
use Rattle.indexing.specs.Odometer.{AllPos, offset_at}
use Rattle.indexing.proofs.Linear.{div_below, dot-first}
use Rattle.indexing.proofs.Fusion.{dot-unit}
use Rattle.runs.specs.Runs.{line}
use Rattle.windows.specs.Windows.{place_at, Units}

-- ---- the last axis
pub digit-below : (c d x n : ℕ) → c < d → x < n → c + d * x < d * n
digit-below c d x n h g = omega (arith, mul-le-mul_left {m = suc x} {n = n} d g, mul-suc d x)

dot-last : (ss : List ℤ) (ds : List ℕ) (s : ℤ) (d i j : ℕ) → AllPos ds → length ss ≡ length ds → i < product ds → j < d
    → dot (ss ++ s ∷ []) (unravel (ds ++ d ∷ []) (i + product ds * j)) ≡ dot ss (unravel ds i) +ℤ s *ℤ pos j
unfolding dot unravel product AllPos
dot-last [] [] s d i j p l h g =
    let e : (i + 1 * j) % d ≡ j = ap (λ (k : ℕ). k % d) (omega arith) ∙ mod-eq_of_lt g in
    ap (λ (k : ℕ). s *ℤ pos k +ℤ pos 0) e ∙ +ℤ_comm (s *ℤ pos j) (pos 0)
dot-last [] (e ∷ ds) s d i j p l h g = absurd (omega arith)
dot-last (t ∷ ss) [] s d i j p l h g = absurd (omega arith)
dot-last (t ∷ ss) (e ∷ ds) s d i j p l h g =
    ap (λ (k : ℕ). t *ℤ pos ((i + k) % e) +ℤ dot (ss ++ s ∷ []) (unravel (ds ++ d ∷ []) ((i + k) / e))) (mul_assoc e (product ds) j)
    ∙ ap₂ (λ (a b : ℕ). t *ℤ pos a +ℤ dot (ss ++ s ∷ []) (unravel (ds ++ d ∷ []) b)) (add-mul-mod_self_left i e (product ds * j)) (add-mul-div_left i (product ds * j) {y = e} p.0)
    ∙ ap (λ (x : ℤ). t *ℤ pos (i % e) +ℤ x) (dot-last ss ds s d (i / e) j p.1 (omega arith) (div_below i e (product ds) h) g)
    ∙ sym (+ℤ_assoc (t *ℤ pos (i % e)) (dot ss (unravel ds (i / e))) (s *ℤ pos j))

product-last : (ds : List ℕ) (d : ℕ) → product (ds ++ d ∷ []) ≡ product ds * d
unfolding product
product-last [] d = omega arith
product-last (e ∷ ds) d = ap (λ (k : ℕ). e * k) (product-last ds d) ∙ sym (mul_assoc e (product ds) d)

all-last : (ds : List ℕ) (d : ℕ) → AllPos (ds ++ d ∷ []) → AllPos ds × (0 < d)
unfolding AllPos
all-last [] d p = (tt, p.0)
all-last (e ∷ ds) d p = let q = all-last ds d p.1 in ((p.0, q.0), q.1)

module _ (shape : List ℕ) (top : ℕ) (room : top < length shape) where
  pub product-top : product (take (suc top) shape) ≡ product (take top shape) * get_or shape top 0
  product-top = ap product (take-suc shape top 0 room) ∙ product-last (take top shape) (get_or shape top 0)

  pub positive-top : AllPos (take (suc top) shape) → AllPos (take top shape) × (0 < get_or shape top 0)
  positive-top p = all-last (take top shape) (get_or shape top 0) (subst AllPos (take-suc shape top 0 room) p)

  -- below place j of the last axis stands the walk over the axes before it, from a base moved by j strides
  pub place-top : (base : ℤ) (strides : List ℤ) → top < length strides → AllPos (take top shape) → (i j : ℕ) → i < product (take top shape) → j < get_or shape top 0
      → place_at base shape strides (suc top) (i + product (take top shape) * j) ≡ place_at (line base (get_or strides top (pos 0)) j) shape strides top i
  unfolding offset_at
  place-top base strides same positive i j h g =
      ap₂ (λ (a : List ℕ) (b : List ℤ). base +ℤ dot b (unravel a (i + product (take top shape) * j))) (take-suc shape top 0 room) (take-suc strides top (pos 0) same)
      ∙ ap (λ (x : ℤ). base +ℤ x) (dot-last (take top strides) (take top shape) (get_or strides top (pos 0)) (get_or shape top 0) i j positive (length-take-le top strides (omega arith) ∙ sym (length-take-le top shape (omega arith))) h g)
      ∙ aside base (dot (take top strides) (unravel (take top shape) i)) (get_or strides top (pos 0) *ℤ pos j)
    where
      aside : (a b c : ℤ) → a +ℤ (b +ℤ c) ≡ a +ℤ c +ℤ b
      aside a b c = simp +ℤ-ac

-- ---- axes of one place in front: the walk is one run along the axis after them
pub units-product : (low : ℕ) (shape : List ℕ) → low < length shape → Units low shape → product (take (suc low) shape) ≡ get_or shape low 0
unfolding product
units-product low [] h u = absurd (omega arith)
units-product zero (d ∷ ds) h u = omega arith
units-product (suc low) (d ∷ ds) h u =
    ap₂ (λ (a b : ℕ). a * b) (u 0 (omega arith)) (units-product low ds (omega arith) (λ i l. u (suc i) (omega arith)))
    ∙ one-mul (get_or ds low 0)

units-dot : (low : ℕ) (shape : List ℕ) (ss : List ℤ) (k : ℕ) → low < length shape → low < length ss → Units low shape → k < get_or shape low 0 → dot (take (suc low) ss) (unravel (take (suc low) shape) k) ≡ get_or ss low (pos 0) *ℤ pos k
unfolding dot unravel
units-dot low [] ss k h g u l = absurd (omega arith)
units-dot low (d ∷ ds) [] k h g u l = absurd (omega arith)
units-dot zero (d ∷ ds) (s ∷ ss) k h g u l = ap (λ (n : ℕ). s *ℤ pos n +ℤ pos 0) (mod-eq_of_lt l) ∙ +ℤ_idr (s *ℤ pos k)
units-dot (suc low) (d ∷ ds) (s ∷ ss) k h g u l =
    ap (λ (e : ℕ). dot (s ∷ take (suc low) ss) (unravel (e ∷ take (suc low) ds) k)) (u 0 (omega arith))
    ∙ dot-unit s (take (suc low) ss) (take (suc low) ds) k
    ∙ units-dot low ds ss k (omega arith) (omega arith) (λ i q. u (suc i) (omega arith)) l

pub units-place : (base : ℤ) (low : ℕ) (shape : List ℕ) (ss : List ℤ) (k : ℕ) → low < length shape → low < length ss → Units low shape → k < get_or shape low 0 → place_at base shape ss (suc low) k ≡ line base (get_or ss low (pos 0)) k
unfolding offset_at
units-place base low shape ss k h g u l = ap (λ (x : ℤ). base +ℤ x) (units-dot low shape ss k h g u l)

-- ---- the first cell is at the base
pub place-first : (base : ℤ) (shape : List ℕ) (strides : List ℤ) (rank : ℕ) → place_at base shape strides rank 0 ≡ base
unfolding offset_at
place-first base shape strides rank = ap (λ (x : ℤ). base +ℤ x) (dot-first (take rank strides) (take rank shape)) ∙ +ℤ_idr base

-- ---- of one cell
pub only_zero : (P : ℕ → Type 0) → P 0 → (k : ℕ) → k < 1 → P k
only_zero P p k h = let z : 0 ≡ k = omega arith in subst P z p
