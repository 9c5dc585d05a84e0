-- Lists that compile accepts: in range and unrepeated, so none has more axes than there are. Assumes nothing.
use Rattle.std.specs.Prelude.{Err}
use mathlib.Core.Path.{◌≡◌, refl, sym, ap, subst, ◌∙◌}
use mathlib.Core.Bool.{Bool, true, false, cond, ◌||◌, true≢false}
use mathlib.Core.List.{List, [], ◌∷◌, ◌++◌, append-nil}
use Prim.Native.Nat.{ℕ, zero, suc, ◌-◌, ◌<◌, ◌≤◌, min}
use native.Mathlib.Omega.{arith}
use borrow.Author.Tests.{eqb-true, eqb-false, leb-false}
use lib.Dec.{eqb, leb}
use lib.ListN.{length, take, drop}
use lib.Seq.{append_snoc}
use Rattle.layout.specs.Layouts.{rank_limit}
use Rattle.indexing.specs.Coordinates.{has, tabulate}
use Rattle.indexing.specs.Axes.{Axes, or_left, or_right, or-none, axes-append}
use Rattle.spans.proofs.Parts as P
use Rattle.layout.specs.Answers.{is_done}
use Rattle.layout.specs.Lists.{unique_axes}
use Rattle.layout.specs.declared.Refusal.TheVariants as F

-- ---- in range and unrepeated
pub unique-all : (n : ℕ) (before xs : List ℕ) → Axes n before → is_done (unique_axes n before xs) ≡ true → Axes n (before ++ xs)
unfolding unique_axes Axes has
unique-all n before [] p e = subst (Axes n) (sym (append-nil before)) p
unique-all n before (a ∷ xs) p e = go (leb n a || has before a) refl e (unique-all n (before ++ (a ∷ [])) xs)
  where
    apart : has before a ≡ false → (b : ℕ) → has before b ≡ true → has (a ∷ []) b ≡ false
    apart f b h = case (eqb a b) refl
      where
        case : (t : Bool) → eqb a b ≡ t → (eqb a b || false) ≡ false
        case true g = absurd (true≢false (sym h ∙ ap (has before) (sym (eqb-true a b g)) ∙ f))
        case false g = rw g

    one : a < n → Axes n (a ∷ [])
    one h = (h, refl, tt)

    go : (t : Bool) → (leb n a || has before a) ≡ t → is_done (cond t (Err (F.InvalidAxis a n)) (unique_axes n (before ++ (a ∷ [])) xs)) ≡ true → (Axes n (before ++ (a ∷ [])) → is_done (unique_axes n (before ++ (a ∷ [])) xs) ≡ true → Axes n ((before ++ (a ∷ [])) ++ xs)) → Axes n (before ++ (a ∷ xs))
    go true f h ih = let z : ◌≡◌ {A = ℕ} 0 1 = cc in absurd (omega arith)
    go false f h ih =
        subst (Axes n) (append_snoc before a xs)
        (ih (axes-append n before (a ∷ []) p (one (leb-false n a (or_left (leb n a) (has before a) f))) (apart (or_right (leb n a) (has before a) f))) h)

pub unique-axes : (n : ℕ) (xs : List ℕ) → is_done (unique_axes n [] xs) ≡ true → Axes n xs
unique-axes n xs e = unique-all n [] xs (unfold Axes in tt) e

-- ---- there are no more of them than axes
cut : ℕ → List ℕ → List ℕ
cut a [] = []
cut a (x ∷ xs) = cond (eqb x a) xs (x ∷ cut a xs)

length_cut : (a : ℕ) (xs : List ℕ) → length xs ≤ suc (length (cut a xs))
unfolding cut
length_cut a [] = omega arith
length_cut a (x ∷ xs) = go (eqb x a) (length_cut a xs)
  where
    go : (t : Bool) → length xs ≤ suc (length (cut a xs)) → suc (length xs) ≤ suc (length (cond t xs (x ∷ cut a xs)))
    go true h = omega arith
    go false h = omega arith

has-cut : (a : ℕ) (xs : List ℕ) (b : ℕ) → has xs b ≡ false → has (cut a xs) b ≡ false
unfolding cut has
has-cut a [] b e = refl
has-cut a (x ∷ xs) b e = go (eqb x a) (has-cut a xs b (or_right (eqb x b) (has xs b) e))
  where
    go : (t : Bool) → has (cut a xs) b ≡ false → has (cond t xs (x ∷ cut a xs)) b ≡ false
    go true h = or_right (eqb x b) (has xs b) e
    go false h = or-none (eqb x b) (has (cut a xs) b) (or_left (eqb x b) (has xs b) e) h

below : (y m : ℕ) → y < suc m → (y ≡ m → ⊥) → y < m
below y m h k = omega arith

lower : (n : ℕ) (xs : List ℕ) → Axes (suc n) xs → has xs n ≡ false → Axes n xs
unfolding Axes has
lower n [] p e = tt
lower n (x ∷ xs) p e =
    let d : x ≡ n → ⊥ = eqb-false x n (or_left (eqb x n) (has xs n) e) in
    (below x n p.0 d, p.1, lower n xs p.2 (or_right (eqb x n) (has xs n) e))

cut-axes : (n : ℕ) (xs : List ℕ) → Axes (suc n) xs → Axes n (cut n xs)
unfolding Axes cut
cut-axes n [] p = tt
cut-axes n (x ∷ xs) p = go (eqb x n) refl (cut-axes n xs p.2)
  where
    go : (t : Bool) → eqb x n ≡ t → Axes n (cut n xs) → Axes n (cond t xs (x ∷ cut n xs))
    go true e ih = lower n xs p.2 (ap (has xs) (sym (eqb-true x n e)) ∙ p.1)
    go false e ih = (below x n p.0 (eqb-false x n e), has-cut n xs x p.1, ih)

pub axes-few : (n : ℕ) (xs : List ℕ) → Axes n xs → length xs ≤ n
unfolding Axes
axes-few zero [] p = omega arith
axes-few zero (x ∷ xs) p = let h : x < 0 = p.0 in absurd (omega arith)
axes-few (suc n) xs p = omega (arith, length_cut n xs, axes-few n (cut n xs) (cut-axes n xs p))

-- ---- a part of an array of eight
pub part-fits : {A : Type 0} (n k : ℕ) (xs : List A) → n ≡ min k rank_limit → length xs ≡ rank_limit → n ≤ length xs
part-fits n k xs e f = P.part-fits n k rank_limit xs e f

pub part-read : {A : Type 0} (n k : ℕ) (xs : List A) → n ≡ min k rank_limit → length xs ≡ rank_limit → take (n - 0) (drop 0 xs) ≡ take k xs
part-read n k xs e f = P.part-read n k rank_limit xs e f

-- ---- entries one by one
pub tabulate-same : {A : Type 0} (n : ℕ) (f g : ℕ → A) → ((k : ℕ) → k < n → f k ≡ g k) → tabulate n f ≡ tabulate n g
unfolding tabulate
tabulate-same zero f g h = refl
tabulate-same (suc n) f g h = λ i. h 0 (omega arith) i ∷ tabulate-same n (λ k. f (suc k)) (λ k. g (suc k)) (λ k l. h (suc k) (omega arith)) i
