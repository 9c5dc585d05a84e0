-- Where nothing before the walks refuses, the counts are as the walks need them. Assumes nothing.
use Rattle.std.specs.Prelude.{Ok, Err}
use mathlib.Core.Path.{◌≡◌, refl, sym, ap, ◌∙◌}
use mathlib.Core.Bool.{Bool, true, false, cond, ◌&&◌}
use mathlib.Core.List.{List, [], ◌∷◌}
use Prim.Native.Nat.{ℕ, suc, ◌-◌}
use native.Mathlib.Omega.{arith}
use lib.Dec.{eqb, ltb}
use lib.ListN.{length}
use lib.IntN.{ℤ}
use Rattle.indexing.specs.Coordinates.{rank, pick, others}
use Rattle.indexing.specs.Start.{without}
use Rattle.indexing.specs.Scatter.{Scatter, scatter_dims, window_dims, batch_shape}
use Rattle.layout.specs.Answers.{is_done}
use Rattle.axis_lists.specs.Held.{same_list}
use Rattle.axis_lists.proofs.Filling.{length_without}
use Rattle.checks.specs.Checks.{same_count}
use Rattle.checks.proofs.Made.{or-done}
use Rattle.checks.proofs.Fits.{same-count}
use Rattle.scatter_checks.specs.Refusals.{lists_refusal, counts_refusal, batch_refusal, axes_refusal}
use Rattle.scatter_checks.specs.Examine.{Counted}
use Rattle.layout.specs.declared.Refusal.TheVariants as F

same_length : (xs ys : List ℕ) → same_list xs ys ≡ true → length xs ≡ length ys
unfolding same_list
same_length [] [] e = refl
same_length [] (b ∷ ys) e = let z : ◌≡◌ {A = ℕ} 0 1 = cc in absurd (omega arith)
same_length (a ∷ xs) [] e = let z : ◌≡◌ {A = ℕ} 0 1 = cc in absurd (omega arith)
same_length (a ∷ xs) (b ∷ ys) e = go (eqb a b) e (same_length xs ys)
  where
    go : (t : Bool) → (t && same_list xs ys) ≡ true → (same_list xs ys ≡ true → length xs ≡ length ys) → length (a ∷ xs) ≡ length (b ∷ ys)
    go true h ih = ap suc (ih h)
    go false h ih = let z : ◌≡◌ {A = ℕ} 0 1 = cc in absurd (omega arith)

same-batch : (n : ℕ) (xs ys : List ℕ) → is_done (cond (same_list xs ys) (Ok tt) (Err (F.ShapeMismatch n n))) ≡ true → length xs ≡ length ys
same-batch n xs ys e = go (same_list xs ys) refl e
  where
    go : (t : Bool) → same_list xs ys ≡ t → is_done (cond t (Ok tt) (Err (F.ShapeMismatch n n))) ≡ true → length xs ≡ length ys
    go true f h = same_length xs ys f
    go false f h = let z : ◌≡◌ {A = ℕ} 0 1 = cc in absurd (omega arith)

-- as many strides as extents, without the vector axis too
without-same : (v : ℕ) (es : List ℕ) (ss : List ℤ) → length ss ≡ length es → length (without v ss) ≡ length (without v es)
without-same v es ss h = length_without v ss ∙ ap (λ (n : ℕ). cond (ltb v n) (n - 1) n) h ∙ sym (length_without v es)

pub counted : (s : Scatter) → length s.indices.strides ≡ rank s.indices → is_done (axes_refusal s) ≡ true → Counted s
unfolding batch_shape scatter_dims window_dims
counted s h d =
    let ie = s.indices.extents in
    let ue = s.updates.extents in
    let de = s.result.extents in
    let window = s.spec.update-window-dims in
    let inserted = s.spec.inserted-window-dims in
    let vector = s.spec.index-vector-dim in
    let (b, q) = or-done (lists_refusal ie de inserted s.spec.scatter-dims-to-operand-dims vector) _ d in
    let (c, r) = or-done (counts_refusal ie ue de window inserted vector) (batch_refusal ie ue window vector) q in
    let (x, y) = or-done (same_count (length window) (length (others (length de) inserted))) _ c in
    record {
      batch = without-same vector ie s.indices.strides h ∙ sym (same-batch (length ue) (pick 0 (others (length ue) window) ue) (without vector ie) r);
      window = same-count (length window) (length (others (length de) inserted)) x;
    }
