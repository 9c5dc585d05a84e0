-- The role of an axis, entry by entry of `offset_dims`, and what it says of the axis's steps. Assumes nothing.
use mathlib.Core.Path.{◌≡◌, refl, sym, ap, ◌∙◌}
use mathlib.Core.Bool.{Bool, true, false, cond, ◌||◌}
use mathlib.Core.List.{List, [], ◌∷◌}
use Prim.Native.Nat.{ℕ, ◌+◌, ◌<◌, ◌≤◌, min}
use native.Mathlib.Numerals.{add-one}
use native.Mathlib.Omega.{arith}
use borrow.Author.Tests.{eqb-true, eqb-false, eq-eqb, ne_eqb, ltb-true, ltb-false}
use lib.Dec.{eqb, ltb}
use lib.ListN.{length, drop, get_or, set, drop_of_length-le}
use lib.Seq.{drop-cons, get_or-set_same, get_or-set_other}
use lib.IntN.{ℤ, pos}
use Rattle.indexing.specs.Coordinates.{rank, pick, spread, has}
use Rattle.indexing.specs.Start.{without}
use Rattle.indexing.specs.Gather.{Gather, shown_dims, batch_dims}
use Rattle.indexing.specs.Axes.{get_or-same, length-spread, spread_none, others-not, others-has}
use Rattle.indexing.specs.Steps.{window_steps, batch_steps}
use Rattle.gather_plan.specs.declared.Role.{Role}
use Rattle.gather_plan.specs.declared.Role.TheVariants.{Batch, Window}
use Rattle.gather_plan.specs.Plan.{role_of}

-- what is left to look at from entry i on
abbrev pub left : List ℕ → List ℕ → ℕ → ℕ → Role
left offsets shown a i = role_of (drop i offsets) (drop i shown) a

module _ (offsets shown : List ℕ) (a i : ℕ) where
  pub role-here : i < length offsets → i < length shown → get_or offsets i 0 ≡ a → Window (get_or shown i 0) ≡ left offsets shown a i
  unfolding role_of
  role-here h k e = rw (drop-cons shown i 0 k, drop-cons offsets i 0 h, eq-eqb (get_or offsets i 0) a e)

  pub role-next : i < length offsets → i < length shown → (get_or offsets i 0 ≡ a → ⊥) → left offsets shown a (i + 1) ≡ left offsets shown a i
  unfolding role_of
  role-next h k e = rw (drop-cons shown i 0 k, drop-cons offsets i 0 h, ne_eqb (get_or offsets i 0) a e, add-one i)

  pub role-done : min (length offsets) (length shown) ≤ i → Batch ≡ left offsets shown a i
  role-done h = go (ltb i (length offsets)) refl
    where
      none : (xs : List ℕ) → Batch ≡ role_of xs [] a
      none [] = unfold role_of in refl
      none (x ∷ xs) = unfold role_of in refl

      go : (t : Bool) → ltb i (length offsets) ≡ t → Batch ≡ left offsets shown a i
      go true e = let f : drop i shown ≡ [] = drop_of_length-le shown (omega (arith, ltb-true i (length offsets) e)) in rw f (none (drop i offsets))
      go false e = let f : drop i offsets ≡ [] = drop_of_length-le offsets (ltb-false i (length offsets) e) in rw f (unfold role_of in refl)

-- ---- what a role says of the steps that are spread over the axes
shows : (offsets shown : List ℕ) (a k : ℕ) → role_of offsets shown a ≡ Window k → has offsets a ≡ true
unfolding role_of has
shows [] shown a k e = let z : ◌≡◌ {A = ℕ} 0 1 = cc in absurd (omega arith)
shows (b ∷ offsets) [] a k e = let z : ◌≡◌ {A = ℕ} 0 1 = cc in absurd (omega arith)
shows (b ∷ offsets) (j ∷ shown) a k e = go (eqb b a) e (shows offsets shown a k)
  where
    go : (t : Bool) → cond t (Window j) (role_of offsets shown a) ≡ Window k → (role_of offsets shown a ≡ Window k → has offsets a ≡ true) → (t || has offsets a) ≡ true
    go true f ih = refl
    go false f ih = ih f

shows-none : (offsets shown : List ℕ) (a : ℕ) → length offsets ≡ length shown → role_of offsets shown a ≡ Batch → has offsets a ≡ false
unfolding role_of has
shows-none [] shown a l e = refl
shows-none (b ∷ offsets) [] a l e = absurd (omega arith)
shows-none (b ∷ offsets) (j ∷ shown) a l e = go (eqb b a) e (shows-none offsets shown a (omega arith))
  where
    go : (t : Bool) → cond t (Window j) (role_of offsets shown a) ≡ Batch → (role_of offsets shown a ≡ Batch → has offsets a ≡ false) → (t || has offsets a) ≡ false
    go true f ih = let z : ◌≡◌ {A = ℕ} 0 1 = cc in absurd (omega arith)
    go false f ih = ih f

module _ (n : ℕ) (ss : List ℤ) where
  -- on a window axis stands the entry of the axis that it shows
  window-entry : (offsets shown : List ℕ) (a k : ℕ) → a < n → role_of offsets shown a ≡ Window k → get_or (spread (pos 0) n offsets (pick (pos 0) shown ss)) a (pos 0) ≡ get_or ss k (pos 0)
  unfolding role_of spread pick
  window-entry [] shown a k h e = let z : ◌≡◌ {A = ℕ} 0 1 = cc in absurd (omega arith)
  window-entry (b ∷ offsets) [] a k h e = let z : ◌≡◌ {A = ℕ} 0 1 = cc in absurd (omega arith)
  window-entry (b ∷ offsets) (j ∷ shown) a k h e = go (spread (pos 0) n offsets (pick (pos 0) shown ss)) (length-spread (pos 0) n offsets (pick (pos 0) shown ss)) (eqb b a) refl e (window-entry offsets shown a k h)
    where
      go : (l : List ℤ) → length l ≡ n → (t : Bool) → eqb b a ≡ t → cond t (Window j) (role_of offsets shown a) ≡ Window k → (role_of offsets shown a ≡ Window k → get_or l a (pos 0) ≡ get_or ss k (pos 0)) → get_or (set l b (get_or ss j (pos 0))) a (pos 0) ≡ get_or ss k (pos 0)
      go l m true q f ih =
          let r : j ≡ k = cc in
          ap (λ (i : ℕ). get_or (set l i (get_or ss j (pos 0))) a (pos 0)) (eqb-true b a q) ∙ get_or-set_same l a (get_or ss j (pos 0)) (pos 0) (omega arith) ∙ ap (λ (i : ℕ). get_or ss i (pos 0)) r
      go l m false q f ih = get_or-set_other l b a (get_or ss j (pos 0)) (pos 0) (λ p. eqb-false b a q (sym p)) ∙ ih f

  -- and on a batch axis 0
  batch-entry : (offsets shown : List ℕ) (a : ℕ) → role_of offsets shown a ≡ Batch → get_or (spread (pos 0) n offsets (pick (pos 0) shown ss)) a (pos 0) ≡ pos 0
  unfolding role_of spread pick
  batch-entry [] shown a e = get_or-same (pos 0) n a
  batch-entry (b ∷ offsets) [] a e = get_or-same (pos 0) n a
  batch-entry (b ∷ offsets) (j ∷ shown) a e = go (spread (pos 0) n offsets (pick (pos 0) shown ss)) (eqb b a) refl e (batch-entry offsets shown a)
    where
      go : (l : List ℤ) (t : Bool) → eqb b a ≡ t → cond t (Window j) (role_of offsets shown a) ≡ Batch → (role_of offsets shown a ≡ Batch → get_or l a (pos 0) ≡ pos 0) → get_or (set l b (get_or ss j (pos 0))) a (pos 0) ≡ pos 0
      go l true q f ih = let z : ◌≡◌ {A = ℕ} 0 1 = cc in absurd (omega arith)
      go l false q f ih = get_or-set_other l b a (get_or ss j (pos 0)) (pos 0) (λ p. eqb-false b a q (sym p)) ∙ ih f

-- ---- the steps of a gather's axes, by role
module _ (g : Gather) (a : ℕ) where
  abbrev role : Role
  role = role_of g.spec.offset-dims (shown_dims g) a

  pub window-moves : (k : ℕ) → a < rank g.result → role ≡ Window k → get_or (window_steps g) a (pos 0) ≡ get_or g.operand.strides k (pos 0)
  unfolding window_steps
  window-moves k h e = window-entry (rank g.result) g.operand.strides g.spec.offset-dims (shown_dims g) a k h e

  pub window-stays : role ≡ Batch → get_or (window_steps g) a (pos 0) ≡ pos 0
  unfolding window_steps
  window-stays e = batch-entry (rank g.result) g.operand.strides g.spec.offset-dims (shown_dims g) a e

  pub batch-stays : (k : ℕ) → role ≡ Window k → get_or (batch_steps g) a (pos 0) ≡ pos 0
  unfolding batch_steps batch_dims
  batch-stays k e =
      spread_none (pos 0) (rank g.result) (batch_dims g) (without g.spec.index-vector-dim g.indices.strides) a
      (others-not 0 (rank g.result) g.spec.offset-dims a (shows g.spec.offset-dims (shown_dims g) a k e))

  -- a batch axis is one of the batch axes
  pub among-batch : a < rank g.result → length g.spec.offset-dims ≡ length (shown_dims g) → role ≡ Batch → has (batch_dims g) a ≡ true
  unfolding batch_dims
  among-batch h l e = others-has 0 (rank g.result) g.spec.offset-dims a (omega arith) (omega arith) (shows-none g.spec.offset-dims (shown_dims g) a l e)
