-- Copies by two functions, where each cell is read and where it is written: what an element holds at the end, and copies that leave the same. Any element type. Assumes nothing.
use Rattle.std.specs.Prelude.{◌≡◌, refl, ◌≢◌, ◌⊎◌, Bool, true, false, ℕ, zero, suc, ◌<◌, eqb, length, ℤ, pos}
use Rattle.std.proofs.Math.Path.{sym, ap, subst}
use Rattle.std.proofs.Common.{◌∙◌, inl, inr, arith, eqb-true, ext_get_or}
use mathlib.Core.List.{List}
use Rattle.std.proofs.lemmas.Bool.{eqb-false}
use Rattle.std.proofs.Math.ListN.{get_or}
use Rattle.integer.specs.Defs.{eq_z}
use Rattle.integer.specs.Laws.{eq_z-true, eq_z-false}
use Rattle.indexing.specs.Coordinates.{element_at, tabulate}
use Rattle.indexing.specs.Gather.{Read, copy_each}
use Rattle.indexing.specs.Updates.{no_read}
use Rattle.indexing.proofs.Updates.{length-copy_each, copy-other, copy-last, length-tabulate, get_d_tabulate}
use Rattle.indexing.specs.Loops.{in_order}
use Rattle.indexing.proofs.Loops.{copy-loop}
use Rattle.fused_axes.specs.Fusing.{copy_turn}

-- one of the first n cells is read at a and written at b
abbrev pub Has : (ℕ → ℤ) → (ℕ → ℤ) → ℕ → ℤ → ℤ → Type 0
Has f g n a b = (k : ℕ) × (k < n) × (f k ≡ a) × (g k ≡ b)

-- none of them is written at element i
abbrev pub Missed : (ℕ → ℤ) → ℕ → ℕ → Type 0
Missed g n i = (m : ℕ) → m < n → g m ≢ pos i

-- the last of them that is
pub record LastAt (g : ℕ → ℤ) (n i : ℕ) : Type 0 where
  pub cell : ℕ
  pub below : cell < n
  pub at : g cell ≡ pos i
  pub later : (m : ℕ) → cell < m → m < n → g m ≢ pos i

-- a cell written at i is not cell n, which is not
below_last : (g : ℕ → ℤ) (n i m : ℕ) → g n ≢ pos i → m < suc n → g m ≡ pos i → m < n
below_last g n i m e h q = go (eqb m n) refl
  where
    go : (t : Bool) → eqb m n ≡ t → m < n
    go true x = absurd (e (subst (λ (j : ℕ). g j ≡ pos i) (eqb-true m n x) q))
    go false x = omega (arith, eqb-false m n x)

pub last-at : (g : ℕ → ℤ) (n i : ℕ) → LastAt g n i ⊎ Missed g n i
last-at g zero i = inr (λ m h e. omega arith)
last-at g (suc n) i = go (eq_z (g n) (pos i)) refl (last-at g n i)
  where
    go : (t : Bool) → eq_z (g n) (pos i) ≡ t → LastAt g n i ⊎ Missed g n i → LastAt g (suc n) i ⊎ Missed g (suc n) i
    go true e r = inl (record { cell = n; below = omega arith; at = eq_z-true (g n) (pos i) e; later = λ m h k q. omega arith })
    go false e (inl r) =
        inl (record { cell = r.cell; below = omega (arith, r.below); at = r.at; later = λ m h k q. r.later m h (below_last g n i m (eq_z-false (g n) (pos i) e) k q) q })
    go false e (inr r) = inr (λ m k q. r m (below_last g n i m (eq_z-false (g n) (pos i) e) k q) q)

module _ {A : Type 0} (z : A) (from : List A) where
  -- the first n turns
  abbrev pub turns : (ℕ → ℤ) → (ℕ → ℤ) → ℕ → List A → List A
  turns f g n x = in_order (copy_turn z from f g) n x

  module _ (f g : ℕ → ℤ) (n : ℕ) where
    -- the same as a list of reads
    turned : List Read
    turned = tabulate n (λ k. (g k, f k))

    turned-is : (k : ℕ) → k < n → get_or turned k no_read ≡ (g k, f k)
    unfolding turned
    turned-is k h = get_d_tabulate n (λ j. (g j, f j)) k no_read h

    turned-below : (k : ℕ) → k < length turned → k < n
    unfolding turned
    turned-below k h = subst (λ (m : ℕ). k < m) (length-tabulate n (λ j. (g j, f j))) h

    turns-are : (x : List A) → turns f g n x ≡ copy_each z turned from x
    unfolding turned
    turns-are x = sym (copy-loop z n g f from x)

    pub length-turns : (x : List A) → length (turns f g n x) ≡ length x
    length-turns x = ap length (turns-are x) ∙ length-copy_each z turned from x

    -- what no cell is written to stays
    stays : (i : ℕ) (x : List A) → Missed g n i → get_or (turns f g n x) i z ≡ get_or x i z
    stays i x h =
        ap (λ (l : List A). get_or l i z) (turns-are x)
        ∙ copy-other z turned from x (pos i) (λ k l e. h k (turned-below k l) (ap (λ (r : Read). r.0) (sym (turned-is k (turned-below k l))) ∙ e))

    -- and the last cell written to an element decides it
    decides : (i : ℕ) (x : List A) (l : LastAt g n i) → i < length x → get_or (turns f g n x) i z ≡ element_at z from (f l.cell)
    unfolding turned
    decides i x l h =
        ap (λ (m : List A). get_or m i z) (turns-are x)
        ∙ copy-last z turned from x l.cell i (subst (λ (m : ℕ). l.cell < m) (sym (length-tabulate n (λ j. (g j, f j)))) l.below) (ap (λ (r : Read). r.0) (turned-is l.cell l.below) ∙ l.at) h
        (λ m p k q. l.later m p (turned-below m k) (ap (λ (r : Read). r.0) (sym (turned-is m (turned-below m k))) ∙ q))
        ∙ ap (λ (r : Read). element_at z from r.1) (turned-is l.cell l.below)

  -- TWO COPIES leave the same where each has every cell of the other, and the first writes no two cells to one place
  pub copies-agree : (f g f' g' : ℕ → ℤ) (n n' : ℕ)
      → ((k m : ℕ) → k < n → m < n → g k ≡ g m → k ≡ m)
      → ((k : ℕ) → k < n → Has f' g' n' (f k) (g k))
      → ((k : ℕ) → k < n' → Has f g n (f' k) (g' k))
      → (x : List A) → turns f' g' n' x ≡ turns f g n x
  copies-agree f g f' g' n n' once there back x =
      ext_get_or z (turns f' g' n' x) (turns f g n x) (length-turns f' g' n' x ∙ sym (length-turns f g n x))
      (λ i h. each i (subst (λ (m : ℕ). i < m) (length-turns f' g' n' x) h) (last-at g' n' i))
    where
      each : (i : ℕ) → i < length x → LastAt g' n' i ⊎ Missed g' n' i → get_or (turns f' g' n' x) i z ≡ get_or (turns f g n x) i z
      each i h (inl l) =
          let b = back l.cell l.below in
          let at : g b.0 ≡ pos i = b.3 ∙ l.at in
          decides f' g' n' i x l h
          ∙ sym (ap (element_at z from) b.2)
          ∙ sym (decides f g n i x (record { cell = b.0; below = b.1; at = at; later = λ m p k q. later b.0 b.1 at m p k q }) h)
        where
          later : (c : ℕ) → c < n → g c ≡ pos i → (m : ℕ) → c < m → m < n → g m ≡ pos i → ⊥
          later c u at m p k q = let e : m ≡ c = once m c k u (q ∙ sym at) in omega arith
      each i h (inr r) =
          stays f' g' n' i x r
          ∙ sym (stays f g n i x (λ m k q. let t = there m k in r t.0 t.1 (t.3 ∙ q)))
