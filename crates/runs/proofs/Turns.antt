-- The laws of loops: a loop may be cut into loops, and what it does on a part of a slice it does on the slice. Assumes nothing.
use mathlib.Core.Path.{◌≡◌, refl, sym, ap, ap₂, ◌∙◌}
use mathlib.Core.List.{List, ◌++◌}
use Prim.Native.Nat.{ℕ, zero, suc, ◌+◌, ◌*◌, ◌<◌, ◌≤◌}
use native.Mathlib.Numerals.{add-one}
use native.Mathlib.Nat.{mul-suc, mul-zero}
use native.Mathlib.Omega.{arith}
use lib.ListN.{length, get_or, take, drop, length-drop, take-append-drop}
use lib.Seq.{length-take-le, get_or-take, get_or-drop}
use lib.IntN.{ℤ, pos}
use Rattle.integer.specs.Z.{≤-from, <-from}
use Rattle.indexing.specs.Coordinates.{InSlice, element_at, store}
use Rattle.indexing.proofs.Updates.{length-store}
use Rattle.indexing.specs.Loops.{in_order}
use Rattle.indexing.proofs.Parts.{element-mid, store-mid}
use Rattle.runs.specs.Runs.{cell_at, line}

-- ---- over any contents and any turn
module _ {C : Type 0} (turn : ℕ → C → C) where
  pub none : (n : ℕ) (x : C) → n ≡ 0 → x ≡ in_order turn n x
  unfolding in_order
  none zero x e = refl
  none (suc n) x e = absurd (omega arith)

  pub more : (n : ℕ) (x y z : C) → y ≡ in_order turn n x → z ≡ turn n y → z ≡ in_order turn (n + 1) x
  unfolding in_order
  more n x y z e f = f ∙ ap (turn n) e ∙ ap (λ (m : ℕ). in_order turn m x) (sym (add-one n))

  -- a turns, then b
  pub split : (a b : ℕ) (x : C) → in_order turn (a + b) x ≡ in_order (λ i. turn (i + a)) b (in_order turn a x)
  unfolding in_order
  split a zero x = let e : a + zero ≡ a = omega arith in ap (λ (m : ℕ). in_order turn m x) e
  split a (suc b) x =
      let e : a + suc b ≡ suc (b + a) = omega arith in
      let c : a + b ≡ b + a = omega arith in
      ap (λ (m : ℕ). in_order turn m x) e
      ∙ ap (turn (b + a)) (ap (λ (m : ℕ). in_order turn m x) (sym c) ∙ split a b x)

  -- THE LAW OF RUNS: n · m turns are m runs of n
  pub in-runs : (n m : ℕ) (x : C) → in_order turn (n * m) x ≡ in_order (λ j. in_order (λ i. turn (i + n * j)) n) m x
  unfolding in_order
  in-runs n zero x = sym (none (n * zero) x (mul-zero n))
  in-runs n (suc m) x =
      ap (λ (k : ℕ). in_order turn k x) (mul-suc n m)
      ∙ split (n * m) n x
      ∙ ap (in_order (λ i. turn (i + n * m)) n) (in-runs n m x)

-- turns that do the same where they are made
pub same-turns : {C : Type 0} (turn turn' : ℕ → C → C) (n : ℕ) → ((k : ℕ) → k < n → (y : C) → turn k y ≡ turn' k y) → (x : C) → in_order turn n x ≡ in_order turn' n x
unfolding in_order
same-turns turn turn' zero e x = refl
same-turns turn turn' (suc n) e x = ap (turn n) (same-turns turn turn' n (λ k h. e k (omega arith)) x) ∙ e n (omega arith) (in_order turn' n x)

-- ---- cells
module _ {A : Type 0} (z : A) (rule : A → A → A) where
  -- the same places
  pub same-places : (src : List A) (f g f' g' : ℕ → ℤ) (n : ℕ) → ((k : ℕ) → k < n → f k ≡ f' k) → ((k : ℕ) → k < n → g k ≡ g' k) → (x : List A)
      → in_order (cell_at z rule src f g) n x ≡ in_order (cell_at z rule src f' g') n x
  same-places src f g f' g' n p q =
      same-turns (cell_at z rule src f g) (cell_at z rule src f' g') n
      (λ k h y. ap₂ (λ (s d : ℤ). store y d (rule (element_at z y d) (element_at z src s))) (p k h) (q k h))

  -- a turn as the machine makes it: v is stored at index b
  pub cell-more : (src : List A) (f g : ℕ → ℤ) (x y : List A) (i a b : ℕ) (v : A)
      → y ≡ in_order (cell_at z rule src f g) i x → pos a ≡ f i → pos b ≡ g i → v ≡ rule (get_or y b z) (get_or src a z) → store y (pos b) v ≡ in_order (cell_at z rule src f g) (i + 1) x
  cell-more src f g x y i a b v e p q w =
      more (cell_at z rule src f g) i x y _ e
      (ap (store y (pos b)) w ∙ ap₂ (λ (s d : ℤ). store y d (rule (element_at z y d) (element_at z src s))) p q)

  pub length-cells : (src : List A) (f g : ℕ → ℤ) (n : ℕ) (x : List A) → length (in_order (cell_at z rule src f g) n x) ≡ length x
  unfolding in_order
  length-cells src f g zero x = refl
  length-cells src f g (suc n) x = length-store (in_order (cell_at z rule src f g) n x) (g n) _ ∙ length-cells src f g n x

  -- ---- a run of stride 1 on the parts that it touches
  upto : (src p q r : List A) (a n k : ℕ) → n ≤ length q → k ≤ n
      → p ++ (in_order (cell_at z rule (take n (drop a src)) pos pos) k q ++ r) ≡ in_order (cell_at z rule src (line (pos a) (pos 1)) (line (pos (length p)) (pos 1))) k (p ++ (q ++ r))
  unfolding in_order
  upto src p q r a n zero h l = refl
  upto src p q r a n (suc k) h l =
      let y : List A = in_order (cell_at z rule (take n (drop a src)) pos pos) k q in
      let u : A = get_or (take n (drop a src)) k z in
      let i : InSlice (length y) (pos k) = (≤-from (pos 0) (pos k) (omega arith), <-from (pos k) (pos (length y)) (omega (arith, length-cells (take n (drop a src)) pos pos k q))) in
      let e : length p + k ≡ length p + 1 * k = omega arith in
      let f : a + k ≡ a + 1 * k = omega arith in
      sym (store-mid p y r (pos k) (rule (get_or y k z) u) i)
      ∙ ap (λ (x : A). store (p ++ (y ++ r)) (pos (length p + k)) (rule x u)) (sym (element-mid p y r (pos k) z i))
      ∙ ap (λ (v : A). store (p ++ (y ++ r)) (pos (length p + k)) (rule (element_at z (p ++ (y ++ r)) (pos (length p + k))) v)) (get_or-take n (drop a src) k z (omega arith) ∙ get_or-drop a src k z)
      ∙ ap₂ (λ (i j : ℕ). store (p ++ (y ++ r)) (pos j) (rule (element_at z (p ++ (y ++ r)) (pos j)) (element_at z src (pos i)))) f e
      ∙ ap (λ (l : List A). store l (pos (length p + 1 * k)) (rule (element_at z l (pos (length p + 1 * k))) (element_at z src (pos (a + 1 * k))))) (upto src p q r a n k h (omega arith))

  -- the part from b on is what the run writes, the part of the source from a on what it reads
  pub on-parts : (src xs : List A) (a b n : ℕ) → b + n ≤ length xs
      → take b xs ++ (in_order (cell_at z rule (take n (drop a src)) pos pos) n (take n (drop b xs)) ++ drop n (drop b xs)) ≡ in_order (cell_at z rule src (line (pos a) (pos 1)) (line (pos b) (pos 1))) n xs
  on-parts src xs a b n h =
      let lp : length (take b xs) ≡ b = length-take-le b xs (omega arith) in
      let lq : length (take n (drop b xs)) ≡ n = length-take-le n (drop b xs) (omega (arith, length-drop b xs)) in
      upto src (take b xs) (take n (drop b xs)) (drop n (drop b xs)) a n n (omega arith) (omega arith)
      ∙ ap₂ (λ (m : ℕ) (l : List A). in_order (cell_at z rule src (line (pos a) (pos 1)) (line (pos m) (pos 1))) n l) lp
      (ap (λ (l : List A). take b xs ++ l) (take-append-drop n (drop b xs)) ∙ take-append-drop b xs)
