-- A copy, a copy by way of another slice, and more cells after those that are done. Assumes nothing.
use mathlib.Core.Path.{◌≡◌, refl, sym, ap, ◌∙◌}
use mathlib.Core.List.{List, ◌++◌, append-nil}
use Prim.Native.Nat.{ℕ, zero, suc, ◌+◌, ◌*◌, ◌≤◌}
use native.Mathlib.Nat.{zero-add}
use native.Mathlib.Omega.{arith}
use lib.ListN.{length, get_or, set, take, drop}
use lib.Seq.{length-take-le, length_front, take_all, take_at, drop-length, paste, paste-zero, paste-suc}
use lib.IntN.{pos}
use Rattle.indexing.specs.Loops.{in_order}
use Rattle.runs.specs.Runs.{cell_at, line}
use Rattle.runs.proofs.Turns.{split, same-places}
use Rattle.runs.proofs.Runs.{part-run}

module _ {A : Type 0} (z : A) (rule : A → A → A) where
  -- ---- n more cells: what the parts from the cell `at` on hold
  pub block_more : (src x y ys : List A) (at n k : ℕ) → k ≡ n → at + n ≤ length y → y ≡ in_order (cell_at z rule src pos pos) at x
      → ys ≡ in_order (cell_at z rule (take k (drop at src)) pos pos) (length (take k (drop at y))) (take k (drop at y))
      → take at y ++ (ys ++ drop k (drop at y)) ≡ in_order (cell_at z rule src pos pos) (at + n) x
  block_more src x y ys at n k ek h e f =
      let place : (i : ℕ) → at + 1 * i ≡ i + at = λ i. omega arith in
      part-run z rule src y ys (pos at) (pos at) at at n k k ek ek refl refl h f
      ∙ same-places z rule src (line (pos at) (pos 1)) (line (pos at) (pos 1)) (λ i. pos (i + at)) (λ i. pos (i + at)) n (λ i l. ap pos (place i)) (λ i l. ap pos (place i)) y
      ∙ ap (in_order (cell_at z rule src (λ i. pos (i + at)) (λ i. pos (i + at))) n) e
      ∙ sym (split (cell_at z rule src pos pos) at n x)

  -- ---- where the rule keeps nothing of what was there
  module _ (puts : (x u : A) → rule x u ≡ u) where
    upto : (src dst : List A) (k : ℕ) → k ≤ length src → length src ≡ length dst → in_order (cell_at z rule src pos pos) k dst ≡ paste dst 0 src k
    unfolding in_order
    upto src dst zero h e = paste-zero dst 0 src
    upto src dst (suc k) h e =
        ap (λ (l : List A). set l k (rule (get_or l k z) (get_or src k z))) (upto src dst k (omega arith) e)
        ∙ ap (set (paste dst 0 src k) k) (puts (get_or (paste dst 0 src k) k z) (get_or src k z))
        ∙ ap (λ (m : ℕ). set (paste dst 0 src k) m (get_or src k z)) (sym (zero-add k))
        ∙ paste-suc dst 0 src k z (omega arith) (omega arith)

    -- what it leaves is the source
    pub whole : (src dst : List A) → length src ≡ length dst → in_order (cell_at z rule src pos pos) (length dst) dst ≡ src
    whole src dst e =
        upto src dst (length dst) (omega arith) e
        ∙ ap (λ (m : ℕ). take (length dst) src ++ drop m dst) (zero-add (length dst))
        ∙ ap (λ (l : List A). take (length dst) src ++ l) (drop-length dst)
        ∙ append-nil (take (length dst) src)
        ∙ take_all (length dst) src (omega arith)

    -- by way of the first elements of another slice
    pub by_way : (src dst held ys out : List A) (k : ℕ) → k ≡ length dst → length src ≡ length dst → length dst ≤ length held
        → ys ≡ in_order (cell_at z rule src pos pos) (length (take k held)) (take k held)
        → out ≡ in_order (cell_at z rule (take k (ys ++ drop k held)) pos pos) (length dst) dst
        → out ≡ in_order (cell_at z rule src pos pos) (length dst) dst
    by_way src dst held ys out k ek l h e f =
        let p : length (take k held) ≡ k = length-take-le k held (omega arith) in
        let q : ys ≡ src = e ∙ whole src (take k held) (omega arith) in
        f ∙ ap (λ (s : List A). in_order (cell_at z rule s pos pos) (length dst) dst) (take_at ys (drop k held) k (ap length q ∙ l ∙ sym ek) ∙ q)

-- the other slice is as long as it was
pub room : {A : Type 0} (held ys : List A) (n k : ℕ) → length ys ≡ length (take k held) → n ≤ length held → n ≤ length (ys ++ drop k held)
room held ys n k e h = omega (arith, length_front held ys k e)
