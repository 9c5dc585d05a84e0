-- A layout that neither 1 nor 2 refuses is read as it was given. Assumes nothing.
use Rattle.std.specs.Prelude.{Ok, Err}
use mathlib.Core.Path.{◌≡◌, refl, sym, ap, ◌∙◌}
use mathlib.Core.Bool.{Bool, true, false, cond, true≢false}
use mathlib.Core.List.{List}
use Prim.Native.Nat.{ℕ, ◌≤◌}
use native.Mathlib.Omega.{arith}
use borrow.Author.Tests.{eqb-true, leb-true}
use lib.Dec.{eqb, leb}
use lib.ListN.{length}
use lib.IntN.{ℤ}
use Rattle.layout.specs.declared.MadeLayout.{MadeLayout}
use Rattle.layout.specs.Answers.{is_done, or_else, Answer}
use Rattle.layout.specs.Layouts.{rank_limit, layout_of, stride_length, rank_at_most, layout_from}
use Rattle.layout.specs.declared.Refusal.TheVariants as F

pub or-done : (x y : Answer) → is_done (or_else x y) ≡ true → (is_done x ≡ true) × (is_done y ≡ true)
or-done x y e = go (is_done x) refl e
  where
    go : (t : Bool) → is_done x ≡ t → is_done (cond t y x) ≡ true → (is_done x ≡ true) × (is_done y ≡ true)
    go true f h = (f, h)
    go false f h = let z : ◌≡◌ {A = ℕ} 0 1 = cc in absurd (omega arith)

pub same_length : (n m : ℕ) → is_done (stride_length n m) ≡ true → m ≡ n
same_length n m e = go (eqb m n) refl e
  where
    go : (t : Bool) → eqb m n ≡ t → is_done (cond t (Ok tt) (Err F.StrideLengthMismatch)) ≡ true → m ≡ n
    go true f h = eqb-true m n f
    go false f h = let z : ◌≡◌ {A = ℕ} 0 1 = cc in absurd (omega arith)

-- a count that was asked to be at most a limit, and was not refused
pub at_most : (n limit : ℕ) (x : Answer) → is_done x ≡ false → is_done (cond (leb n limit) (Ok tt) x) ≡ true → n ≤ limit
at_most n limit x r e = go (leb n limit) refl e
  where
    go : (t : Bool) → leb n limit ≡ t → is_done (cond t (Ok tt) x) ≡ true → n ≤ limit
    go true f h = leb-true n limit f
    go false f h = absurd (true≢false (sym h ∙ r))

pub few-axes : (n : ℕ) → is_done (rank_at_most n) ≡ true → n ≤ rank_limit
few-axes n e = at_most n rank_limit (Err (F.RankTooLarge n rank_limit)) refl e

module _ (es : List ℕ) (ss : List ℤ) (m : MadeLayout) (e : m ≡ layout_from es ss) (p : is_done (stride_length (length es) (length ss)) ≡ true) (q : is_done (rank_at_most (length es)) ≡ true) where
  pub made : m.layout ≡ layout_of es ss
  unfolding layout_from
  made = ap (λ (r : MadeLayout). r.layout) e ∙ rw (p, q)
