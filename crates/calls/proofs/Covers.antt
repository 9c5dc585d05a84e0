-- A view that passes the test of 9 and has a cell is covered by its slice. Assumes nothing.
use mathlib.Core.Path.{◌≡◌, refl, sym}
use mathlib.Core.Bool.{Bool, true, false, cond, ◌&&◌, ◌||◌, true≢false}
use mathlib.Core.List.{List, [], ◌∷◌}
use Prim.Native.Nat.{ℕ, ◌<◌}
use native.Mathlib.Omega.{arith}
use borrow.Author.Tests.{eqb-true}
use lib.Dec.{eqb}
use lib.IntN.{ℤ, pos, ◌+ℤ◌}
use lib.Signed.{le_z, lt_z}
use Rattle.integer.specs.Z.{up}
use Rattle.indexing.specs.Coordinates.{View, Within}
use Rattle.indexing.specs.Reach.{lowest, highest}
use Rattle.indexing.specs.Valid.{Covered}
use Rattle.layout.specs.declared.Reach.{Reach}
use Rattle.layout.specs.declared.Reach.TheVariants as R
use Rattle.layout.specs.Answers.{is_done}
use Rattle.layout.specs.Nested.{has_zero}
use Rattle.layout.specs.Reach.{view_reach, buffer_bounds}
use Rattle.layout.specs.Inside.{reach-inside, reach-covers}

-- extents with a coordinate inside have no 0
pub no_zero : (ds cs : List ℕ) → Within ds cs → has_zero ds ≡ false
unfolding Within has_zero
no_zero [] [] h = refl
no_zero [] (c ∷ cs) h = absurd h
no_zero (d ∷ ds) [] h = absurd h
no_zero (d ∷ ds) (c ∷ cs) h = go (eqb d 0) refl (no_zero ds cs h.1)
  where
    go : (t : Bool) → eqb d 0 ≡ t → has_zero ds ≡ false → (t || has_zero ds) ≡ false
    go true e q = let x : d ≡ 0 = eqb-true d 0 e in let l : c < d = h.0 in absurd (omega arith)
    go false e q = q

none-not : (ds : List ℕ) (ss : List ℤ) (offset : ℤ) (n : ℕ) → has_zero ds ≡ false → view_reach ds ss offset n ≡ R.NoCells → ⊥
unfolding view_reach
none-not ds ss offset n f e = go (has_zero ds) f e
  where
    cells : (u : Bool) (a b : ℕ) → cond u (R.Cells a b) R.Outside ≡ R.NoCells → ⊥
    cells true a b q = let x : ◌≡◌ {A = ℕ} 0 1 = cc in omega arith
    cells false a b q = let x : ◌≡◌ {A = ℕ} 0 1 = cc in omega arith

    go : (t : Bool) → t ≡ false
        → cond t (cond (le_z (pos 0) offset && le_z offset (pos n)) R.NoCells R.Outside)
        (cond (le_z (pos 0) (offset +ℤ lowest ss ds) && lt_z (offset +ℤ highest ss ds) (pos n)) (R.Cells (up (offset +ℤ lowest ss ds)) (up (offset +ℤ highest ss ds))) R.Outside)
        ≡ R.NoCells → ⊥
    go true g q = true≢false g
    go false g q = cells (le_z (pos 0) (offset +ℤ lowest ss ds) && lt_z (offset +ℤ highest ss ds) (pos n)) (up (offset +ℤ lowest ss ds)) (up (offset +ℤ highest ss ds)) q

pub covered : (v : View) (m n : ℕ) → is_done (buffer_bounds m (view_reach v.extents v.strides v.offset n)) ≡ true → has_zero v.extents ≡ false → Covered v n
covered v m n e f = go (view_reach v.extents v.strides v.offset n) refl e
  where
    go : (r : Reach) → view_reach v.extents v.strides v.offset n ≡ r → is_done (buffer_bounds m r) ≡ true → Covered v n
    go (R.Cells low high) g h = reach-covers v.extents v.strides v.offset n low high (reach-inside v.extents v.strides v.offset n low high g)
    go R.NoCells g h = absurd (none-not v.extents v.strides v.offset n f g)
    go R.Outside g h = absurd (true≢false (sym h))
