-- The entries of all axes but one, as those on the others. Assumes nothing.
use mathlib.Core.Path.{◌≡◌, refl, sym, ap, ap₂, ◌∙◌}
use mathlib.Core.Bool.{Bool, true, false, cond, ◌||◌}
use mathlib.Core.List.{List, [], ◌∷◌, ◌++◌}
use Prim.Native.Nat.{ℕ, zero, suc, ◌-◌, ◌<◌, ◌≤◌}
use native.Mathlib.Omega.{arith}
use borrow.Author.Tests.{lt-ltb, le-ltb, ltb-true, ltb-false, eqb-true, eqb-false}
use lib.Dec.{eqb, ltb}
use lib.ListN.{length, length-append}
use lib.Seq.{append_snoc, get_or-append_seam}
use Rattle.indexing.specs.Coordinates.{has, pick, others_from, others}
use Rattle.indexing.specs.Start.{without}
use Rattle.indexing.specs.Axes.{length-pick}

longer : {A : Type 0} (p : List A) (x : A) → length (p ++ (x ∷ [])) ≡ suc (length p)
longer p x = omega (arith, length-append p (x ∷ []))

module _ {A : Type 0} (d : A) (v : ℕ) where
  -- what is left of the list from its axis i on
  abbrev left : ℕ → List A → List A
  left i l = cond (ltb v i) l (without (v - i) l)

  left_here : (i : ℕ) (x : A) (l : List A) → v ≡ i → left (suc i) l ≡ left i (x ∷ l)
  unfolding without
  left_here i x l e =
      let z : v - i ≡ 0 = omega arith in
      rw (lt-ltb v (suc i) (omega arith), le-ltb v i (omega arith), z)

  left-past : (i : ℕ) (x : A) (l : List A) → (v ≡ i → ⊥) → x ∷ left (suc i) l ≡ left i (x ∷ l)
  left-past i x l e = go (ltb v i) refl
    where
      go : (t : Bool) → ltb v i ≡ t → x ∷ left (suc i) l ≡ left i (x ∷ l)
      go true f = let h : v < i = ltb-true v i f in rw (lt-ltb v (suc i) (omega arith), f)
      go false f =
          let h : i ≤ v = ltb-false v i f in
          let k : suc i ≤ v = omega (arith, e) in
          let z : v - i ≡ suc (v - suc i) = omega arith in
          rw (le-ltb v (suc i) k, f, z) (unfold without in refl)

  nothing : (k : ℕ) → ◌≡◌ {A = List A} [] (without k [])
  unfolding without
  nothing zero = refl
  nothing (suc k) = refl

  none : (i : ℕ) (t : Bool) → ◌≡◌ {A = List A} [] (cond t [] (without (v - i) []))
  none i true = refl
  none i false = nothing (v - i)

  -- the axes from that of x on, with x counted to those before
  next : (p l : List A) (x : A) (n : ℕ) → pick d (others_from (suc (length p)) n (v ∷ [])) (p ++ (x ∷ l)) ≡ pick d (others_from (length (p ++ (x ∷ []))) n (v ∷ [])) ((p ++ (x ∷ [])) ++ l)
  next p l x n =
      ap₂ (λ (i : ℕ) (q : List A). pick d (others_from i n (v ∷ [])) q) (sym (longer p x)) (sym (append_snoc p x l))

  from : (p l : List A) → pick d (others_from (length p) (length l) (v ∷ [])) (p ++ l) ≡ left (length p) l
  unfolding pick others_from has
  from p [] = none (length p) (ltb v (length p))
  from p (x ∷ l) = go (eqb v (length p)) refl (next p l x (length l) ∙ from (p ++ (x ∷ [])) l ∙ ap (λ (i : ℕ). left i l) (longer p x))
    where
      go : (t : Bool) → eqb v (length p) ≡ t → pick d (others_from (suc (length p)) (length l) (v ∷ [])) (p ++ (x ∷ l)) ≡ left (suc (length p)) l
          → pick d (cond (eqb v (length p) || false) (others_from (suc (length p)) (length l) (v ∷ [])) (length p ∷ others_from (suc (length p)) (length l) (v ∷ []))) (p ++ (x ∷ l)) ≡ left (length p) (x ∷ l)
      go true f r = rw f (r ∙ left_here (length p) x l (eqb-true v (length p) f))
      go false f r = rw f (ap₂ (λ (y : A) (ys : List A). y ∷ ys) (get_or-append_seam p x l d) r ∙ left-past (length p) x l (eqb-false v (length p) f))

-- THE ENTRIES WITHOUT ONE AXIS are those on the others
pub pick-without : {A : Type 0} (d : A) (v : ℕ) (l : List A) → pick d (others (length l) (v ∷ [])) l ≡ without v l
pick-without d v l =
    let z : v - 0 ≡ v = omega arith in
    from d v [] l ∙ ap (λ (t : Bool). cond t l (without (v - 0) l)) (le-ltb v 0 (omega arith)) ∙ ap (λ (k : ℕ). without k l) z

pub length-starts : {A : Type 0} (d : A) (v : ℕ) (l : List A) → length (others (length l) (v ∷ [])) ≡ length (without v l)
length-starts d v l = sym (length-pick d (others (length l) (v ∷ [])) l) ∙ ap length (pick-without d v l)
