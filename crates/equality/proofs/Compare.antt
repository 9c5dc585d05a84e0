-- Tests for the same lists and layouts: entry by entry, and that they decide. Assumes nothing.
use mathlib.Core.Path.{◌≡◌, refl, sym, ap, subst, ◌∙◌}
use mathlib.Core.Bool.{Bool, true, false, ◌&&◌, true≢false}
use mathlib.Core.List.{List}
use Prim.Native.Nat.{ℕ}
use borrow.Author.Tests.{eqb-true, eq-eqb, ne_eqb}
use lib.Dec.{eqb}
use lib.IntN.{ℤ}
use lib.Pointwise.{pointwise}
use Rattle.std.specs.Ordering.{int_eq}
use Rattle.std.specs.Cmp.Lexicographic.{pointwise_decides}
use Rattle.std.proofs.lemmas.Bool.Decides.{Decides-int_eq}
use Rattle.integer.specs.Defs.{eq_z}
use Rattle.integer.specs.Laws.{eq_z-true, eq_z-refl}
use Rattle.integer.specs.Machine.{same_bits}
use mir.Syntax.{w64}
use mir.Val.{SFits, of_z}
use Rattle.integer.specs.Tests.{and-true, and_both, both_ways}
use Rattle.layout.specs.declared.Layout.{Layout}
use Rattle.axis_lists.specs.Held.{Numbers, Steps, Decides}
use Rattle.equality.specs.Same.{same_by, same_layout, same_numbers, same_steps}

-- ---- signed numbers, by their bits
pub bits-same : (a b : ℤ) → SFits w64 a → SFits w64 b → eqb (of_z w64 a) (of_z w64 b) ≡ eq_z a b
bits-same a b f g =
    both_ways (eqb (of_z w64 a) (of_z w64 b)) (eq_z a b)
    (λ e. subst (λ (z : ℤ). eq_z a z ≡ true) (same_bits f g (eqb-true (of_z w64 a) (of_z w64 b) e)) (eq_z-refl a))
    (λ e. eq-eqb (of_z w64 a) (of_z w64 b) (ap (of_z w64) (eq_z-true a b e)))

pub bits-equal : {a b : ℤ} → SFits w64 a → SFits w64 b → of_z w64 a ≡ of_z w64 b → eq_z a b ≡ true
bits-equal {a = a} {b = b} f g e = sym (bits-same a b f g) ∙ eq-eqb (of_z w64 a) (of_z w64 b) e

pub bits-differ : {a b : ℤ} → SFits w64 a → SFits w64 b → (of_z w64 a ≡ of_z w64 b → ⊥) → eq_z a b ≡ false
bits-differ {a = a} {b = b} f g e = sym (bits-same a b f g) ∙ ne_eqb (of_z w64 a) (of_z w64 b) e

-- ---- tests one after the other
pub first-no : (a r : Bool) → a ≡ false → false ≡ (a && r)
first-no true r e = absurd (true≢false e)
first-no false r e = refl

pub first-yes : (a r q : Bool) → a ≡ true → q ≡ r → q ≡ (a && r)
first-yes true r q e f = f
first-yes false r q e f = absurd (true≢false (sym e))

-- ---- each test decides
pub numbers-decide : (x y : ℕ) → Decides (eqb x y) x y
numbers-decide x y = record { yes = eqb-true x y; no = eq-eqb x y }

pub ints-decide : (x y : ℤ) → Decides (eq_z x y) x y
ints-decide x y = record { yes = eq_z-true x y; no = λ e. subst (λ (z : ℤ). eq_z x z ≡ true) e (eq_z-refl x) }

-- two parts together
pub pairs_decide : {A B : Type 0} {r t : Bool} {x y : A} {u v : B} → Decides r x y → Decides t u v → Decides {A = A × B} (r && t) (x, u) (y, v)
pairs_decide {A} {B} {r} {t} {x} {y} {u} {v} p q =
    record {
      yes = λ e. let h = and-true r t e in λ i. (p.yes h.0 i, q.yes h.1 i);
      no = λ e. and_both r t (p.no (ap (λ (z : A × B). z.0) e)) (q.no (ap (λ (z : A × B). z.1) e));
    }

-- a whole by its parts
pub whole-decides : {A T : Type 0} (parts : A → T) (make : T → A) → ((a : A) → make (parts a) ≡ a) → (r : Bool) (a b : A) → Decides r (parts a) (parts b) → Decides r a b
whole-decides parts make back r a b p = record { yes = λ e. sym (back a) ∙ ap make (p.yes e) ∙ back b; no = λ e. p.no (ap parts e) }

-- `==` of two signed numbers, as a function of them
pub int-eq : int_eq ≡ eq_z
int-eq = λ i x y. at x y i
  where
    at : (x y : ℤ) → int_eq x y ≡ eq_z x y
    at x y = both_ways (int_eq x y) (eq_z x y) (λ e. (ints-decide x y).no ((Decides-int_eq x y).0 e)) (λ e. (Decides-int_eq x y).1 ((ints-decide x y).yes e))

pub lists-decide : {A : Type 0} (test : A → A → Bool) → ((a b : A) → Decides (test a b) a b) → (xs ys : List A) → Decides (same_by test xs ys) xs ys
lists-decide test p xs ys = let d = pointwise_decides {E = test} (λ a b. ((p a b).yes, (p a b).no)) xs ys in record { yes = d.0; no = d.1 }

-- what `==` computes of two layouts, and of two lists of steps
pub layout-eq : (a b : Layout) → (eqb a.rank b.rank && (pointwise eqb a.extents b.extents && pointwise int_eq a.strides b.strides)) ≡ same_layout a b
layout-eq a b = λ i. eqb a.rank b.rank && (pointwise eqb a.extents b.extents && pointwise (int-eq i) a.strides b.strides)

pub steps-eq : (a b : Steps) → (eqb a.count b.count && pointwise int_eq a.entries b.entries) ≡ same_steps a b
steps-eq a b = λ i. eqb a.count b.count && pointwise (int-eq i) a.entries b.entries

abbrev LayoutParts : Type 0
LayoutParts = ℕ × (List ℕ × List ℤ)

pub layouts-decide : (a b : Layout) → Decides (same_layout a b) a b
layouts-decide a b =
    whole-decides {T = LayoutParts} (λ (x : Layout). (x.rank, (x.extents, x.strides))) (λ (t : LayoutParts). record { rank = t.0; extents = t.1.0; strides = t.1.1 }) (λ x. refl) (same_layout a b) a b
    (pairs_decide (numbers-decide a.rank b.rank) (pairs_decide (lists-decide eqb numbers-decide a.extents b.extents) (lists-decide eq_z ints-decide a.strides b.strides)))

pub held-decide : (a b : Numbers) → Decides (same_numbers a b) a b
held-decide a b =
    whole-decides {T = ℕ × List ℕ} (λ (x : Numbers). (x.count, x.entries)) (λ (t : ℕ × List ℕ). record { count = t.0; entries = t.1 }) (λ x. refl) (same_numbers a b) a b
    (pairs_decide (numbers-decide a.count b.count) (lists-decide eqb numbers-decide a.entries b.entries))

pub steps-decide : (a b : Steps) → Decides (same_steps a b) a b
steps-decide a b =
    whole-decides {T = ℕ × List ℤ} (λ (x : Steps). (x.count, x.entries)) (λ (t : ℕ × List ℤ). record { count = t.0; entries = t.1 }) (λ x. refl) (same_steps a b) a b
    (pairs_decide (numbers-decide a.count b.count) (lists-decide eq_z ints-decide a.entries b.entries))
