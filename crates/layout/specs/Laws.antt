-- What an accepted product, span, reset or offset is: the product, the least and the greatest sums, the way back, the place. Assumes nothing.
use Rattle.std.specs.Prelude.{◌≡◌, refl, Bool, true, false, ◌||◌, List, [], ◌∷◌, ℕ, zero, suc, ◌*◌, ◌-◌, ◌≤◌, ◌<◌, eqb, length, ℤ, pos, negsuc, neg_ℤ, ◌+ℤ◌, ◌*ℤ◌, ◌≤ℤ◌, Option, Some, None, option_map, option_and_then}
use Rattle.std.proofs.Common.{sym, ap, subst, ◌∙◌, true≢false, zero-mul, mul-zero, arith, eqb-true, SFits}
use Rattle.std.proofs.lemmas.Bool.{eqb-false}
use Rattle.std.proofs.Math.IntN.{+ℤ_idl, +ℤ_idr, +ℤ_assoc, *ℤ-zero}
use Rattle.std.specs.Int.{w64}
use Rattle.std.proofs.Math.Facts.{sfits_lit}
use Rattle.integer.specs.Defs.{checked, is_neg}
use Rattle.integer.specs.Machine.{checked-fits, checked-sfits}
use Rattle.indexing.specs.Odometer.{AllPos}
use Rattle.indexing.specs.Coordinates.{product, dot, Within}
use Rattle.indexing.specs.Reach.{below_zero, above_zero, lowest, highest}
use Rattle.indexing.proofs.Reach.{dot-low, dot-high}
use Rattle.layout.specs.Spans.{reach_of, widen_by, widened, span_from, spanned, reset, reset_of, offset_add, strided_offset}
use Rattle.layout.specs.Nested.{has_zero}
use Rattle.layout.specs.declared.Span.{Span}

zero-ne : ◌≡◌ {A = ℕ} 0 1 → ⊥
zero-ne e = omega arith

-- ---- an answer that was given was given at each step
pub then-inv : {A B : Type 0} (p : Option A) (f : A → Option B) (r : B) → option_and_then f p ≡ Some r → (m : A) × (p ≡ Some m) × (f m ≡ Some r)
then-inv (Some m) f r e = (m, refl, e)
then-inv None f r e = let x : ◌≡◌ {A = ℕ} 0 1 = cc in absurd (zero-ne x)

pub map-inv : {A B : Type 0} (p : Option A) (f : A → B) (r : B) → option_map f p ≡ Some r → (m : A) × (p ≡ Some m) × (f m ≡ r)
map-inv (Some m) f r e = (m, refl, cc)
map-inv None f r e = let x : ◌≡◌ {A = ℕ} 0 1 = cc in absurd (zero-ne x)

-- ---- the reach and the reset
pub reach-is : (d : ℕ) (s r : ℤ) → reach_of d s ≡ Some r → r ≡ s *ℤ pos (d - 1)
unfolding reach_of
reach-is d s r e =
    let t = then-inv (checked (pos (d - 1))) (λ m. checked (s *ℤ m)) r e in
    sym (checked-fits (s *ℤ t.0) r t.2) ∙ ap (λ (z : ℤ). s *ℤ z) (sym (checked-fits (pos (d - 1)) t.0 t.1))

pub reset-is : (d : ℕ) (s r : ℤ) → reset_of d s ≡ Some r → r ≡ reset d s
unfolding reset_of
reset-is zero s r e = let x : pos 0 ≡ r = cc in sym x ∙ ap neg_ℤ (sym (*ℤ-zero s))
reset-is (suc m) s r e =
    let t = then-inv (reach_of (suc m) s) (λ z. checked (neg_ℤ z)) r e in
    sym (checked-fits (neg_ℤ t.0) r t.2) ∙ ap neg_ℤ (reach-is (suc m) s t.0 t.1)

-- and the last coordinate and its product with the step fit an i64
reach-size : (d : ℕ) (s r : ℤ) → reach_of d s ≡ Some r → SFits w64 (pos (d - 1)) × SFits w64 (s *ℤ pos (d - 1))
unfolding reach_of
reach-size d s r e =
    let t = then-inv (checked (pos (d - 1))) (λ m. checked (s *ℤ m)) r e in
    (checked-sfits (pos (d - 1)) t.0 t.1, subst (λ (z : ℤ). SFits w64 (s *ℤ z)) (sym (checked-fits (pos (d - 1)) t.0 t.1)) (checked-sfits (s *ℤ t.0) r t.2))

pub reset-size : (d : ℕ) (s r : ℤ) → reset_of d s ≡ Some r → SFits w64 (pos (d - 1)) × SFits w64 (s *ℤ pos (d - 1))
unfolding reset_of
reset-size zero s r e = (sfits_lit {z = pos 0} tt, subst (λ (z : ℤ). SFits w64 z) (sym (*ℤ-zero s)) (sfits_lit {z = pos 0} tt))
reset-size (suc m) s r e =
    let t = then-inv (reach_of (suc m) s) (λ z. checked (neg_ℤ z)) r e in
    reach-size (suc m) s t.0 t.1

-- ---- the span
below-yes : (e : ℤ) → is_neg e ≡ true → (below_zero e ≡ e) × (above_zero e ≡ pos 0)
below-yes (pos n) h = (cc, cc)
below-yes (negsuc n) h = (refl, refl)

below-no : (e : ℤ) → is_neg e ≡ false → (below_zero e ≡ pos 0) × (above_zero e ≡ e)
below-no (pos n) h = (refl, refl)
below-no (negsuc n) h = (cc, cc)

-- an axis more: the sums, and that they fit
pub record Wider (low high : ℤ) (d : ℕ) (s a b : ℤ) : Type 0 where
  pub low-is : a ≡ low +ℤ below_zero (s *ℤ pos (d - 1))
  pub high_is : b ≡ high +ℤ above_zero (s *ℤ pos (d - 1))
  pub low_fits : SFits w64 low → SFits w64 a
  pub high_fits : SFits w64 high → SFits w64 b

sides : (p q : Span) (e : ℤ) (t : Bool) → is_neg e ≡ t → widen_by t p e ≡ Some q → (q.low ≡ p.low +ℤ below_zero e) × (q.high ≡ p.high +ℤ above_zero e) × (SFits w64 p.low → SFits w64 q.low) × (SFits w64 p.high → SFits w64 q.high)
sides p q e true n f =
    let u = map-inv (checked (p.low +ℤ e)) (λ l. record { low = l; high = p.high }) q f in
    let x : u.0 ≡ q.low = ap (λ (s : Span). s.low) u.2 in
    let y : p.high ≡ q.high = ap (λ (s : Span). s.high) u.2 in
    let k = below-yes e n in
    let w = checked-fits (p.low +ℤ e) u.0 u.1 in
    (sym x ∙ sym w ∙ ap (λ (z : ℤ). p.low +ℤ z) (sym k.0), sym y ∙ sym (+ℤ_idr p.high) ∙ ap (λ (z : ℤ). p.high +ℤ z) (sym k.1), (λ f. subst (λ (z : ℤ). SFits w64 z) (w ∙ x) (checked-sfits (p.low +ℤ e) u.0 u.1)), (λ f. subst (λ (z : ℤ). SFits w64 z) y f))
sides p q e false n f =
    let u = map-inv (checked (p.high +ℤ e)) (λ h. record { low = p.low; high = h }) q f in
    let x : u.0 ≡ q.high = ap (λ (s : Span). s.high) u.2 in
    let y : p.low ≡ q.low = ap (λ (s : Span). s.low) u.2 in
    let k = below-no e n in
    let w = checked-fits (p.high +ℤ e) u.0 u.1 in
    (sym y ∙ sym (+ℤ_idr p.low) ∙ ap (λ (z : ℤ). p.low +ℤ z) (sym k.0), sym x ∙ sym w ∙ ap (λ (z : ℤ). p.high +ℤ z) (sym k.1), (λ f. subst (λ (z : ℤ). SFits w64 z) y f), (λ f. subst (λ (z : ℤ). SFits w64 z) (w ∙ x) (checked-sfits (p.high +ℤ e) u.0 u.1)))

pub widened_is : (p : Span) (d : ℕ) (s : ℤ) (q : Span) → widened p d s ≡ Some q → Wider p.low p.high d s q.low q.high
unfolding widened
widened_is p d s q f =
    let t = then-inv (reach_of d s) (λ e. widen_by (is_neg e) p e) q f in
    let r = reach-is d s t.0 t.1 in
    let k = sides p q t.0 (is_neg t.0) refl t.2 in
    record { low-is = k.0 ∙ ap (λ (z : ℤ). p.low +ℤ below_zero z) r; high_is = k.1 ∙ ap (λ (z : ℤ). p.high +ℤ above_zero z) r; low_fits = k.2; high_fits = k.3 }

-- the span that is given is the least and the greatest sum, and an i64 holds both
pub record IsSpan (low high : ℤ) (ds : List ℕ) (ss : List ℤ) (l h : ℤ) : Type 0 where
  pub low-is : l ≡ low +ℤ lowest ss ds
  pub high_is : h ≡ high +ℤ highest ss ds
  pub low_fits : SFits w64 low → SFits w64 l
  pub high_fits : SFits w64 high → SFits w64 h

span_none : (p q : Span) → Some p ≡ Some q → (q.low ≡ p.low +ℤ pos 0) × (q.high ≡ p.high +ℤ pos 0) × (SFits w64 p.low → SFits w64 q.low) × (SFits w64 p.high → SFits w64 q.high)
span_none p q e =
    let s : p ≡ q = cc in
    let x : p.low ≡ q.low = ap (λ (s : Span). s.low) s in
    let y : p.high ≡ q.high = ap (λ (s : Span). s.high) s in
    (sym x ∙ sym (+ℤ_idr p.low), sym y ∙ sym (+ℤ_idr p.high), (λ f. subst (λ (z : ℤ). SFits w64 z) x f), (λ f. subst (λ (z : ℤ). SFits w64 z) y f))

pub span-from-is : (p : Span) (ds : List ℕ) (ss : List ℤ) (q : Span) → span_from p ds ss ≡ Some q → IsSpan p.low p.high ds ss q.low q.high
unfolding span_from lowest highest
span-from-is p [] [] q f = let k = span_none p q f in record { low-is = k.0; high_is = k.1; low_fits = k.2; high_fits = k.3 }
span-from-is p [] (s ∷ ss) q f = let k = span_none p q f in record { low-is = k.0; high_is = k.1; low_fits = k.2; high_fits = k.3 }
span-from-is p (d ∷ ds) [] q f = let k = span_none p q f in record { low-is = k.0; high_is = k.1; low_fits = k.2; high_fits = k.3 }
span-from-is p (d ∷ ds) (s ∷ ss) q f =
    let t = then-inv (widened p d s) (λ wider. span_from wider ds ss) q f in
    let w = widened_is p d s t.0 t.1 in
    let r = span-from-is t.0 ds ss q t.2 in
    record {
      low-is = r.low-is ∙ ap (λ (z : ℤ). z +ℤ lowest ss ds) w.low-is ∙ +ℤ_assoc p.low (below_zero (s *ℤ pos (d - 1))) (lowest ss ds);
      high_is = r.high_is ∙ ap (λ (z : ℤ). z +ℤ highest ss ds) w.high_is ∙ +ℤ_assoc p.high (above_zero (s *ℤ pos (d - 1))) (highest ss ds);
      low_fits = λ f. r.low_fits (w.low_fits f);
      high_fits = λ f. r.high_fits (w.high_fits f);
    }

module _ (ds : List ℕ) (ss : List ℤ) (l h : ℤ) (q : spanned ds ss ≡ Some (record { low = l; high = h })) where
  whole : IsSpan (pos 0) (pos 0) ds ss l h
  whole = span-from-is (record { low = pos 0; high = pos 0 }) ds ss (record { low = l; high = h }) q

  pub span-low : l ≡ lowest ss ds
  span-low = whole.low-is ∙ +ℤ_idl (lowest ss ds)

  pub span-high : h ≡ highest ss ds
  span-high = whole.high_is ∙ +ℤ_idl (highest ss ds)

  pub span-low-fits : SFits w64 l
  span-low-fits = whole.low_fits (sfits_lit {z = pos 0} tt)

  pub span-high-fits : SFits w64 h
  span-high-fits = whole.high_fits (sfits_lit {z = pos 0} tt)

  -- every coordinate's sum lies between the two
  pub span-bounds : (cs : List ℕ) → length ss ≤ length ds → Within ds cs → (l ≤ℤ dot ss cs) × (dot ss cs ≤ℤ h)
  span-bounds cs n w = (subst (λ (z : ℤ). z ≤ℤ dot ss cs) (sym span-low) (dot-low ss ds cs n w), subst (λ (z : ℤ). dot ss cs ≤ℤ z) (sym span-high) (dot-high ss ds cs n w))

-- ---- an offset that was given is the base plus stride times coordinate, over the axes
pub offset-add-is : (base s : ℤ) (c : ℕ) (r : ℤ) → offset_add base s c ≡ Some r → r ≡ base +ℤ s *ℤ pos c
unfolding offset_add
offset-add-is base s c r e =
    let t = then-inv (option_and_then (λ m. checked (s *ℤ m)) (checked (pos c))) (λ z. checked (base +ℤ z)) r e in
    let u = then-inv (checked (pos c)) (λ m. checked (s *ℤ m)) t.0 t.1 in
    sym (checked-fits (base +ℤ t.0) r t.2)
    ∙ ap (λ (z : ℤ). base +ℤ z) (sym (checked-fits (s *ℤ u.0) t.0 u.2) ∙ ap (λ (z : ℤ). s *ℤ z) (sym (checked-fits (pos c) u.0 u.1)))

pub strided-offset-is : (base : ℤ) (ss : List ℤ) (cs : List ℕ) (r : ℤ) → strided_offset base ss cs ≡ Some r → r ≡ base +ℤ dot ss cs
unfolding strided_offset dot
strided-offset-is base [] cs r e = let x : base ≡ r = cc in sym x ∙ sym (+ℤ_idr base)
strided-offset-is base (s ∷ ss) [] r e = let x : base ≡ r = cc in sym x ∙ sym (+ℤ_idr base)
strided-offset-is base (s ∷ ss) (c ∷ cs) r e =
    let t = then-inv (offset_add base s c) (λ o. strided_offset o ss cs) r e in
    strided-offset-is t.0 ss cs r t.2
    ∙ ap (λ (z : ℤ). z +ℤ dot ss cs) (offset-add-is base s c t.0 t.1)
    ∙ +ℤ_assoc base (s *ℤ pos c) (dot ss cs)

-- ---- whether there are cells
pub no_cells : (ds : List ℕ) → has_zero ds ≡ true → product ds ≡ 0
unfolding has_zero product
no_cells [] h = absurd (true≢false (sym h))
no_cells (d ∷ ds) h = go (eqb d 0) refl h (no_cells ds)
  where
    go : (t : Bool) → eqb d 0 ≡ t → (t || has_zero ds) ≡ true → (has_zero ds ≡ true → product ds ≡ 0) → d * product ds ≡ 0
    go true e q f = ap (λ (k : ℕ). k * product ds) (eqb-true d 0 e) ∙ zero-mul (product ds)
    go false e q f = ap (λ (k : ℕ). d * k) (f q) ∙ mul-zero d

pub some-cells : (ds : List ℕ) → has_zero ds ≡ false → AllPos ds
unfolding has_zero AllPos
some-cells [] h = tt
some-cells (d ∷ ds) h = go (eqb d 0) refl h (some-cells ds)
  where
    go : (t : Bool) → eqb d 0 ≡ t → (t || has_zero ds) ≡ false → (has_zero ds ≡ false → AllPos ds) → (0 < d) × AllPos ds
    go true e q f = absurd (true≢false q)
    go false e q f = (omega (arith, eqb-false d 0 e), f q)
