-- A nested layout gives no two coordinates the same offset. Assumes nothing.
use Rattle.std.specs.Prelude.{◌≡◌, refl, ◌⊎◌, Bool, true, false, cond, ◌||◌, List, [], ◌∷◌, ℕ, zero, suc, ◌+◌, ◌*◌, ◌-◌, ◌<◌, ◌≤◌, eqb, leb, ltb, length, ℤ, pos, negsuc, neg_ℤ, nat_abs, ◌+ℤ◌, ◌-ℤ◌, ◌*ℤ◌}
use Rattle.std.proofs.Common.{sym, ap, ap₂, ◌∙◌, inl, inr, ⊎_elim, mul-le-mul_left, mul-one, arith, ltb-true, eqb-true}
use Rattle.std.proofs.Math.IntN.{+ℤ_idl, +ℤ_idr, *ℤ-zero}
use Rattle.integer.specs.Machine.{abs-mul, abs-sum}
use Rattle.integer.specs.Tests.{and-true}
use Rattle.integer.specs.Z.{up_neg, dn-neg, znorm, zflat, zring, abs_is, only, add_is}
use Rattle.integer.specs.Laws.{+ℤ-ac, +ℤ-left-comm, +ℤ-cancel-r}
use Rattle.indexing.specs.Coordinates.{dot, Within}
use Rattle.layout.specs.Nested.{has_zero, long_axes, insert, ordered, exceeds, nested}

-- ---- magnitudes
abs-zero : (z : ℤ) → nat_abs z ≡ 0 → z ≡ pos 0
abs-zero (pos n) e = ap pos e
abs-zero (negsuc n) e = absurd (omega arith)

-- ---- axes of more than one coordinate, each with what two coordinates differ by along it
abbrev Axis : Type 0
Axis = ℕ × ℕ

abbrev Item : Type 0
Item = Axis × ℤ

-- at most the axis's reach, and at least the stride's magnitude if it is not 0
abbrev Fair : Item → Type 0
Fair q = (nat_abs q.1 ≤ q.0.0 * (q.0.1 - 1)) × ((q.1 ≡ pos 0) ⊎ (q.0.0 ≤ nat_abs q.1))

-- no difference, and a stride that is not 0
abbrev Same : Item → Type 0
Same q = (q.1 ≡ pos 0) × (0 < q.0.0)

unfoldable Each : (Item → Type 0) → List Item → Type 0
Each P [] = Unit {0}
Each P (q ∷ qs) = P q × Each P qs

unfoldable total : List Item → ℤ
total [] = pos 0
total (q ∷ qs) = q.1 +ℤ total qs

unfoldable axes_of : List Item → List Axis
axes_of [] = []
axes_of (q ∷ qs) = q.0 ∷ axes_of qs

-- ---- ordered as `ordered` does
unfoldable put : Item → List Item → List Item
put q [] = q ∷ []
put q (r ∷ rs) = cond (leb q.0.0 r.0.0) (q ∷ r ∷ rs) (r ∷ put q rs)

unfoldable sorted : List Item → List Item
sorted [] = []
sorted (q ∷ qs) = put q (sorted qs)

axes-put : (q : Item) (rs : List Item) → axes_of (put q rs) ≡ insert q.0 (axes_of rs)
unfolding axes_of put insert
axes-put q [] = refl
axes-put q (r ∷ rs) = go (leb q.0.0 r.0.0) (axes-put q rs)
  where
    go : (t : Bool) → axes_of (put q rs) ≡ insert q.0 (axes_of rs) → axes_of (cond t (q ∷ r ∷ rs) (r ∷ put q rs)) ≡ cond t (q.0 ∷ r.0 ∷ axes_of rs) (r.0 ∷ insert q.0 (axes_of rs))
    go true ih = refl
    go false ih = ap (λ (l : List Axis). r.0 ∷ l) ih

axes-sorted : (qs : List Item) → axes_of (sorted qs) ≡ ordered (axes_of qs)
unfolding axes_of sorted ordered
axes-sorted [] = refl
axes-sorted (q ∷ qs) = axes-put q (sorted qs) ∙ ap (insert q.0) (axes-sorted qs)

total-put : (q : Item) (rs : List Item) → total (put q rs) ≡ q.1 +ℤ total rs
unfolding total put
total-put q [] = refl
total-put q (r ∷ rs) = go (leb q.0.0 r.0.0) (total-put q rs)
  where
    go : (t : Bool) → total (put q rs) ≡ q.1 +ℤ total rs → total (cond t (q ∷ r ∷ rs) (r ∷ put q rs)) ≡ q.1 +ℤ (r.1 +ℤ total rs)
    go true ih = refl
    go false ih = ap (λ (z : ℤ). r.1 +ℤ z) ih ∙ +ℤ-left-comm r.1 q.1 (total rs)

total-sorted : (qs : List Item) → total (sorted qs) ≡ total qs
unfolding total sorted
total-sorted [] = refl
total-sorted (q ∷ qs) = total-put q (sorted qs) ∙ ap (λ (z : ℤ). q.1 +ℤ z) (total-sorted qs)

each-put : (P : Item → Type 0) (q : Item) (rs : List Item) → P q → Each P rs → Each P (put q rs)
unfolding Each put
each-put P q [] p h = (p, tt)
each-put P q (r ∷ rs) p h = go (leb q.0.0 r.0.0) (each-put P q rs p h.1)
  where
    go : (t : Bool) → Each P (put q rs) → Each P (cond t (q ∷ r ∷ rs) (r ∷ put q rs))
    go true ih = (p, h)
    go false ih = (h.0, ih)

each_take : (P : Item → Type 0) (q : Item) (rs : List Item) → Each P (put q rs) → P q × Each P rs
unfolding Each put
each_take P q [] h = (h.0, tt)
each_take P q (r ∷ rs) h = go (leb q.0.0 r.0.0) h (each_take P q rs)
  where
    go : (t : Bool) → Each P (cond t (q ∷ r ∷ rs) (r ∷ put q rs)) → (Each P (put q rs) → P q × Each P rs) → P q × (P r × Each P rs)
    go true k f = k
    go false k f = let u = f k.1 in (u.0, (k.0, u.1))

each-sorted : (P : Item → Type 0) (qs : List Item) → Each P qs → Each P (sorted qs)
unfolding Each sorted
each-sorted P [] h = tt
each-sorted P (q ∷ qs) h = each-put P q (sorted qs) h.0 (each-sorted P qs h.1)

each-unsorted : (P : Item → Type 0) (qs : List Item) → Each P (sorted qs) → Each P qs
unfolding Each sorted
each-unsorted P [] h = tt
each-unsorted P (q ∷ qs) h = let u = each_take P q (sorted qs) h in (u.0, each-unsorted P qs u.1)

-- ---- where each magnitude exceeds what the axes before it reach, differences that add up to 0 are all 0
zero-parts : (p : ℕ) (z : ℤ) (qs : List Item) → nat_abs z ≤ p → exceeds p (axes_of qs) ≡ true → Each Fair qs → z +ℤ total qs ≡ pos 0 → (z ≡ pos 0) × Each Same qs
unfolding Each total axes_of exceeds
zero-parts p z [] h e f k = (sym (+ℤ_idr z) ∙ k, tt)
zero-parts p z (q ∷ qs) h e f k =
    let b = and-true (ltb p q.0.0) (exceeds (p + q.0.0 * (q.0.1 - 1)) (axes_of qs)) e in
    let m : p < q.0.0 = ltb-true p q.0.0 b.0 in
    let u = zero-parts (p + q.0.0 * (q.0.1 - 1)) (z +ℤ q.1) qs (omega (arith, abs-sum z q.1, f.0.0)) b.1 f.1 (regroup z q.1 (total qs) ∙ k) in
    let o : nat_abs z ≡ nat_abs q.1 = opposite z q.1 u.0 in
    let t : q.1 ≡ pos 0 = ⊎_elim (λ x. x) (λ x. absurd (omega (arith, o))) f.0.1 in
    (abs-zero z (o ∙ ap nat_abs t), ((t, omega arith), u.1))
  where
    regroup : (a b c : ℤ) → a +ℤ b +ℤ c ≡ a +ℤ (b +ℤ c)
    regroup a b c = simp +ℤ-ac

    opposite : (a b : ℤ) → a +ℤ b ≡ pos 0 → nat_abs a ≡ nat_abs b
    opposite a b e = omega (arith, abs_is a, abs_is b, only a, only b, simp zflat at (simp znorm at e))

-- ---- two coordinates of a layout
unfoldable items : List ℕ → List ℤ → List ℕ → List ℕ → List Item
items [] ss cs es = []
items (d ∷ ds) [] cs es = []
items (d ∷ ds) (s ∷ ss) [] es = []
items (d ∷ ds) (s ∷ ss) (c ∷ cs) [] = []
items (d ∷ ds) (s ∷ ss) (c ∷ cs) (e ∷ es) = cond (eqb d 1) (items ds ss cs es) (((nat_abs s, d), s *ℤ (pos c -ℤ pos e)) ∷ items ds ss cs es)

diff-most : (c e d : ℕ) → c < d → e < d → nat_abs (pos c -ℤ pos e) ≤ d - 1
diff-most c e d h k = omega (arith, abs_is (pos c -ℤ pos e), add_is (pos c) (neg_ℤ (pos e)), up_neg (pos e), dn-neg (pos e), only (pos c -ℤ pos e))

diff-none : (c e : ℕ) → nat_abs (pos c -ℤ pos e) ≡ 0 → c ≡ e
diff-none c e h = omega (arith, abs_is (pos c -ℤ pos e), add_is (pos c) (neg_ℤ (pos e)), up_neg (pos e), dn-neg (pos e))

fair : (s : ℤ) (c e d : ℕ) → c < d → e < d → Fair ((nat_abs s, d), s *ℤ (pos c -ℤ pos e))
fair s c e d h k = (rw (abs-mul s (pos c -ℤ pos e)) (mul-le-mul_left (nat_abs s) (diff-most c e d h k)), go (nat_abs (pos c -ℤ pos e)) refl)
  where
    go : (n : ℕ) → nat_abs (pos c -ℤ pos e) ≡ n → (s *ℤ (pos c -ℤ pos e) ≡ pos 0) ⊎ (nat_abs s ≤ nat_abs (s *ℤ (pos c -ℤ pos e)))
    go zero x = inl (ap (λ (z : ℤ). s *ℤ z) (abs-zero (pos c -ℤ pos e) x) ∙ *ℤ-zero s)
    go (suc n) x = inr (rw (abs-mul s (pos c -ℤ pos e), x) (omega (arith, mul-le-mul_left {m = 1} {n = suc n} (nat_abs s) (omega arith), mul-one (nat_abs s))))

items-axes : (ds : List ℕ) (ss : List ℤ) (cs es : List ℕ) → Within ds cs → Within ds es → axes_of (items ds ss cs es) ≡ long_axes ds ss
unfolding Within axes_of items long_axes
items-axes [] ss cs es w x = refl
items-axes (d ∷ ds) [] cs es w x = refl
items-axes (d ∷ ds) (s ∷ ss) [] es w x = absurd w
items-axes (d ∷ ds) (s ∷ ss) (c ∷ cs) [] w x = absurd x
items-axes (d ∷ ds) (s ∷ ss) (c ∷ cs) (e ∷ es) w x = go (eqb d 1) (items-axes ds ss cs es w.1 x.1)
  where
    go : (t : Bool) → axes_of (items ds ss cs es) ≡ long_axes ds ss → axes_of (cond t (items ds ss cs es) (((nat_abs s, d), s *ℤ (pos c -ℤ pos e)) ∷ items ds ss cs es)) ≡ cond t (long_axes ds ss) ((nat_abs s, d) ∷ long_axes ds ss)
    go true ih = ih
    go false ih = ap (λ (l : List Axis). (nat_abs s, d) ∷ l) ih

items-fair : (ds : List ℕ) (ss : List ℤ) (cs es : List ℕ) → Within ds cs → Within ds es → Each Fair (items ds ss cs es)
unfolding Within Each items
items-fair [] ss cs es w x = tt
items-fair (d ∷ ds) [] cs es w x = tt
items-fair (d ∷ ds) (s ∷ ss) [] es w x = absurd w
items-fair (d ∷ ds) (s ∷ ss) (c ∷ cs) [] w x = absurd x
items-fair (d ∷ ds) (s ∷ ss) (c ∷ cs) (e ∷ es) w x = go (eqb d 1) (items-fair ds ss cs es w.1 x.1)
  where
    go : (t : Bool) → Each Fair (items ds ss cs es) → Each Fair (cond t (items ds ss cs es) (((nat_abs s, d), s *ℤ (pos c -ℤ pos e)) ∷ items ds ss cs es))
    go true ih = ih
    go false ih = (fair s c e d w.0 x.0, ih)

-- the differences add up to the difference of the offsets
items-total : (ds : List ℕ) (ss : List ℤ) (cs es : List ℕ) → length ss ≡ length ds → Within ds cs → Within ds es → total (items ds ss cs es) +ℤ dot ss es ≡ dot ss cs
unfolding Within total items dot
items-total [] [] [] [] l w x = refl
items-total [] (s ∷ ss) cs es l w x = absurd (omega arith)
items-total [] [] (c ∷ cs) es l w x = absurd w
items-total [] [] [] (e ∷ es) l w x = absurd x
items-total (d ∷ ds) [] cs es l w x = absurd (omega arith)
items-total (d ∷ ds) (s ∷ ss) [] es l w x = absurd w
items-total (d ∷ ds) (s ∷ ss) (c ∷ cs) [] l w x = absurd x
items-total (d ∷ ds) (s ∷ ss) (c ∷ cs) (e ∷ es) l w x = go (eqb d 1) refl (items-total ds ss cs es (omega arith) w.1 x.1)
  where
    moved : (t u v a b : ℤ) → t +ℤ u ≡ v → s *ℤ (a -ℤ b) +ℤ t +ℤ (s *ℤ b +ℤ u) ≡ s *ℤ a +ℤ v
    moved t u v a b h = simp zring (simp zflat (omega (arith, simp zflat at (simp zring at h))))

    go : (t : Bool) → eqb d 1 ≡ t → total (items ds ss cs es) +ℤ dot ss es ≡ dot ss cs → total (cond t (items ds ss cs es) (((nat_abs s, d), s *ℤ (pos c -ℤ pos e)) ∷ items ds ss cs es)) +ℤ (s *ℤ pos e +ℤ dot ss es) ≡ s *ℤ pos c +ℤ dot ss cs
    go true f ih =
        let o : d ≡ 1 = eqb-true d 1 f in
        let a : c ≡ 0 = omega (arith, w.0) in
        let b : e ≡ 0 = omega (arith, x.0) in
        rw (a, b, *ℤ-zero s) (simp znorm (simp zflat (omega (arith, simp zflat at (simp znorm at ih)))))
    go false f ih = moved (total (items ds ss cs es)) (dot ss es) (dot ss cs) (pos c) (pos e) ih

-- along an axis of one coordinate there is nothing to differ by
items-same : (ds : List ℕ) (ss : List ℤ) (cs es : List ℕ) → length ss ≡ length ds → Within ds cs → Within ds es → Each Same (items ds ss cs es) → cs ≡ es
unfolding Within Each items
items-same [] ss [] [] l w x h = refl
items-same [] ss (c ∷ cs) es l w x h = absurd w
items-same [] ss [] (e ∷ es) l w x h = absurd x
items-same (d ∷ ds) [] cs es l w x h = absurd (omega arith)
items-same (d ∷ ds) (s ∷ ss) [] es l w x h = absurd w
items-same (d ∷ ds) (s ∷ ss) (c ∷ cs) [] l w x h = absurd x
items-same (d ∷ ds) (s ∷ ss) (c ∷ cs) (e ∷ es) l w x h = go (eqb d 1) refl h (items-same ds ss cs es (omega arith) w.1 x.1)
  where
    go : (t : Bool) → eqb d 1 ≡ t → Each Same (cond t (items ds ss cs es) (((nat_abs s, d), s *ℤ (pos c -ℤ pos e)) ∷ items ds ss cs es)) → (Each Same (items ds ss cs es) → cs ≡ es) → c ∷ cs ≡ e ∷ es
    go true f k ih = let o : d ≡ 1 = eqb-true d 1 f in ap₂ ◌∷◌ (omega (arith, w.0, x.0)) (ih k)
    go false f k ih = ap₂ ◌∷◌ (diff-none c e (one-zero (nat_abs s) (nat_abs (pos c -ℤ pos e)) k.0.1 (sym (abs-mul s (pos c -ℤ pos e)) ∙ ap nat_abs k.0.0))) (ih k.1)
      where
        one-zero : (a b : ℕ) → 0 < a → a * b ≡ 0 → b ≡ 0
        one-zero a zero p q = refl
        one-zero a (suc b) p q = absurd (omega (arith, mul-le-mul_left {m = 1} {n = suc b} a (omega arith), mul-one a))

no-coordinate : (ds cs : List ℕ) → has_zero ds ≡ true → Within ds cs → ⊥
unfolding has_zero Within
no-coordinate [] cs e w = let z : ◌≡◌ {A = ℕ} 0 1 = cc in omega arith
no-coordinate (d ∷ ds) [] e w = w
no-coordinate (d ∷ ds) (c ∷ cs) e w = go (eqb d 0) refl e (λ h. no-coordinate ds cs h w.1)
  where
    go : (t : Bool) → eqb d 0 ≡ t → (t || has_zero ds) ≡ true → (has_zero ds ≡ true → ⊥) → ⊥
    go true f h k = omega (arith, w.0, eqb-true d 0 f)
    go false f h k = k h

-- NO TWO COORDINATES of a nested layout have one offset
pub nested-distinct : (ds : List ℕ) (ss : List ℤ) (cs es : List ℕ) → length ss ≡ length ds → nested ds ss ≡ true → Within ds cs → Within ds es → dot ss cs ≡ dot ss es → cs ≡ es
unfolding nested
nested-distinct ds ss cs es l n w x q = go (has_zero ds) refl n
  where
    go : (t : Bool) → has_zero ds ≡ t → (t || exceeds 0 (ordered (long_axes ds ss))) ≡ true → cs ≡ es
    go true f h = absurd (no-coordinate ds cs f w)
    go false f h =
        let axes : axes_of (sorted (items ds ss cs es)) ≡ ordered (long_axes ds ss) = axes-sorted (items ds ss cs es) ∙ ap ordered (items-axes ds ss cs es w x) in
        let none : total (items ds ss cs es) ≡ pos 0 = +ℤ-cancel-r (total (items ds ss cs es)) (pos 0) (dot ss es) (items-total ds ss cs es l w x ∙ q ∙ sym (+ℤ_idl (dot ss es))) in
        items-same ds ss cs es l w x
        (each-unsorted Same (items ds ss cs es)
        (zero-parts 0 (pos 0) (sorted (items ds ss cs es)) (omega arith)
        (ap (exceeds 0) axes ∙ h)
        (each-sorted Fair (items ds ss cs es) (items-fair ds ss cs es w x))
        (+ℤ_idl (total (sorted (items ds ss cs es))) ∙ total-sorted (items ds ss cs es) ∙ none)).1)
