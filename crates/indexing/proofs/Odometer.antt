-- The odometer, first axis fastest: the coordinate after a linear index, and the step of its offset as sums of strides and resets. Assumes nothing.
use Rattle.std.specs.Prelude.{◌≡◌, refl, Bool, true, false, cond, List, [], ◌∷◌, ◌++◌, ℕ, zero, suc, ◌+◌, ◌*◌, ◌-◌, ◌/◌, ◌%◌, ◌<◌, ◌≤◌, ltb, length, get_or, set, replicate, ℤ, pos, neg_ℤ, ◌+ℤ◌, ◌*ℤ◌}
use Rattle.std.proofs.Common.{sym, ◌∙◌, ap, div-add-mod', mod-lt, mod-eq_of_lt, add-zero, arith, ltb-true, ltb-false}
use Rattle.std.proofs.Math.Nat.{div-eq_of_lt, div_self, mod_self, mul-add-div_right, mul-add-mod_self_right, zero-mod, zero-div}
use Rattle.std.proofs.Math.IntN.{+ℤ_idl, +ℤ_idr, +ℤ_assoc, +ℤ_comm, -ℤ-+ℤ_cancel, +ℤ-neg_ℤ_cancel, *ℤ-zero}
use Rattle.integer.specs.Z.{*ℤ-+ℤ}
use Rattle.integer.specs.Laws.{+ℤ-ac, times-one, +ℤ-cancel-r}
use Rattle.indexing.specs.Coordinates.{unravel, dot, Within}
use Rattle.indexing.specs.Odometer.{AllPos, next, offset_at, advance}

-- ---- the successor

div-step-in : (k d : ℕ) → k % d + 1 < d → (k + 1) / d ≡ k / d
div-step-in k d h =
    ap (λ (n : ℕ). n / d) e ∙ mul-add-div_right {m = d} (omega arith) (k / d) (k % d + 1)
    ∙ ap (λ (n : ℕ). k / d + n) (div-eq_of_lt h) ∙ add-zero (k / d)
  where
    e : k + 1 ≡ k / d * d + (k % d + 1)
    e = omega (arith, div-add-mod' k d)

mod-step-in : (k d : ℕ) → k % d + 1 < d → (k + 1) % d ≡ k % d + 1
mod-step-in k d h =
    ap (λ (n : ℕ). n % d) e ∙ mul-add-mod_self_right (k / d) d (k % d + 1) ∙ mod-eq_of_lt h
  where
    e : k + 1 ≡ k / d * d + (k % d + 1)
    e = omega (arith, div-add-mod' k d)

last_of : (k d : ℕ) → 0 < d → d ≤ k % d + 1 → k % d + 1 ≡ d
last_of k d p h = omega (arith, mod-lt k p)

div-step-out : (k d : ℕ) → 0 < d → d ≤ k % d + 1 → (k + 1) / d ≡ k / d + 1
div-step-out k d p h =
    ap (λ (n : ℕ). n / d) e ∙ mul-add-div_right {m = d} p (k / d) d ∙ ap (λ (n : ℕ). k / d + n) (div_self p)
  where
    e : k + 1 ≡ k / d * d + d
    e = omega (arith, div-add-mod' k d, last_of k d p h)

mod-step-out : (k d : ℕ) → 0 < d → d ≤ k % d + 1 → (k + 1) % d ≡ 0
mod-step-out k d p h =
    ap (λ (n : ℕ). n % d) e ∙ mul-add-mod_self_right (k / d) d d ∙ mod_self d
  where
    e : k + 1 ≡ k / d * d + d
    e = omega (arith, div-add-mod' k d, last_of k d p h)

-- at every k, also past the last index, where the odometer starts again
pub unravel-suc : (ds : List ℕ) → AllPos ds → (k : ℕ) → unravel ds (k + 1) ≡ next ds (unravel ds k)
unfolding AllPos unravel next
unravel-suc [] p k = refl
unravel-suc (d ∷ ds) p k = go (ltb (k % d + 1) d) refl (unravel-suc ds p.1 (k / d))
  where
    go : (t : Bool) → ltb (k % d + 1) d ≡ t → unravel ds (k / d + 1) ≡ next ds (unravel ds (k / d))
        → (k + 1) % d ∷ unravel ds ((k + 1) / d) ≡ cond (ltb (k % d + 1) d) ((k % d + 1) ∷ unravel ds (k / d)) (0 ∷ next ds (unravel ds (k / d)))
    go true e ih = rw (e, mod-step-in k d (ltb-true _ _ e), div-step-in k d (ltb-true _ _ e))
    go false e ih = rw (e, mod-step-out k d p.0 (ltb-false _ _ e), div-step-out k d p.0 (ltb-false _ _ e), ih)

-- and so is the coordinate inside the extents at every k
pub walk-within : (ds : List ℕ) → AllPos ds → (k : ℕ) → Within ds (unravel ds k)
unfolding AllPos unravel Within
walk-within [] p k = tt
walk-within (d ∷ ds) p k = (mod-lt k p.0, walk-within ds p.1 (k / d))

pub unravel-zero : (ds : List ℕ) → unravel ds 0 ≡ replicate (length ds) 0
unfolding unravel
unravel-zero [] = refl
unravel-zero (d ∷ ds) = rw (zero-mod, zero-div) (ap (λ (l : List ℕ). 0 ∷ l) (unravel-zero ds))

-- the step goes on past the axes as it stands
pub next-append : (ds cs ts : List ℕ) → length cs ≡ length ds → next ds (cs ++ ts) ≡ next ds cs ++ ts
unfolding next
next-append [] [] ts e = refl
next-append [] (c ∷ cs) ts e = absurd (omega arith)
next-append (d ∷ ds) [] ts e = absurd (omega arith)
next-append (d ∷ ds) (c ∷ cs) ts e = go (ltb (c + 1) d) (next-append ds cs ts (omega arith))
  where
    go : (t : Bool) → next ds (cs ++ ts) ≡ next ds cs ++ ts
        → cond t ((c + 1) ∷ (cs ++ ts)) (0 ∷ next ds (cs ++ ts)) ≡ cond t ((c + 1) ∷ cs) (0 ∷ next ds cs) ++ ts
    go true ih = refl
    go false ih = ap (λ (l : List ℕ). 0 ∷ l) ih

-- ---- the offset's step

-- what one coordinate adds
pub dot-set : (ss : List ℤ) (cs : List ℕ) (i v : ℕ) → i < length ss → i < length cs
    → dot ss (set cs i v) +ℤ get_or ss i (pos 0) *ℤ pos (get_or cs i 0) ≡ dot ss cs +ℤ get_or ss i (pos 0) *ℤ pos v
unfolding dot
dot-set [] cs i v h g = absurd (omega arith)
dot-set (s ∷ ss) [] i v h g = absurd (omega arith)
dot-set (s ∷ ss) (c ∷ cs) zero v h g = swap (s *ℤ pos v) (dot ss cs) (s *ℤ pos c)
  where
    swap : (a b c : ℤ) → a +ℤ b +ℤ c ≡ c +ℤ b +ℤ a
    swap a b c = simp +ℤ-ac
dot-set (s ∷ ss) (c ∷ cs) (suc i) v h g =
    +ℤ_assoc (s *ℤ pos c) (dot ss (set cs i v)) (get_or ss i (pos 0) *ℤ pos (get_or cs i 0))
    ∙ ap (λ (x : ℤ). s *ℤ pos c +ℤ x) (dot-set ss cs i v (omega arith) (omega arith))
    ∙ sym (+ℤ_assoc (s *ℤ pos c) (dot ss cs) (get_or ss i (pos 0) *ℤ pos v))

-- the axis moves on: the offset moves by its stride
pub dot-on : (base : ℤ) (ss : List ℤ) (cs : List ℕ) (i : ℕ) → i < length ss → i < length cs
    → base +ℤ dot ss cs +ℤ get_or ss i (pos 0) ≡ base +ℤ dot ss (set cs i (get_or cs i 0 + 1))
dot-on base ss cs i h g =
    let s : ℤ = get_or ss i (pos 0) in
    let c : ℕ = get_or cs i 0 in
    +ℤ_assoc base (dot ss cs) s
    ∙ ap (λ (x : ℤ). base +ℤ x)
    (+ℤ-cancel-r (dot ss cs +ℤ s) (dot ss (set cs i (c + 1))) (s *ℤ pos c)
    (+ℤ_assoc (dot ss cs) s (s *ℤ pos c)
    ∙ ap (λ (x : ℤ). dot ss cs +ℤ x) (more s c)
    ∙ sym (dot-set ss cs i (c + 1) h g)))
  where
    more : (s : ℤ) (c : ℕ) → s +ℤ s *ℤ pos c ≡ s *ℤ pos (c + 1)
    more s c =
        +ℤ_comm s (s *ℤ pos c) ∙ ap (λ (x : ℤ). s *ℤ pos c +ℤ x) (sym (times-one s)) ∙ sym (*ℤ-+ℤ s (pos c) (pos 1))

-- the axis wraps from its last place: the offset moves back by the stride times that place
pub dot-wrap : (base : ℤ) (ss : List ℤ) (cs : List ℕ) (i d : ℕ) → i < length ss → i < length cs → get_or cs i 0 + 1 ≡ d
    → base +ℤ dot ss cs +ℤ neg_ℤ (get_or ss i (pos 0) *ℤ pos (d - 1)) ≡ base +ℤ dot ss (set cs i 0)
dot-wrap base ss cs i d h g e =
    let s : ℤ = get_or ss i (pos 0) in
    let c : ℕ = get_or cs i 0 in
    let f : d - 1 ≡ c = omega arith in
    ap (λ (n : ℕ). base +ℤ dot ss cs +ℤ neg_ℤ (s *ℤ pos n)) f
    ∙ +ℤ_assoc base (dot ss cs) (neg_ℤ (s *ℤ pos c))
    ∙ ap (λ (x : ℤ). base +ℤ x)
    (+ℤ-cancel-r (dot ss cs +ℤ neg_ℤ (s *ℤ pos c)) (dot ss (set cs i 0)) (s *ℤ pos c)
    (-ℤ-+ℤ_cancel (dot ss cs) (s *ℤ pos c)
    ∙ sym (+ℤ_idr (dot ss cs))
    ∙ ap (λ (x : ℤ). dot ss cs +ℤ x) (sym (*ℤ-zero s))
    ∙ sym (dot-set ss cs i 0 h g)))

-- what stands past the axes adds nothing
pub dot-append : (ss : List ℤ) (cs ts : List ℕ) → length ss ≤ length cs → dot ss (cs ++ ts) ≡ dot ss cs
unfolding dot
dot-append [] cs ts h = refl
dot-append (s ∷ ss) [] ts h = absurd (omega arith)
dot-append (s ∷ ss) (c ∷ cs) ts h = ap (λ (x : ℤ). s *ℤ pos c +ℤ x) (dot-append ss cs ts (omega arith))

pub advance-next : (base : ℤ) (ds : List ℕ) (ss : List ℤ) (cs : List ℕ) (z : ℤ) → length ss ≡ length ds → Within ds cs → z ≡ base +ℤ dot ss cs → advance ds ss cs z ≡ base +ℤ dot ss (next ds cs)
unfolding advance next dot Within
advance-next base [] [] cs z l w e = e
advance-next base [] (s ∷ ss) cs z l w e = absurd (omega arith)
advance-next base (d ∷ ds) [] cs z l w e = absurd (omega arith)
advance-next base (d ∷ ds) (s ∷ ss) [] z l w e = absurd w
advance-next base (d ∷ ds) (s ∷ ss) (c ∷ cs) z l w e =
    go (ltb (c + 1) d) refl (λ f. advance-next base ds ss cs (z +ℤ neg_ℤ (s *ℤ pos (d - 1))) (omega arith) w.1 (back (s *ℤ pos (d - 1)) (dot ss cs) (e ∙ f)))
  where
    on : (a b c d : ℤ) → a +ℤ (b +ℤ c) +ℤ d ≡ a +ℤ (b +ℤ d +ℤ c)
    on a b c d = simp +ℤ-ac

    back : (p q : ℤ) → z ≡ base +ℤ (p +ℤ q) → z +ℤ neg_ℤ p ≡ base +ℤ q
    back p q f = ap (λ (x : ℤ). x +ℤ neg_ℤ p) (f ∙ turn base p q) ∙ +ℤ-neg_ℤ_cancel (base +ℤ q) p
      where
        turn : (a b c : ℤ) → a +ℤ (b +ℤ c) ≡ a +ℤ c +ℤ b
        turn a b c = simp +ℤ-ac

    go : (t : Bool) → ltb (c + 1) d ≡ t → (base +ℤ (s *ℤ pos c +ℤ dot ss cs) ≡ base +ℤ (s *ℤ pos (d - 1) +ℤ dot ss cs) → advance ds ss cs (z +ℤ neg_ℤ (s *ℤ pos (d - 1))) ≡ base +ℤ dot ss (next ds cs))
        → cond (ltb (c + 1) d) (z +ℤ s) (advance ds ss cs (z +ℤ neg_ℤ (s *ℤ pos (d - 1)))) ≡ base +ℤ dot (s ∷ ss) (cond (ltb (c + 1) d) ((c + 1) ∷ cs) (0 ∷ next ds cs))
    go true t ih =
        rw t (ap (λ (x : ℤ). x +ℤ s) e ∙ on base (s *ℤ pos c) (dot ss cs) s ∙ ap (λ (x : ℤ). base +ℤ (s *ℤ pos c +ℤ x +ℤ dot ss cs)) (sym (times-one s)) ∙ ap (λ (x : ℤ). base +ℤ (x +ℤ dot ss cs)) (sym (*ℤ-+ℤ s (pos c) (pos 1))))
    go false t ih =
        rw t
        (ih (ap (λ (n : ℕ). base +ℤ (s *ℤ pos n +ℤ dot ss cs)) (omega (arith, ltb-false (c + 1) d t, w.0)))
        ∙ ap (λ (x : ℤ). base +ℤ x) (sym (+ℤ_idl (dot ss (next ds cs))) ∙ ap (λ (x : ℤ). x +ℤ dot ss (next ds cs)) (sym (*ℤ-zero s))))

pub advance-offset : (base : ℤ) (ds : List ℕ) (ss : List ℤ) (k : ℕ) → AllPos ds → length ss ≡ length ds → advance ds ss (unravel ds k) (offset_at base ds ss k) ≡ offset_at base ds ss (k + 1)
unfolding offset_at
advance-offset base ds ss k p l =
    advance-next base ds ss (unravel ds k) (base +ℤ dot ss (unravel ds k)) l (walk-within ds p k) refl
    ∙ ap (λ (cs : List ℕ). base +ℤ dot ss cs) (sym (unravel-suc ds p k))
