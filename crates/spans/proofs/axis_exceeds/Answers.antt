use Rattle.std.specs.Prelude.{◌≡◌, List, ℕ, ℤ, true, pos, nat_abs, get_or, ltb}
use Rattle.std.proofs.Common.{sym, ap, ap₂, ◌∙◌, arith, rules, SFits}
use Rattle.std.proofs.lemmas.Bool.{eq-eqb, ne_eqb, le-ltb}
use Rattle.std.specs.Int.{w64}
use Rattle.integer.specs.Z.{back}
use Rattle.integer.specs.Machine.{checked_u-fits, checked_u-over}
use Rattle.layout.specs.Sums.{others_weight, axis_exceeds}
use Rattle.spans.proofs.axis_exceeds.Goals as goal

-- of an axis with one coordinate the answer is true
one-coordinate : (e : List ℕ) (s : List ℤ) (a : ℕ) → get_or e a 0 ≡ 1 → true ≡ axis_exceeds a e s
unfolding axis_exceeds
one-coordinate e s a h = rw (eq-eqb _ _ h)

pub returns-then-extents-axis-eq1 : goal.returns-then-extents-axis-eq1
returns-then-extents-axis-eq1 c = one-coordinate _ _ _ (search rules)

pub returns-in-Some : goal.returns-in-Some
unfolding axis_exceeds
returns-in-Some c =
    let f : SFits w64 (get_or c.args.strides.now c.args.axis (pos 0)) = search rules in
    let m : c.unsigned_abs-magnitude.result ≡ nat_abs (get_or c.args.strides.now c.args.axis (pos 0)) = c.unsigned_abs-magnitude.ensures.value ∙ ap nat_abs (back f) in
    let many : get_or c.args.extents.now c.args.axis 0 ≡ 1 → ⊥ = search rules in
    rw (ne_eqb _ _ many)
    (ap₂ ltb (sym (checked_u-fits _ _ (sym c.others_weight.ensures ∙ c.in-Some.is)) ∙ ap (λ (k : ℕ). others_weight k c.args.axis c.args.extents.now c.args.strides.now) m) m)

pub returns-in-None : goal.returns-in-None
unfolding axis_exceeds
returns-in-None c =
    let k = c.unsigned_abs-magnitude.result in
    let f : SFits w64 (get_or c.args.strides.now c.args.axis (pos 0)) = search rules in
    let m : k ≡ nat_abs (get_or c.args.strides.now c.args.axis (pos 0)) = c.unsigned_abs-magnitude.ensures.value ∙ ap nat_abs (back f) in
    let o = others_weight k c.args.axis c.args.extents.now c.args.strides.now in
    let many : get_or c.args.extents.now c.args.axis 0 ≡ 1 → ⊥ = search rules in
    rw (ne_eqb _ _ many, ← m) (sym (le-ltb o k (omega (arith, c.unsigned_abs-magnitude.ensures.bound, checked_u-over o (sym c.others_weight.ensures ∙ c.in-None.is)))))
