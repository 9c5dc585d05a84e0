-- The offsets of a gather's components fit wherever the index view's span does: compile need not ask. Assumes nothing.
use Rattle.std.specs.Prelude.{Option, Some, option_and_then}
use mathlib.Core.Path.{◌≡◌, refl, sym, ap, subst, ◌∙◌}
use mathlib.Core.Bool.{Bool, true, false, cond}
use mathlib.Core.List.{List}
use Prim.Native.Nat.{ℕ, ◌-◌, ◌<◌, ◌≤◌}
use native.Mathlib.Omega.{arith}
use borrow.Author.Tests.{eqb-true, eqb-false}
use lib.Dec.{eqb}
use lib.ListN.{length, get_or, get_or-eq_default}
use lib.IntN.{ℤ, pos, ◌+ℤ◌, ◌*ℤ◌, +ℤ_idl}
use mir.Syntax.{w64}
use mir.Val.{SFits}
use mir.Facts.{sfits_lit}
use Rattle.integer.specs.Defs.{checked}
use Rattle.integer.specs.Machine.{checked-yes, checked-fits, checked-sfits}
use Rattle.integer.specs.Laws.{term_fits}
use Rattle.layout.specs.Answers.{is_done}
use Rattle.layout.specs.Spans.{spanned, reach_of, offset_add}
use Rattle.layout.specs.Laws.{then-inv}
use Rattle.checks.specs.Checks.{span_fits, number_fits, offset_fits, components_of}
use Rattle.checks.proofs.Small.{spans-reach}

offset-yes : (s : ℤ) (c : ℕ) → SFits w64 (pos c) → SFits w64 (s *ℤ pos c) → is_done (offset_fits s c) ≡ true
unfolding offset_add
offset-yes s c f g =
    ap (λ (x : Option ℤ). is_done (number_fits (option_and_then (λ e. checked (pos 0 +ℤ e)) (option_and_then (λ m. checked (s *ℤ m)) x)))) (sym (checked-yes (pos c) f))
    ∙ ap (λ (x : Option ℤ). is_done (number_fits (option_and_then (λ e. checked (pos 0 +ℤ e)) x))) (sym (checked-yes (s *ℤ pos c) g))
    ∙ ap (λ (z : ℤ). is_done (number_fits (checked z))) (+ℤ_idl (s *ℤ pos c))
    ∙ ap (λ (x : Option ℤ). is_done (number_fits x)) (sym (checked-yes (s *ℤ pos c) g))

-- on an axis whose reach fits, each coordinate's offset does
reach-offset : (d : ℕ) (s m : ℤ) (c : ℕ) → c < d → reach_of d s ≡ Some m → is_done (offset_fits s c) ≡ true
unfolding reach_of
reach-offset d s m c h e =
    let t = then-inv (checked (pos (d - 1))) (λ z. checked (s *ℤ z)) m e in
    let f : SFits w64 (pos (d - 1)) = checked-sfits (pos (d - 1)) t.0 t.1 in
    let g : SFits w64 (s *ℤ pos (d - 1)) = subst (λ (z : ℤ). SFits w64 (s *ℤ z)) (sym (checked-fits (pos (d - 1)) t.0 t.1)) (checked-sfits (s *ℤ t.0) m t.2) in
    offset-yes s c (record { sfits = omega (arith, f.sfits) }) (term_fits s c d h g)

-- THE COMPONENT OFFSETS, the vector axis's stride times c: none is refused, given the span of the index view and the component count
pub component-offsets : (ie : List ℕ) (is : List ℤ) (v : ℕ) → length is ≡ length ie → is_done (span_fits (spanned ie is)) ≡ true → v ≤ length ie
    → (c : ℕ) → c < components_of ie v → is_done (offset_fits (get_or is v (pos 0)) c) ≡ true
component-offsets ie is v k e h c n = go (eqb v (length ie)) refl n
  where
    go : (t : Bool) → eqb v (length ie) ≡ t → c < cond t 1 (get_or ie v 0) → is_done (offset_fits (get_or is v (pos 0)) c) ≡ true
    go true f l =
        let q : v ≡ length ie = eqb-true v (length ie) f in
        let z : c ≡ 0 = omega arith in
        let s : get_or is v (pos 0) ≡ pos 0 = get_or-eq_default is (pos 0) {n = v} (omega arith) in
        ap (λ (x : ℤ). is_done (offset_fits x c)) s ∙ ap (λ (m : ℕ). is_done (offset_fits (pos 0) m)) z ∙ offset-yes (pos 0) 0 (sfits_lit {z = pos 0} tt) (sfits_lit {z = pos 0} tt)
    go false f l =
        let q = eqb-false v (length ie) f in
        let r = spans-reach ie is k e v (omega (arith, q)) in
        reach-offset (get_or ie v 0) (get_or is v (pos 0)) r.0 c l r.1
