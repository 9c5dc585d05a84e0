-- What the calls of `make_axis`, `merge` and `join` give, by the definitions, and back. Assumes nothing.
use Rattle.std.specs.Prelude.{Option, Some, None, option_and_then}
use mathlib.Core.Path.{◌≡◌, refl, sym, ap, ap₂, ◌∙◌}
use mathlib.Core.Bool.{Bool, true, false, cond, ◌&&◌}
use Prim.Native.Nat.{ℕ, ◌*◌, ◌≤◌, ◌^◌}
use native.Mathlib.Omega.{arith}
use borrow.Author.Tests.{lt-ltb, le-ltb}
use lib.Dec.{ltb}
use lib.IntN.{ℤ, pos, ◌*ℤ◌}
use Rattle.integer.specs.Defs.{checked, eq_z}
use Rattle.integer.specs.Machine.{checked-fits, same_bits}
use Rattle.integer.specs.Laws.{eq_z-true, eq_z-refl}
use mir.Syntax.{w64}
use mir.Val.{SFits, of_z}
use Rattle.layout.specs.Spans.{reset_of}
use Rattle.layout.specs.Laws.{then-inv, reset-is, reset-size}
use Rattle.replay.specs.declared.WindowReplayAxis.{WindowReplayAxis}
use Rattle.replay.specs.declared.JoinedAxis.TheVariants as J
use Rattle.replay.specs.Replays.{the_axis, axis_of, merges, joined, is_fits, axis_fits, past_fits}
use Rattle.replay.specs.Parts.{past, checked_axis, as_merged, as_apart, joined_axis}

-- ---- tests
not-both : (r : Bool) → r && false ≡ false
not-both true = refl
not-both false = refl

none : ◌≡◌ {A = ℕ} 0 1 → ⊥
none e = omega arith

-- ---- the test `==` of two steps
pub steps-same : (s a : ℤ) → SFits w64 s → SFits w64 a → of_z w64 s ≡ of_z w64 a → eq_z s a ≡ true
steps-same s a f g e = ap (eq_z s) (sym (same_bits f g e)) ∙ eq_z-refl s

pub steps-differ : (s a : ℤ) → (of_z w64 s ≡ of_z w64 a → ⊥) → eq_z s a ≡ false
steps-differ s a n = go (eq_z s a) refl
  where
    go : (t : Bool) → eq_z s a ≡ t → eq_z s a ≡ false
    go true e = absurd (n (ap (of_z w64) (eq_z-true s a e)))
    go false e = e

-- ---- an axis by its resets
module _ (d : ℕ) (s t : ℤ) where
  -- an axis whose resets fit has an extent of at most 2^63
  small : (a : ℤ) → reset_of d s ≡ Some a → ltb d (2 ^ 64) ≡ true
  small a e = lt-ltb d (2 ^ 64) (omega (arith, (reset-size d s a e).0.sfits))

  pub axis-fits : (a b : ℤ) → reset_of d s ≡ Some a → reset_of d t ≡ Some b → Some (the_axis d s a t b) ≡ checked_axis (axis_of d s t)
  axis-fits a b ea eb =
      (λ ι. Some (the_axis d s (reset-is d s a ea ι) t (reset-is d t b eb ι)))
      ∙ (λ ι. cond (sym (small a ea) ι && (is_fits (sym ea ι) && is_fits (sym eb ι))) (Some (axis_of d s t)) None)

  pub axis-over : reset_of d s ≡ None → None ≡ checked_axis (axis_of d s t)
  axis-over e = ap (λ (r : Bool). cond r (Some (axis_of d s t)) None) (sym (not-both (ltb d (2 ^ 64))) ∙ ap (λ (x : Option ℤ). ltb d (2 ^ 64) && (is_fits x && is_fits (reset_of d t))) (sym e))

  pub axis-over2 : reset_of d t ≡ None → None ≡ checked_axis (axis_of d s t)
  axis-over2 e =
      ap (λ (r : Bool). cond r (Some (axis_of d s t)) None)
      (sym (not-both (ltb d (2 ^ 64))) ∙ ap (λ (r : Bool). ltb d (2 ^ 64) && r) (sym (not-both (is_fits (reset_of d s))) ∙ ap (λ (x : Option ℤ). is_fits (reset_of d s) && is_fits x) (sym e)))

  -- an extent that does not fit u64
  pub axis-large : 2 ^ 64 ≤ d → None ≡ checked_axis (axis_of d s t)
  axis-large h = ap (λ (r : Bool). cond (r && (is_fits (reset_of d s) && is_fits (reset_of d t))) (Some (axis_of d s t)) None) (sym (le-ltb d (2 ^ 64) h))

-- and back
pub axis-is : (a q : WindowReplayAxis) → checked_axis a ≡ Some q → (axis_fits a ≡ true) × (a ≡ q)
axis-is a q e = go (axis_fits a) refl e
  where
    go : (r : Bool) → axis_fits a ≡ r → cond r (Some a) None ≡ Some q → (axis_fits a ≡ true) × (a ≡ q)
    go true f h = (f, cc)
    go false f h = let z : ◌≡◌ {A = ℕ} 0 1 = cc in absurd (none z)

pub axis-not : (a : WindowReplayAxis) → checked_axis a ≡ None → axis_fits a ≡ false
axis-not a e = go (axis_fits a) refl e
  where
    go : (r : Bool) → axis_fits a ≡ r → cond r (Some a) None ≡ None → axis_fits a ≡ false
    go true f h = let z : ◌≡◌ {A = ℕ} 0 1 = cc in absurd (none z)
    go false f h = f

-- ---- an axis after another
past_is : (e : ℕ) (s r : ℤ) → past e s ≡ Some r → r ≡ s *ℤ pos e
unfolding past
past_is e s r h =
    let t = then-inv (checked (pos e)) (λ m. checked (s *ℤ m)) r h in
    sym (checked-fits (s *ℤ t.0) r t.2) ∙ ap (λ (z : ℤ). s *ℤ z) (sym (checked-fits (pos e) t.0 t.1))

past-fits : (e : ℕ) (s : ℤ) → is_fits (past e s) ≡ is_fits (checked (pos e)) && is_fits (checked (s *ℤ pos e))
unfolding past
past-fits e s = go (checked (pos e)) refl
  where
    go : (x : Option ℤ) → checked (pos e) ≡ x → is_fits (option_and_then (λ m. checked (s *ℤ m)) x) ≡ is_fits x && is_fits (checked (s *ℤ pos e))
    go (Some m) f = ap (λ (z : ℤ). is_fits (checked (s *ℤ z))) (sym (checked-fits (pos e) m f))
    go None f = refl

both-past : (p : WindowReplayAxis) → is_fits (past p.extent p.source_step) && is_fits (past p.extent p.dest_step) ≡ past_fits p
both-past p =
    ap₂ ◌&&◌ (past-fits p.extent p.source_step) (past-fits p.extent p.dest_step)
    ∙ once (is_fits (checked (pos p.extent))) (is_fits (checked (p.source_step *ℤ pos p.extent))) (is_fits (checked (p.dest_step *ℤ pos p.extent)))
  where
    once : (r t u : Bool) → (r && t) && (r && u) ≡ r && (t && u)
    once true t u = refl
    once false t u = refl

module _ (p : WindowReplayAxis) (d : ℕ) (s t : ℤ) (x y : Option ℤ) (ex : x ≡ past p.extent p.source_step) (ey : y ≡ past p.extent p.dest_step) where
  abbrev next : WindowReplayAxis
  next = axis_of d s t

  abbrev both : WindowReplayAxis
  both = axis_of (p.extent * d) p.source_step p.dest_step

  -- by whether both fit
  fitting : (r : Bool) → r ≡ past_fits p → cond r (cond (merges p next) (as_merged (checked_axis (joined p next))) (as_apart (checked_axis (joined p next)))) None ≡ joined_axis p next
  unfolding joined_axis
  fitting r e = ap (λ (t : Bool). cond t (cond (merges p next) (as_merged (checked_axis (joined p next))) (as_apart (checked_axis (joined p next)))) None) e

  pub join-over : x ≡ None → None ≡ joined_axis p next
  join-over o = fitting false (ap (λ (z : Option ℤ). is_fits z && is_fits (past p.extent p.dest_step)) (sym o ∙ ex) ∙ both-past p)

  pub join-over2 : y ≡ None → None ≡ joined_axis p next
  join-over2 o = fitting false (sym (not-both (is_fits (past p.extent p.source_step))) ∙ ap (λ (z : Option ℤ). is_fits (past p.extent p.source_step) && is_fits z) (sym o ∙ ey) ∙ both-past p)

  module _ (a b : ℤ) (ox : x ≡ Some a) (oy : y ≡ Some b) where
    -- where both fit, they are the steps times the extent, and the two merge or not
    chosen : (r : Bool) → eq_z s a && eq_z t b ≡ r → cond r (as_merged (checked_axis both)) (as_apart (checked_axis next)) ≡ joined_axis p next
    chosen r e =
        let m : r ≡ merges p next = sym e ∙ ap₂ (λ (u v : ℤ). eq_z s u && eq_z t v) (past_is p.extent p.source_step a (sym ex ∙ ox)) (past_is p.extent p.dest_step b (sym ey ∙ oy)) in
        same r ∙ ap (λ (q : Bool). cond q (as_merged (checked_axis (cond q both next))) (as_apart (checked_axis (cond q both next)))) m
        ∙ fitting true (ap₂ (λ (u v : Option ℤ). is_fits u && is_fits v) (sym ox ∙ ex) (sym oy ∙ ey) ∙ both-past p)
      where
        same : (q : Bool) → cond q (as_merged (checked_axis both)) (as_apart (checked_axis next)) ≡ cond q (as_merged (checked_axis (cond q both next))) (as_apart (checked_axis (cond q both next)))
        same true = refl
        same false = refl

    pub join-merge : eq_z s a ≡ true → eq_z t b ≡ true → as_merged (checked_axis both) ≡ joined_axis p next
    join-merge h k = chosen true (ap₂ ◌&&◌ h k)

    pub join_apart : eq_z s a ≡ false → as_apart (checked_axis next) ≡ joined_axis p next
    join_apart h = chosen false (ap (λ (r : Bool). r && eq_z t b) h)

    pub join-apart2 : eq_z s a ≡ true → eq_z t b ≡ false → as_apart (checked_axis next) ≡ joined_axis p next
    join-apart2 h k = chosen false (ap₂ ◌&&◌ h k)

-- and back: all fits, and q is the merged axis at a
pub record Joined (p a q : WindowReplayAxis) (merge : Bool) : Type 0 where
  pub past-fits : past_fits p ≡ true
  pub merge-is : merges p a ≡ merge
  pub fits : axis_fits (joined p a) ≡ true
  pub is : joined p a ≡ q

module _ (p a : WindowReplayAxis) where
  pub joined-merged : (q : WindowReplayAxis) → joined_axis p a ≡ Some (J.Merged q) → Joined p a q true
  unfolding joined_axis
  joined-merged q e = go (past_fits p) (merges p a) (checked_axis (joined p a)) refl refl refl e
    where
      go : (x y : Bool) (z : Option WindowReplayAxis) → past_fits p ≡ x → merges p a ≡ y → checked_axis (joined p a) ≡ z → cond x (cond y (as_merged z) (as_apart z)) None ≡ Some (J.Merged q) → Joined p a q true
      go true true (Some r) ex ey ez h =
          let k = axis-is (joined p a) r ez in
          let w : r ≡ q = cc in
          record { past-fits = ex; merge-is = ey; fits = k.0; is = k.1 ∙ w }
      go true true None ex ey ez h = let n : ◌≡◌ {A = ℕ} 0 1 = cc in absurd (none n)
      go true false (Some r) ex ey ez h = let n : ◌≡◌ {A = ℕ} 0 1 = cc in absurd (none n)
      go true false None ex ey ez h = let n : ◌≡◌ {A = ℕ} 0 1 = cc in absurd (none n)
      go false y z ex ey ez h = let n : ◌≡◌ {A = ℕ} 0 1 = cc in absurd (none n)

  pub joined-apart : (q : WindowReplayAxis) → joined_axis p a ≡ Some (J.Apart q) → Joined p a q false
  unfolding joined_axis
  joined-apart q e = go (past_fits p) (merges p a) (checked_axis (joined p a)) refl refl refl e
    where
      go : (x y : Bool) (z : Option WindowReplayAxis) → past_fits p ≡ x → merges p a ≡ y → checked_axis (joined p a) ≡ z → cond x (cond y (as_merged z) (as_apart z)) None ≡ Some (J.Apart q) → Joined p a q false
      go true false (Some r) ex ey ez h =
          let k = axis-is (joined p a) r ez in
          let w : r ≡ q = cc in
          record { past-fits = ex; merge-is = ey; fits = k.0; is = k.1 ∙ w }
      go true false None ex ey ez h = let n : ◌≡◌ {A = ℕ} 0 1 = cc in absurd (none n)
      go true true (Some r) ex ey ez h = let n : ◌≡◌ {A = ℕ} 0 1 = cc in absurd (none n)
      go true true None ex ey ez h = let n : ◌≡◌ {A = ℕ} 0 1 = cc in absurd (none n)
      go false y z ex ey ez h = let n : ◌≡◌ {A = ℕ} 0 1 = cc in absurd (none n)

  -- what does not fit, whatever follows
  pub joined-over : (u : Bool) → joined_axis p a ≡ None → past_fits p && (axis_fits (joined p a) && u) ≡ false
  unfolding joined_axis
  joined-over u e = go (past_fits p) (merges p a) (checked_axis (joined p a)) refl refl e
    where
      go : (x y : Bool) (z : Option WindowReplayAxis) → past_fits p ≡ x → checked_axis (joined p a) ≡ z → cond x (cond y (as_merged z) (as_apart z)) None ≡ None → past_fits p && (axis_fits (joined p a) && u) ≡ false
      go true y None ex ez h = ap₂ (λ (r q : Bool). r && (q && u)) ex (axis-not (joined p a) ez)
      go true true (Some r) ex ez h = let n : ◌≡◌ {A = ℕ} 0 1 = cc in absurd (none n)
      go true false (Some r) ex ez h = let n : ◌≡◌ {A = ℕ} 0 1 = cc in absurd (none n)
      go false y z ex ez h = ap (λ (r : Bool). r && (axis_fits (joined p a) && u)) ex
