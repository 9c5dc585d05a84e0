use Rattle.std.proofs.Common.{rules, ◌≡◌, ◌≢◌, refl, sym, ap, ap₂, ◌∙◌, true, false, true≢false, Bool, cond, ℕ, ◌-◌, min, ℤ, pos, nat_abs, ◌≤ℤ◌, FitsSigned, w64, arith}
use Rattle.std.specs.Int.{int_min, int_max}
use Rattle.std.specs.Int.Signed.{lt_z}
use Rattle.integer.specs.Z.{up, dn, only, back, zfacts, abs_is, ≡-from, lt_z-true, lt_z-false}
use Rattle.indexing.specs.Start.{clamp}
use Rattle.indexing.specs.Slid.{moved}
use Rattle.indexing.proofs.Inside.{clamp-is}
use Rattle.indexing.specs.Moved.{moved-by}
use Rattle.indexed_runs.proofs.Ones.{clamped-by}
use Rattle.indexed_runs.proofs.clamped.Goals as goal

-- the lesser of both, and that or 0
lesser : (x limit : ℤ) → pos 0 ≤ℤ limit → up (int_min x limit) ≡ min (up x) (up limit)
lesser x limit h = go (lt_z limit x) refl
  where
    go : (b : Bool) → lt_z limit x ≡ b → up (cond b limit x) ≡ min (up x) (up limit)
    go true e = omega (arith, zfacts, only x, only limit, h, lt_z-true limit x e)
    go false e = omega (arith, zfacts, only x, only limit, h, lt_z-false limit x e)

not-below : (m : ℤ) → int_max m (pos 0) ≡ pos (up m)
not-below m = go (lt_z (pos 0) m) refl
  where
    go : (b : Bool) → lt_z (pos 0) m ≡ b → cond b m (pos 0) ≡ pos (up m)
    go true e = ≡-from m (pos (up m)) (omega (arith, only m, lt_z-true (pos 0) m e))
    go false e = ≡-from (pos 0) (pos (up m)) (omega (arith, only m, lt_z-false (pos 0) m e))

-- where m is the lesser and r that or 0, as the machine has them
cut : (x limit m r : ℤ) → pos 0 ≤ℤ limit → m ≡ int_min x limit → r ≡ int_max m (pos 0) → r ≡ clamp x (nat_abs limit) 0
cut x limit m r h em er =
    let z : r ≡ pos (min (up x) (up limit)) = er ∙ not-below m ∙ ap pos (ap up em ∙ lesser x limit h) in
    clamped-by r x limit h (ap up z) (ap dn z)

-- whether x lies outside
outside : (x : ℤ) (limit : ℕ) → pos (min (up x) (limit - 0)) ≢ x → true ≡ moved x limit 0
outside x limit n = moved-by x limit 0 (pos (min (up x) (limit - 0))) true (sym (clamp-is x limit 0)) (λ _. n) (λ h. absurd (true≢false h))

inside : (x : ℤ) (limit : ℕ) → pos (min (up x) (limit - 0)) ≡ x → false ≡ moved x limit 0
inside x limit e = moved-by x limit 0 (pos (min (up x) (limit - 0))) false (sym (clamp-is x limit 0)) (λ h. absurd (true≢false (sym h))) (λ _. e)

above : (x limit : ℤ) → pos 0 ≤ℤ limit → lt_z limit x ≡ true → true ≡ moved x (nat_abs limit) 0
above x limit h e =
    outside x (nat_abs limit) (λ q. let u = ap up q in let d = ap dn q in omega (arith, zfacts, h, only x, only limit, abs_is limit, lt_z-true limit x e))

not-above : (x limit : ℤ) → pos 0 ≤ℤ limit → lt_z limit x ≡ false → lt_z x (pos 0) ≡ moved x (nat_abs limit) 0
not-above x limit h n = go (lt_z x (pos 0)) refl
  where
    go : (b : Bool) → lt_z x (pos 0) ≡ b → b ≡ moved x (nat_abs limit) 0
    go true e = outside x (nat_abs limit) (λ q. let u = ap up q in let d = ap dn q in omega (arith, only x, lt_z-true x (pos 0) e))
    go false e = inside x (nat_abs limit) (≡-from (pos (min (up x) (nat_abs limit - 0))) x (omega (arith, zfacts, h, only x, only limit, abs_is limit, lt_z-false limit x n, lt_z-false x (pos 0) e)))

pub returns-then-limit-x : goal.returns-then-limit-x
returns-then-limit-x c =
    let fm : FitsSigned w64 c.min.result = search rules in
    let fr : FitsSigned w64 c.max.result = search rules in (
      back fr ∙ cut c.args.x c.args.limit c.min.result c.max.result c.requires (c.min.ensures.value ∙ ap₂ int_min (back c.ranges.x) (back c.ranges.limit)) (c.max.ensures.value ∙ ap (λ (m : ℤ). int_max m (pos 0)) (back fm)),
      c.if-limit-x.true ∙ above c.args.x c.args.limit c.requires (ap₂ lt_z (sym (back c.ranges.limit)) (sym (back c.ranges.x)) ∙ c.if-limit-x.true),
    )

pub returns-else-limit-x : goal.returns-else-limit-x
returns-else-limit-x c =
    let fm : FitsSigned w64 c.min.result = search rules in
    let fr : FitsSigned w64 c.max.result = search rules in (
      back fr ∙ cut c.args.x c.args.limit c.min.result c.max.result c.requires (c.min.ensures.value ∙ ap₂ int_min (back c.ranges.x) (back c.ranges.limit)) (c.max.ensures.value ∙ ap (λ (m : ℤ). int_max m (pos 0)) (back fm)),
      ap (λ (x : ℤ). lt_z x (pos 0)) (back c.ranges.x) ∙ not-above c.args.x c.args.limit c.requires (ap₂ lt_z (sym (back c.ranges.limit)) (sym (back c.ranges.x)) ∙ c.if-limit-x.false),
    )
