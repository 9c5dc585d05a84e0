use Rattle.std.specs.Prelude.{◌≡◌, refl, ℕ, zero, suc, ℤ, pos, neg_ℤ, Some, option_and_then}
use Rattle.std.proofs.Common.{rules}
use Rattle.integer.specs.Defs.{checked}
use Rattle.layout.specs.Spans.{reach_of, reset_of}
use Rattle.layout.proofs.checked_replay_reset.Goals as goal

at_zero : (n : ℕ) (s : ℤ) → n ≡ 0 → Some (pos 0) ≡ reset_of n s
unfolding reset_of
at_zero n s e = rw e

past_zero : (n : ℕ) (s : ℤ) → (n ≡ 0 → ⊥) → reset_of n s ≡ option_and_then (λ e. checked (neg_ℤ e)) (reach_of n s)
unfolding reset_of
past_zero zero s h = absurd (h refl)
past_zero (suc n) s h = refl

pub returns-then-extent-eq0 : goal.returns-then-extent-eq0
returns-then-extent-eq0 c = at_zero _ _ c.if-extent-eq0.true

pub returns-in_err-far : goal.returns-in_err-far
returns-in_err-far c = let e = past_zero c.args.extent c.args.step c.if-extent-eq0.false in rw e (search rules)

pub returns : goal.returns
returns c = let e = past_zero c.args.extent c.args.step c.if-extent-eq0.false in rw e (search rules)
