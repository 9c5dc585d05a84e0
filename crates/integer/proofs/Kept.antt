-- Laws of tests and sums that the edits add_bound and wrap_amount cite, and no proof here: a test that every number passes keeps it;
-- a sum that fits, or else another number with its remainder.
use Rattle.std.specs.Prelude.{◌≡◌, refl, Bool, true, Option, Some, None, ℤ}
use Rattle.std.specs.Option.{MatchOption, SomeIff, unwrap_or}
use Rattle.std.specs.Bool.{then_some}
use Rattle.std.specs.Int.{w32}
use Rattle.std.proofs.Math.Path.{sym, ap}
use Rattle.std.proofs.Common.{◌∙◌, subst, SFits}
use Rattle.integer.specs.Defs.{wrap32}
use Rattle.integer.specs.Wrap.{wrap-id}

pub kept : {A : Type 0} (x r : Option A) (test : A → Bool → Type 0) → MatchOption x (r ≡ None) (λ v. (b : Bool) × test v b × (r ≡ then_some b v)) → ((v : A) (b : Bool) → x ≡ Some v → test v b → b ≡ true) → r ≡ x
kept None r test m h = m
kept (Some v) r test m h = m.2 ∙ ap (λ (b : Bool). then_some b v) (h v m.0 refl m.1)

pub summed-or : (x : Option ℤ) (z s d r : ℤ) → SomeIff x (SFits w32 s) s → s ≡ z → r ≡ unwrap_or x d → d ≡ wrap32 z → r ≡ wrap32 z
summed-or None z s d r h e g w = g ∙ w
summed-or (Some y) z s d r h e g w = g ∙ h.1 ∙ e ∙ sym (wrap-id z (subst (λ (i : ℤ). SFits w32 i) e h.0))
