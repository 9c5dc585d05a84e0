-- Whether a start is moved: by the place that it is moved to, and as the clamp to 0 .. limit tells. Assumes nothing.
use Rattle.std.specs.Prelude.{◌≡◌, refl, ◌≢◌, Bool, true, false, not, ℕ, ℤ}
use Rattle.std.proofs.Common.{sym, ap, ◌∙◌}
use Rattle.integer.specs.Defs.{eq_z}
use Rattle.integer.specs.Laws.{eq_z-true, eq_z-false}
use Rattle.indexing.specs.Start.{clamp}
use Rattle.indexing.specs.Slid.{moved}

-- a flag that says whether the clamped start is another
pub moved-by : (start : ℤ) (extent window : ℕ) (r : ℤ) (b : Bool) → r ≡ clamp start extent window → (b ≡ true → r ≢ start) → (b ≡ false → r ≡ start) → b ≡ moved start extent window
unfolding moved
moved-by start extent window r b e f g = go b refl (eq_z (clamp start extent window) start) refl
  where
    go : (t : Bool) → b ≡ t → (u : Bool) → eq_z (clamp start extent window) start ≡ u → b ≡ not (eq_z (clamp start extent window) start)
    go true h true k = absurd (f h (e ∙ eq_z-true (clamp start extent window) start k))
    go true h false k = h ∙ ap not (sym k)
    go false h true k = h ∙ ap not (sym k)
    go false h false k = absurd (eq_z-false (clamp start extent window) start k (sym e ∙ g h))
