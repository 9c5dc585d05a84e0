-- The condition is needed: by any pairing that is not alike, two updates of one cell show their order. Assumes nothing.
use Rattle.std.specs.Prelude.{◌≡◌, refl, ◌≢◌, ◌⊎◌, false, List, [], ◌∷◌, get_or, ℤ, pos}
use Rattle.std.proofs.Common.{sym, ap, ◌∙◌, inl, inr}
use Rattle.integer.specs.Defs.{eq_z, wrap32}
use Rattle.integer.specs.Laws.{eq_z-false}
use Rattle.indexing.specs.Scatter.{combined}
use Rattle.rules.specs.Swaps.{put_on, Alike, both-add, both-lowest, both-highest}
use Rattle.rules.specs.declared.Rule.{Rule}
use Rattle.rules.specs.declared.Rule.TheVariants as R

-- a grid of one cell, that holds 0, after North's update u and South's v, and after South's and North's
abbrev pub north_first : Rule → Rule → ℤ → ℤ → List ℤ
north_first r s u v = put_on s ((pos 0, v) ∷ []) (put_on r ((pos 0, u) ∷ []) (pos 0 ∷ []))

abbrev pub south_first : Rule → Rule → ℤ → ℤ → List ℤ
south_first r s u v = put_on r ((pos 0, u) ∷ []) (put_on s ((pos 0, v) ∷ []) (pos 0 ∷ []))

-- two updates whose order shows: it leaves a, or b
pub record OrderShows (r s : Rule) : Type 0 where
  pub u : ℤ
  pub v : ℤ
  pub a : ℤ
  pub b : ℤ
  pub north-first : north_first r s u v ≡ a ∷ []
  pub south-first : south_first r s u v ≡ b ∷ []
  pub unlike : eq_z a b ≡ false

-- so the grids differ
pub grids-differ : {r s : Rule} (o : OrderShows r s) → north_first r s o.u o.v ≢ south_first r s o.u o.v
grids-differ o e = eq_z-false o.a o.b o.unlike (ap (λ (l : List ℤ). get_or l 0 (pos 0)) (sym o.north-first ∙ e ∙ o.south-first))

shows : {r s : Rule} (u v a b : ℤ) → north_first r s u v ≡ a ∷ [] → south_first r s u v ≡ b ∷ [] → eq_z a b ≡ false → OrderShows r s
shows u v a b p q n = record { u = u; v = v; a = a; b = b; north-first = p; south-first = q; unlike = n }

-- EVERY PAIRING is alike, or shows its order
pub needed : (r s : Rule) → Alike r s ⊎ OrderShows r s
unfolding combined wrap32
needed R.Add R.Add = inl both-add
needed R.Add R.Lowest = inr (shows (pos 5) (pos 3) (pos 3) (pos 5) refl refl refl)
needed R.Add R.Highest = inr (shows (pos 5) (pos 3) (pos 5) (pos 8) refl refl refl)
needed R.Add R.Replace = inr (shows (pos 5) (pos 3) (pos 3) (pos 8) refl refl refl)
needed R.Lowest R.Add = inr (shows (pos 3) (pos 5) (pos 5) (pos 3) refl refl refl)
needed R.Lowest R.Lowest = inl both-lowest
needed R.Lowest R.Highest = inr (shows (pos 3) (pos 5) (pos 5) (pos 3) refl refl refl)
needed R.Lowest R.Replace = inr (shows (pos 3) (pos 5) (pos 5) (pos 3) refl refl refl)
needed R.Highest R.Add = inr (shows (pos 3) (pos 5) (pos 8) (pos 5) refl refl refl)
needed R.Highest R.Lowest = inr (shows (pos 5) (pos 3) (pos 3) (pos 5) refl refl refl)
needed R.Highest R.Highest = inl both-highest
needed R.Highest R.Replace = inr (shows (pos 5) (pos 3) (pos 3) (pos 5) refl refl refl)
needed R.Replace R.Add = inr (shows (pos 3) (pos 5) (pos 8) (pos 3) refl refl refl)
needed R.Replace R.Lowest = inr (shows (pos 5) (pos 3) (pos 3) (pos 5) refl refl refl)
needed R.Replace R.Highest = inr (shows (pos 3) (pos 5) (pos 5) (pos 3) refl refl refl)
needed R.Replace R.Replace = inr (shows (pos 3) (pos 5) (pos 5) (pos 3) refl refl refl)
