-- The condition for two scatters to swap, in terms of the places that their updates land on. Assumes nothing.
use Rattle.std.proofs.Common.{sym, ◌∙◌, inl, inr, ⊎_elim}
use Rattle.std.specs.Prelude.{◌≢◌, List, ℕ, ◌<◌, ℤ, pos}
use Rattle.indexing.specs.Coordinates.{product, element_at}
use Rattle.indexing.specs.Scatter.{Scatter, batch_shape, window_shape, lands_at, update_at, placed_updates}
use Rattle.indexing.proofs.Updates.{rows-land, rows-miss}
use Rattle.rules.specs.Swaps.{Apart}

-- no update of the one lands on an element that an update of the other lands on
abbrev pub Clear : Scatter → List ℤ → Scatter → List ℤ → Type 0
Clear n nstarts s sstarts =
    (b w b' w' : ℕ) → b < product (batch_shape n) → w < product (window_shape n) → b' < product (batch_shape s) → w' < product (window_shape s)
    → lands_at n nstarts b w ≢ lands_at s sstarts b' w'

-- scatters that are clear of each other are apart, on a grid of any length and of any elements
pub clear_apart : {A : Type 0} (d : A) (north south : Scatter) (nstarts sstarts : List ℤ) (nupdates supdates : List A) (n : ℕ) → Clear north nstarts south sstarts
    → Apart n (placed_updates d north nstarts nupdates) (placed_updates d south sstarts supdates)
unfolding placed_updates
clear_apart d north south nstarts sstarts nupdates supdates n clear i h = ⊎_elim
    inl
    (λ q. inr (rows-miss (pos i) (product (batch_shape south)) (product (window_shape south)) (λ b w. (lands_at south sstarts b w, element_at d supdates (update_at south b w)))
    (λ b w l m e. clear q.0 q.1 b w q.2 q.3 l m (q.4 ∙ sym e))))
    (rows-land (pos i) (product (batch_shape north)) (product (window_shape north)) (λ b w. (lands_at north nstarts b w, element_at d nupdates (update_at north b w))))
