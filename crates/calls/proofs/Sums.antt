-- Sums over components, clamps to a limit, and axes in range. Assumes nothing.
use mathlib.Core.Path.{◌≡◌, refl, sym, ap, ap₂, ◌∙◌}
use mathlib.Core.Bool.{not}
use mathlib.Core.List.{List, [], ◌∷◌}
use Prim.Native.Nat.{ℕ, zero, suc, ◌-◌, ◌<◌, min}
use native.Mathlib.Nat.{zero-mul}
use native.Mathlib.Omega.{arith}
use lib.ListN.{length, get_or, take, replicate}
use lib.IntN.{ℤ, pos, ◌+ℤ◌}
use Rattle.integer.specs.Z.{up}
use Rattle.integer.specs.Defs.{eq_z}
use Rattle.indexing.specs.Coordinates.{dot}
use Rattle.indexing.specs.Start.{clamp}
use Rattle.indexing.specs.Slid.{moved}
use Rattle.indexing.specs.Axes.{Axes}
use Rattle.indexing.proofs.Inside.{clamp-is}

-- ---- sums and clamps
pub clamp-limit : (x : ℤ) (extent window : ℕ) → clamp x (extent - window) 0 ≡ clamp x extent window
clamp-limit x extent window =
    let e : extent - window - 0 ≡ extent - window = omega arith in
    clamp-is x (extent - window) 0 ∙ ap (λ (m : ℕ). pos (min (up x) m)) e ∙ sym (clamp-is x extent window)

pub moved-limit : (x : ℤ) (extent window : ℕ) → moved x (extent - window) 0 ≡ moved x extent window
unfolding moved
moved-limit x extent window = ap (λ (z : ℤ). not (eq_z z x)) (clamp-limit x extent window)

-- steps of 0 add nothing
pub zero-dot : (n m : ℕ) (cs : List ℕ) → dot (take n (replicate m (pos 0))) cs ≡ pos 0
unfolding dot
zero-dot zero m cs = refl
zero-dot (suc n) zero cs = refl
zero-dot (suc n) (suc m) [] = refl
zero-dot (suc n) (suc m) (c ∷ cs) = ap₂ ◌+ℤ◌ (ap pos (zero-mul c)) (zero-dot n m cs)

pub axis-below : (m : ℕ) (axes : List ℕ) → Axes m axes → (j : ℕ) → j < length axes → get_or axes j 0 < m
unfolding Axes
axis-below m [] q j h = absurd (omega arith)
axis-below m (x ∷ axes) q zero h = q.0
axis-below m (x ∷ axes) q (suc j) h = axis-below m axes q.2 j (omega arith)
