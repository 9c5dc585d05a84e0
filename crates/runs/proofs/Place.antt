-- What the machine's sums and casts of a place ask and give. Assumes nothing.
use mathlib.Core.Path.{◌≡◌, sym, ap, ap₂, subst, ◌∙◌}
use Prim.Native.Nat.{ℕ, ◌<◌, ◌^◌}
use native.Mathlib.Omega.{arith}
use lib.Dec.{T}
use lib.IntN.{ℤ, pos, nat_abs, ◌+ℤ◌, ◌*ℤ◌, *ℤ-zero, +ℤ_idr}
use lib.Signed.{◌<ℤ◌, non_neg}
use mir.Syntax.{w64}
use mir.Val.{SFits, Fits, to_z, of_z}
use Rattle.integer.specs.Z.{back, znorm, zflat, zfacts, <-to}
use Rattle.integer.specs.Machine.{as-u64, u64-is}
use Rattle.indexing.specs.Coordinates.{InSlice}
use Rattle.runs.specs.Runs.{line, Line}

-- as a local is read back
abbrev pub read : ℤ → ℤ
read z = to_z w64 (of_z w64 z)

-- ---- a place inside a slice
pub in-fits : (z : ℤ) (m : ℕ) → InSlice m z → m < 2 ^ 63 → SFits w64 z
in-fits z m (l, h) r = simp znorm (simp zflat (omega (arith, zfacts)))

pub gap-fits : (b p : ℤ) (m : ℕ) → InSlice m b → InSlice m (b +ℤ p) → m < 2 ^ 63 → SFits w64 p
gap-fits b p m (h, k) (l, n) r = simp znorm (simp zflat (omega (arith, zfacts, simp zflat at (simp znorm at l), simp zflat at (simp znorm at n))))

-- cast to an index
pub record Index (z : ℤ) (m : ℕ) : Type 0 where
  pub cast : T (non_neg (read z)) × Fits w64 (nat_abs (read z))
  pub is : pos (nat_abs (read z)) ≡ z
  pub below : nat_abs (read z) < m

pub index : (z : ℤ) (m : ℕ) → InSlice m z → m < 2 ^ 63 → Index z m
index z m h r =
    let f : SFits w64 z = in-fits z m h r in
    let e : pos (nat_abs (read z)) ≡ z = u64-is f h.0 in
    record { cast = as-u64 f h.0; is = e; below = omega (arith, <-to (pos (nat_abs (read z))) (pos m) (subst (λ (x : ℤ). x <ℤ pos m) (sym e) h.1)) }

-- ---- base + stride * i
abbrev pub sum : ℤ → ℤ → ℕ → ℤ
sum base stride i = read base +ℤ read (read stride *ℤ to_z w64 i)

-- the place as the machine has it
abbrev pub machine : ℤ → ℤ → ℕ → ℤ
machine base stride i = read (sum base stride i)

pub record Step (base stride : ℤ) (i m : ℕ) : Type 0 where
  pub count : SFits w64 (pos i)
  pub multiple : SFits w64 (read stride *ℤ to_z w64 i)
  pub fits : SFits w64 (sum base stride i)
  pub is : machine base stride i ≡ line base stride i
  pub read_is : machine base stride i ≡ line (read base) (read stride) i
  pub cast : T (non_neg (machine base stride i)) × Fits w64 (nat_abs (machine base stride i))
  pub below : nat_abs (machine base stride i) < m
  pub index_is : pos (nat_abs (machine base stride i)) ≡ line (read base) (read stride) i

pub line-zero : (base stride : ℤ) → line base stride 0 ≡ base
line-zero base stride = ap (λ (x : ℤ). base +ℤ x) (*ℤ-zero stride) ∙ +ℤ_idr base

-- where the base and the place of i lie inside the slice
pub step-at : (base stride : ℤ) (m : ℕ) → SFits w64 base → SFits w64 stride → m < 2 ^ 63 → (i : ℕ) → SFits w64 (pos i) → InSlice m base → InSlice m (line base stride i) → Step base stride i m
step-at base stride m fb fs r i fi b k =
    let e : read stride *ℤ to_z w64 i ≡ stride *ℤ pos i = ap₂ ◌*ℤ◌ (back fs) (back fi) in
    let p : SFits w64 (read stride *ℤ to_z w64 i) = subst (SFits w64) (sym e) (gap-fits base (stride *ℤ pos i) m b k r) in
    let f : sum base stride i ≡ line base stride i = ap₂ ◌+ℤ◌ (back fb) (back p ∙ e) in
    let q : SFits w64 (sum base stride i) = subst (SFits w64) (sym f) (in-fits (line base stride i) m k r) in
    let g : line base stride i ≡ line (read base) (read stride) i = sym (ap₂ (λ (x y : ℤ). line x y i) (back fb) (back fs)) in
    let x : Index (sum base stride i) m = index (sum base stride i) m (subst (InSlice m) (sym f) k) r in
    record { count = fi; multiple = p; fits = q; is = back q ∙ f; read_is = back q ∙ f ∙ g; cast = x.cast; below = x.below; index_is = x.is ∙ f ∙ g }

pub step : (base stride : ℤ) (n m : ℕ) → SFits w64 base → SFits w64 stride → Line base stride n m → m < 2 ^ 63 → (i : ℕ) → i < n → Step base stride i m
step base stride n m fb fs l r i h =
    step-at base stride m fb fs r i (record { sfits = omega (arith, l.few) }) (subst (InSlice m) (line-zero base stride) (l.inside 0 (omega arith))) (l.inside i h)
