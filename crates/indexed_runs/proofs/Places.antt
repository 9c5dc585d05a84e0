-- A clamped start as the machine has it. Assumes nothing.
use mathlib.Core.Path.{◌≡◌, sym, ap, ap₂, subst, ◌∙◌}
use Prim.Native.Nat.{ℕ, ◌-◌, ◌<◌, ◌^◌}
use native.Mathlib.Omega.{arith}
use mathlib.Core.List.{List}
use lib.ListN.{length, get_or}
use lib.IntN.{ℤ, pos, nat_abs, ◌+ℤ◌, ◌*ℤ◌}
use lib.Signed.{◌≤ℤ◌}
use mir.Syntax.{w64}
use mir.Val.{SFits}
use Rattle.integer.specs.Z.{back}
use Rattle.integer.specs.Laws.{≤-pos}
use Rattle.indexing.specs.Coordinates.{InSlice, element_at}
use Rattle.indexing.specs.Start.{clamp}
use Rattle.indexing.proofs.Inside.{clamp-high}
use Rattle.indexing.specs.Loops.{in_order}
use Rattle.std.proofs.lemmas.List.{get_or_default}
use Rattle.runs.specs.Runs.{cell_at, line}
use Rattle.runs.proofs.Turns.{same-places}
use Rattle.runs.proofs.Place.{read, machine, Step, step, step-at}
use Rattle.indexed_runs.specs.IndexedRuns.{clamped_at, Clamped}

-- an element that is read is the list's, whatever is given past its end
pub element : {A : Type 0} (xs : List A) (i : ℕ) (a z : A) → i < length xs → a ≡ get_or xs i a → a ≡ get_or xs i z
element xs i a z h e = e ∙ get_or_default xs i a z h

line_read : (s ss : ℤ) (k : ℕ) → SFits w64 s → SFits w64 ss → line (read s) (read ss) k ≡ line s ss k
line_read s ss k fs fss = ap₂ (λ (u v : ℤ). line u v k) (back fs) (back fss)

-- a clamped start is at most the limit, and so it fits
pub clamped-fits : (x : ℤ) (limit y : ℕ) → limit < 2 ^ 63 → pos y ≡ clamp x limit 0 → SFits w64 (pos y)
clamped-fits x limit y h e = let l : pos y ≤ℤ pos (limit - 0) = subst (λ (z : ℤ). z ≤ℤ pos (limit - 0)) (sym e) (clamp-high x limit 0) in record { sfits = omega (arith, ≤-pos l) }

module _ (starts : List ℤ) (t ts base stride other by : ℤ) (limit n cn pn : ℕ) (w : Clamped starts t ts base stride other by limit n cn pn) where
  -- what is computed at cell i: of the start, and of the plain side
  pub start-step : SFits w64 t → SFits w64 ts → length starts < 2 ^ 63 → (i : ℕ) → i < n → Step t ts i (length starts)
  start-step ft fts r i h = step t ts n (length starts) ft fts w.starting r i h

  pub plain_step : SFits w64 other → SFits w64 by → pn < 2 ^ 63 → (i : ℕ) → i < n → Step other by i pn
  plain_step fo fb r i h = step other by n pn fo fb w.plain r i h

  -- of the clamped side, where y is the clamped start of the cell
  pub clamped-step : SFits w64 t → SFits w64 ts → SFits w64 base → SFits w64 stride → cn < 2 ^ 63 → (i : ℕ) → i < n → Step t ts i (length starts) → SFits w64 (get_or starts (nat_abs (machine t ts i)) (pos 0))
      → (y : ℕ) → pos y ≡ clamp (read (get_or starts (nat_abs (machine t ts i)) (pos 0))) limit 0 → Step base stride y cn
  clamped-step ft fts fb fs r i h p f y e =
      let x : ℤ = read (get_or starts (nat_abs (machine t ts i)) (pos 0)) in
      let q : pos y ≡ clamp (element_at (pos 0) starts (line t ts i)) limit 0 =
      e ∙ ap (λ (u : ℤ). clamp u limit 0) (back f) ∙ ap (λ (u : ℤ). clamp (element_at (pos 0) starts u) limit 0) (p.index_is ∙ line_read t ts i ft fts) in
      step-at base stride cn fb fs r y (clamped-fits x limit y w.small e) w.first (subst (λ (u : ℤ). InSlice cn (base +ℤ stride *ℤ u)) (sym q) (w.clamped i h))

-- the place by the start that is read
pub clamped-is : (starts : List ℤ) (t ts base stride : ℤ) (limit i tn cn y : ℕ) → Step t ts i tn → SFits w64 (get_or starts (nat_abs (machine t ts i)) (pos 0)) → Step base stride y cn
    → pos y ≡ clamp (read (get_or starts (nat_abs (machine t ts i)) (pos 0))) limit 0 → pos (nat_abs (machine base stride y)) ≡ clamped_at starts (line (read t) (read ts)) (read base) (read stride) limit i
clamped-is starts t ts base stride limit i tn cn y p f q e =
    q.index_is
    ∙ ap (λ (z : ℤ). read base +ℤ read stride *ℤ z) (e ∙ ap (λ (x : ℤ). clamp x limit 0) (back f) ∙ ap (λ (z : ℤ). clamp (element_at (pos 0) starts z) limit 0) p.index_is)

-- the same places by the parameters themselves
clamped-read : (starts : List ℤ) (t ts base stride : ℤ) (limit k : ℕ) → SFits w64 t → SFits w64 ts → SFits w64 base → SFits w64 stride
    → clamped_at starts (line (read t) (read ts)) (read base) (read stride) limit k ≡ clamped_at starts (line t ts) base stride limit k
clamped-read starts t ts base stride limit k ft fts fb fs =
    ap₂ (λ (u v : ℤ). clamped_at starts (line u v) (read base) (read stride) limit k) (back ft) (back fts)
    ∙ ap₂ (λ (u v : ℤ). clamped_at starts (line t ts) u v limit k) (back fb) (back fs)

module _ {A : Type 0} (z : A) (rule : A → A → A) (src : List A) (starts : List ℤ) (t ts base stride other by : ℤ) (limit i n : ℕ) (x y : List A) (ft : SFits w64 t) (fts : SFits w64 ts) (fb : SFits w64 base) (fs : SFits w64 stride) (fo : SFits w64 other) (fy : SFits w64 by) (e : i ≡ n) where
  pub take-end : y ≡ in_order (cell_at z rule src (clamped_at starts (line (read t) (read ts)) (read base) (read stride) limit) (line (read other) (read by))) i x
      → y ≡ in_order (cell_at z rule src (clamped_at starts (line t ts) base stride limit) (line other by)) n x
  take-end h =
      h
      ∙ same-places z rule src _ _ _ _ i (λ k _. clamped-read starts t ts base stride limit k ft fts fb fs) (λ k _. line_read other by k fo fy) x
      ∙ ap (λ (k : ℕ). in_order (cell_at z rule src (clamped_at starts (line t ts) base stride limit) (line other by)) k x) e

  pub put-end : y ≡ in_order (cell_at z rule src (line (read other) (read by)) (clamped_at starts (line (read t) (read ts)) (read base) (read stride) limit)) i x
      → y ≡ in_order (cell_at z rule src (line other by) (clamped_at starts (line t ts) base stride limit)) n x
  put-end h =
      h
      ∙ same-places z rule src _ _ _ _ i (λ k _. line_read other by k fo fy) (λ k _. clamped-read starts t ts base stride limit k ft fts fb fs) x
      ∙ ap (λ (k : ℕ). in_order (cell_at z rule src (line other by) (clamped_at starts (line t ts) base stride limit)) k x) e
