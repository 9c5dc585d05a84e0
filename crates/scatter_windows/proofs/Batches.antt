-- The batches of a scatter are those below the places of their last axis. Over anything that is done at a batch's two places, and any rank. Assumes nothing.
use mathlib.Core.Path.{◌≡◌, sym, ap, ap₂, subst, ◌∙◌}
use mathlib.Core.List.{List}
use Prim.Native.Nat.{ℕ, suc, ◌+◌, ◌*◌, ◌-◌, ◌<◌, ◌≤◌, ◌^◌}
use native.Mathlib.Nat.{mul-one, mul-le-mul_left}
use native.Mathlib.Omega.{arith}
use lib.ListN.{length, get_or, take}
use lib.IntN.{ℤ, pos}
use mir.Syntax.{w64}
use mir.Val.{SFits}
use Rattle.integer.specs.Z.{back}
use Rattle.indexing.specs.Coordinates.{product}
use Rattle.indexing.specs.Odometer.{AllPos}
use Rattle.indexing.specs.Loops.{in_order}
use Rattle.runs.specs.Runs.{line}
use Rattle.runs.proofs.Turns.{more, in-runs, same-turns}
use Rattle.runs.proofs.Place.{read, machine, Step, step}
use Rattle.windows.specs.Windows.{place_at}
use Rattle.windows.proofs.Last.{product-top, positive-top, place-top, digit-below, place-first}
use Rattle.windows.proofs.Levels.{region-below, region-bases}
use Rattle.scatter_windows.specs.Scattering.{BatchPlaces}

-- ---- what is done
module _ {C : Type 0} (act : ℤ → ℤ → C → C) (shape : List ℕ) (ts us : List ℤ) where
  -- at every batch in turn, first axis fastest
  abbrev pub over : ℤ → ℤ → ℕ → C → C
  over t u rank = in_order (λ b. act (place_at t shape ts rank b) (place_at u shape us rank b)) (product (take rank shape))

  -- the batches below place j of the last axis
  abbrev pub below : ℤ → ℤ → ℤ → ℤ → ℕ → ℕ → C → C
  below t u a c top j = over (line t a j) (line u c j) top

  -- with no axes there is one batch
  pub over_none : (t u : ℤ) (x : C) → act t u x ≡ over t u 0 x
  unfolding product in_order
  over_none t u x = ap₂ (λ (a b : ℤ). act a b x) (sym (place-first t shape ts 0)) (sym (place-first u shape us 0))

  -- THE LAW OF LEVELS
  level-is : (t u : ℤ) (top : ℕ) → top < length shape → top < length ts → top < length us → AllPos (take top shape) → (x : C)
      → in_order (below t u (get_or ts top (pos 0)) (get_or us top (pos 0)) top) (get_or shape top 0) x ≡ over t u (suc top) x
  level-is t u top le lt lu p x =
      let n : ℕ = product (take top shape) in
      same-turns (below t u (get_or ts top (pos 0)) (get_or us top (pos 0)) top) (λ j. in_order (λ i. act (place_at t shape ts (suc top) (i + n * j)) (place_at u shape us (suc top) (i + n * j))) n) (get_or shape top 0)
      (λ j h. same-turns (λ i. act (place_at (line t (get_or ts top (pos 0)) j) shape ts top i) (place_at (line u (get_or us top (pos 0)) j) shape us top i)) (λ i. act (place_at t shape ts (suc top) (i + n * j)) (place_at u shape us (suc top) (i + n * j))) n
      (λ i g y. ap₂ (λ (a b : ℤ). act a b y) (sym (place-top shape top le t ts lt p i j g h)) (sym (place-top shape top le u us lu p i j g h))))
      x
      ∙ sym (in-runs (λ b. act (place_at t shape ts (suc top) b) (place_at u shape us (suc top) b)) n (get_or shape top 0) x)
      ∙ ap (λ (k : ℕ). in_order (λ b. act (place_at t shape ts (suc top) b) (place_at u shape us (suc top) b)) k x) (sym (product-top shape top le))

-- ---- where the batches lie: below place j of the last axis
part_of : (m n : ℕ) → 0 < n → m ≤ m * n
part_of m n h = omega (arith, mul-le-mul_left {m = 1} {n = n} m h, mul-one m)

places-below : (P : ℤ → ℤ → Type 0) (t u : ℤ) (shape : List ℕ) (ts us : List ℤ) (top sn : ℕ) → BatchPlaces P t u shape ts us (suc top) sn → (j : ℕ) → j < get_or shape top 0
    → BatchPlaces P (line t (get_or ts top (pos 0)) j) (line u (get_or us top (pos 0)) j) shape ts us top sn
places-below P t u shape ts us top sn w j h =
    let small = w.small in
    let le = w.index.extents in
    let lt = w.index.strided in
    let lu = w.updates.strided in
    let p : AllPos (take top shape) = (positive-top shape top (omega arith) w.positive).0 in
    record {
      small = omega arith;
      few-batches = omega (arith, w.few-batches, product-top shape top (omega arith), part_of (product (take top shape)) (get_or shape top 0) (omega arith));
      positive = p;
      index = region-below t shape ts top (2 ^ 63 - 1) w.index p j h;
      updates = region-below u shape us top sn w.updates p j h;
      each = λ i l.
          subst (λ (x : ℤ). P x (place_at (line u (get_or us top (pos 0)) j) shape us top i)) (place-top shape top (omega arith) t ts (omega arith) p i j l h)
          (subst (P (place_at t shape ts (suc top) (i + product (take top shape) * j))) (place-top shape top (omega arith) u us (omega arith) p i j l h)
          (w.each (i + product (take top shape) * j) (subst (λ (q : ℕ). i + product (take top shape) * j < q) (sym (product-top shape top (omega arith))) (digit-below i (product (take top shape)) j (get_or shape top 0) l h))));
    }

-- the one batch of no axes
pub first-batch : (P : ℤ → ℤ → Type 0) (t u : ℤ) (shape : List ℕ) (ts us : List ℤ) (rank sn : ℕ) → BatchPlaces P t u shape ts us rank sn → rank ≡ 0 → P t u
unfolding product
first-batch P t u shape ts us rank sn w e =
    let one : 0 < product (take rank shape) = subst (λ (k : ℕ). 0 < product (take k shape)) (sym e) (omega arith) in
    subst (λ (x : ℤ). P x u) (place-first t shape ts rank) (subst (P (place_at t shape ts rank 0)) (place-first u shape us rank) (w.each 0 one))

-- ---- the same as the machine has it: numbers read back, and `top` for `rank - 1`. What is asked and done is by the destination's base d
module _ (P : ℤ → ℤ → ℤ → Type 0) (t u d : ℤ) (shape : List ℕ) (ts us : List ℤ) (rank sn : ℕ) (w : BatchPlaces (P d) t u shape ts us rank sn) (ft : SFits w64 t) (fu : SFits w64 u) (fd : SFits w64 d)
    (top : ℕ) (e : rank ≡ suc top) (fa : SFits w64 (get_or ts top (pos 0))) (fc : SFits w64 (get_or us top (pos 0))) where
  here : BatchPlaces (P d) t u shape ts us (suc top) sn
  here = subst (λ (r : ℕ). BatchPlaces (P d) t u shape ts us r sn) e w

  cells : AllPos (take top shape)
  cells = (positive-top shape top (omega (arith, here.index.extents)) here.positive).0

  -- what is computed at place j of the last axis
  module _ (r : sn < 2 ^ 63) (j : ℕ) (h : j < get_or shape top 0) where
    pub step-index : Step t (get_or ts top (pos 0)) j (2 ^ 63 - 1)
    step-index = step t (get_or ts top (pos 0)) (get_or shape top 0) (2 ^ 63 - 1) ft fa (region-bases t shape ts top (2 ^ 63 - 1) here.index cells) (omega arith) j h

    pub step-update : Step u (get_or us top (pos 0)) j sn
    step-update = step u (get_or us top (pos 0)) (get_or shape top 0) sn fu fc (region-bases u shape us top sn here.updates cells) r j h

    pub step-places : BatchPlaces (P (read d)) (machine t (get_or ts top (pos 0)) j) (machine u (get_or us top (pos 0)) j) shape ts us top sn
    step-places =
        subst (λ (x : ℤ). BatchPlaces (P x) (machine t (get_or ts top (pos 0)) j) (machine u (get_or us top (pos 0)) j) shape ts us top sn) (sym (back fd))
        (subst (λ (x : ℤ). BatchPlaces (P d) x (machine u (get_or us top (pos 0)) j) shape ts us top sn) (sym step-index.is)
        (subst (λ (x : ℤ). BatchPlaces (P d) (line t (get_or ts top (pos 0)) j) x shape ts us top sn) (sym step-update.is) (places-below (P d) t u shape ts us top sn here j h)))

  module _ {C : Type 0} (act : ℤ → ℤ → ℤ → C → C) where
    -- the loop's turns, by what it reads back
    abbrev pub level_at : ℕ → C → C
    level_at = below (act (read d)) shape ts us (read t) (read u) (read (get_or ts top (pos 0))) (read (get_or us top (pos 0))) top

    pub levels-more : (j m : ℕ) (x y v : C) → Step t (get_or ts top (pos 0)) j (2 ^ 63 - 1) → Step u (get_or us top (pos 0)) j m → y ≡ in_order level_at j x
        → v ≡ over (act (read d)) shape ts us (machine t (get_or ts top (pos 0)) j) (machine u (get_or us top (pos 0)) j) top y → v ≡ in_order level_at (j + 1) x
    levels-more j m x y v p q f h = more level_at j x y v f (h ∙ ap₂ (λ (a b : ℤ). over (act (read d)) shape ts us a b top y) p.read_is q.read_is)

    pub levels-end : (j : ℕ) (x y : C) → j ≡ get_or shape top 0 → y ≡ in_order level_at j x → y ≡ over (act d) shape ts us t u rank x
    levels-end j x y g h =
        let le = here.index.extents in
        let lt = here.index.strided in
        let lu = here.updates.strided in
        h
        ∙ ap (λ (v : ℤ). in_order (below (act v) shape ts us (read t) (read u) (read (get_or ts top (pos 0))) (read (get_or us top (pos 0))) top) j x) (back fd)
        ∙ ap₂ (λ (a b : ℤ). in_order (below (act d) shape ts us a b (read (get_or ts top (pos 0))) (read (get_or us top (pos 0))) top) j x) (back ft) (back fu)
        ∙ ap₂ (λ (a b : ℤ). in_order (below (act d) shape ts us t u a b top) j x) (back fa) (back fc)
        ∙ ap (λ (k : ℕ). in_order (below (act d) shape ts us t u (get_or ts top (pos 0)) (get_or us top (pos 0)) top) k x) g
        ∙ level-is (act d) shape ts us t u top (omega arith) (omega arith) (omega arith) cells x
        ∙ ap (λ (k : ℕ). over (act d) shape ts us t u k x) (sym e)

-- the parameters read back
pub over-back : {C : Type 0} (act : ℤ → ℤ → ℤ → C → C) (t u d : ℤ) (shape : List ℕ) (ts us : List ℤ) (rank : ℕ) → SFits w64 t → SFits w64 u → SFits w64 d → (x y : C)
    → y ≡ over (act (read d)) shape ts us (read t) (read u) rank x → y ≡ over (act d) shape ts us t u rank x
over-back act t u d shape ts us rank ft fu fd x y h =
    h
    ∙ ap (λ (v : ℤ). over (act v) shape ts us (read t) (read u) rank x) (back fd)
    ∙ ap₂ (λ (a b : ℤ). over (act d) shape ts us a b rank x) (back ft) (back fu)

pub places-back : (P : ℤ → ℤ → ℤ → Type 0) (t u d : ℤ) (shape : List ℕ) (ts us : List ℤ) (rank sn : ℕ) → SFits w64 t → SFits w64 u → SFits w64 d → BatchPlaces (P d) t u shape ts us rank sn → BatchPlaces (P (read d)) (read t) (read u) shape ts us rank sn
places-back P t u d shape ts us rank sn ft fu fd w =
    subst (λ (x : ℤ). BatchPlaces (P x) (read t) (read u) shape ts us rank sn) (sym (back fd))
    (subst (λ (x : ℤ). BatchPlaces (P d) x (read u) shape ts us rank sn) (sym (back ft)) (subst (λ (x : ℤ). BatchPlaces (P d) t x shape ts us rank sn) (sym (back fu)) w))
