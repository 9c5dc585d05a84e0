-- Runs as the machine makes them: the places by locals read back, and a run of stride 1 on parts. Assumes nothing.
use mathlib.Core.Path.{◌≡◌, sym, ap, ap₂, subst, ◌∙◌}
use mathlib.Core.List.{List, ◌++◌}
use Prim.Native.Nat.{ℕ, ◌+◌, ◌*◌, ◌-◌, ◌<◌, ◌≤◌, ◌^◌}
use native.Mathlib.Omega.{arith}
use lib.Dec.{T}
use lib.ListN.{length, get_or, set, take, drop, length-drop}
use lib.Seq.{length-take-le}
use lib.IntN.{ℤ, pos, nat_abs}
use lib.Signed.{◌<ℤ◌, non_neg}
use mir.Facts.{sfits_lit}
use mir.Syntax.{w64}
use mir.Val.{SFits, Fits, of_z}
use Rattle.integer.specs.Z.{back, <-to}
use Rattle.integer.specs.Machine.{same_bits}
use Rattle.indexing.specs.Coordinates.{InSlice}
use Rattle.indexing.specs.Loops.{in_order}
use Rattle.runs.specs.Runs.{cell_at, line, Line, Run, Plane, run_at}
use Rattle.runs.proofs.Turns.{more, cell-more, on-parts}
use Rattle.runs.proofs.Place.{read, machine, Index, index, Step, step, line-zero}

-- ---- one run
module _ {A : Type 0} (z : A) (rule : A → A → A) (src : List A) (s d ss ds : ℤ) where
  -- a turn of the loop: v is stored
  pub turn : (x y : List A) (i sn dn : ℕ) (v : A) → y ≡ in_order (cell_at z rule src (line (read s) (read ss)) (line (read d) (read ds))) i x → Step s ss i sn → Step d ds i dn
      → v ≡ rule (get_or y (nat_abs (machine d ds i)) z) (get_or src (nat_abs (machine s ss i)) z) → set y (nat_abs (machine d ds i)) v ≡ in_order (cell_at z rule src (line (read s) (read ss)) (line (read d) (read ds))) (i + 1) x
  turn x y i sn dn v e p q w = cell-more z rule src (line (read s) (read ss)) (line (read d) (read ds)) x y i (nat_abs (machine s ss i)) (nat_abs (machine d ds i)) v e p.index_is q.index_is w

  -- the end: the places by the parameters themselves
  pub ends : (i n : ℕ) (x y : List A) → SFits w64 s → SFits w64 d → SFits w64 ss → SFits w64 ds → i ≡ n → y ≡ in_order (cell_at z rule src (line (read s) (read ss)) (line (read d) (read ds))) i x
      → y ≡ in_order (cell_at z rule src (line s ss) (line d ds)) n x
  ends i n x y f1 f2 f3 f4 u e =
      e
      ∙ ap₂ (λ (a b : ℤ). in_order (cell_at z rule src (line a (read ss)) (line b (read ds))) i x) (back f1) (back f2)
      ∙ ap₂ (λ (a b : ℤ). in_order (cell_at z rule src (line s a) (line d b)) i x) (back f3) (back f4)
      ∙ ap (λ (m : ℕ). in_order (cell_at z rule src (line s ss) (line d ds)) m x) u

-- ---- strides of 1
last-is : (s : ℤ) (n m : ℕ) → InSlice m (line s (pos 1) (n - 1)) → (a : ℕ) → pos a ≡ s → 0 < n → a + n ≤ m
last-is s n m i a e h =
    let j : (pos (a + 1 * (n - 1))) <ℤ pos m = subst (λ (x : ℤ). line x (pos 1) (n - 1) <ℤ pos m) (sym e) i.1 in
    omega (arith, <-to (pos (a + 1 * (n - 1))) (pos m) j)

-- a slice's part from the place on
pub record Part (s : ℤ) (n m : ℕ) : Type 0 where
  pub is : pos (nat_abs (read s)) ≡ s
  pub cast : T (non_neg (read s)) × Fits w64 (nat_abs (read s))
  pub room : nat_abs (read s) + n ≤ m

pub part_of : (s : ℤ) (n m : ℕ) → Line s (pos 1) n m → 0 < n → m < 2 ^ 63 → Part s n m
part_of s n m l h r =
    let x : Index s m = index s m (subst (InSlice m) (line-zero s (pos 1)) (l.inside 0 h)) r in
    record { is = x.is; cast = x.cast; room = last-is s n m (l.inside (n - 1) (omega arith)) (nat_abs (read s)) x.is h }

-- what the parts hold is what the run leaves
pub part-run : {A : Type 0} (z : A) (rule : A → A → A) (src xs ys : List A) (s d : ℤ) (a b n p q : ℕ) → p ≡ n → q ≡ n → pos a ≡ s → pos b ≡ d → b + n ≤ length xs
    → ys ≡ in_order (cell_at z rule (take p (drop a src)) pos pos) (length (take q (drop b xs))) (take q (drop b xs))
    → take b xs ++ (ys ++ drop q (drop b xs)) ≡ in_order (cell_at z rule src (line s (pos 1)) (line d (pos 1))) n xs
part-run {A = A} z rule src xs ys s d a b n p q ep eq es ed h e =
    ap (λ (y : List A). take b xs ++ (y ++ drop q (drop b xs))) e
    ∙ ap₂ (λ (p q : ℕ). take b xs ++ (in_order (cell_at z rule (take p (drop a src)) pos pos) (length (take q (drop b xs))) (take q (drop b xs)) ++ drop q (drop b xs))) ep eq
    ∙ ap (λ (m : ℕ). take b xs ++ (in_order (cell_at z rule (take n (drop a src)) pos pos) m (take n (drop b xs)) ++ drop n (drop b xs))) (length-take-le n (drop b xs) (omega (arith, length-drop b xs)))
    ∙ on-parts z rule src xs a b n h
    ∙ ap₂ (λ (u v : ℤ). in_order (cell_at z rule src (line u (pos 1)) (line v (pos 1))) n xs) es ed

-- where the machine has found both strides to be 1
module _ (ss ds : ℤ) (fss : SFits w64 ss) (fds : SFits w64 ds) (es : of_z w64 ss ≡ 1) (ed : of_z w64 ds ≡ 1) where
  one-source : ss ≡ pos 1
  one-source = same_bits {w = w64} fss (sfits_lit {z = pos 1} tt) es

  one-dest : ds ≡ pos 1
  one-dest = same_bits {w = w64} fds (sfits_lit {z = pos 1} tt) ed

  pub row-asks : (s d : ℤ) (n sn dn : ℕ) → SFits w64 s → SFits w64 d → (n ≡ 0 → ⊥) → Run s d ss ds n sn dn → (0 < n) × Run (read s) (read d) (pos 1) (pos 1) n sn dn
  row-asks s d n sn dn fs fd h r = (omega (arith, h), simp (back fs, back fd) (subst (λ (x : ℤ). Run s d x (pos 1) n sn dn) one-source (subst (λ (x : ℤ). Run s d ss x n sn dn) one-dest r)))

  pub row-end : {A : Type 0} (z : A) (rule : A → A → A) (src : List A) (s d : ℤ) (n : ℕ) (x y : List A) → SFits w64 s → SFits w64 d → y ≡ in_order (cell_at z rule src (line (read s) (pos 1)) (line (read d) (pos 1))) n x
      → y ≡ in_order (cell_at z rule src (line s ss) (line d ds)) n x
  row-end z rule src s d n x y fs fd h =
      h
      ∙ ap₂ (λ (a b : ℤ). in_order (cell_at z rule src (line a (pos 1)) (line b (pos 1))) n x) (back fs) (back fd)
      ∙ ap₂ (λ (a b : ℤ). in_order (cell_at z rule src (line s a) (line d b)) n x) (sym one-source) (sym one-dest)

  pub rows-ask : (s d st dt : ℤ) (n m sn dn : ℕ) → SFits w64 s → SFits w64 d → SFits w64 st → SFits w64 dt → Plane s d ss ds st dt n m sn dn → Plane (read s) (read d) (pos 1) (pos 1) (read st) (read dt) n m sn dn
  rows-ask s d st dt n m sn dn fs fd fst fdt p =
      simp (back fs, back fd, back fst, back fdt) (subst (λ (x : ℤ). Plane s d x (pos 1) st dt n m sn dn) one-source (subst (λ (x : ℤ). Plane s d ss x st dt n m sn dn) one-dest p))

  pub rows_end : {A : Type 0} (z : A) (rule : A → A → A) (src : List A) (s d st dt : ℤ) (n m : ℕ) (x y : List A) → SFits w64 s → SFits w64 d → SFits w64 st → SFits w64 dt
      → y ≡ in_order (run_at z rule src (read s) (read d) (pos 1) (pos 1) (read st) (read dt) n) m x → y ≡ in_order (run_at z rule src s d ss ds st dt n) m x
  rows_end z rule src s d st dt n m x y fs fd fst fdt h =
      h
      ∙ ap₂ (λ (a b : ℤ). in_order (run_at z rule src a b (pos 1) (pos 1) (read st) (read dt) n) m x) (back fs) (back fd)
      ∙ ap₂ (λ (a b : ℤ). in_order (run_at z rule src s d (pos 1) (pos 1) a b n) m x) (back fst) (back fdt)
      ∙ ap₂ (λ (a b : ℤ). in_order (run_at z rule src s d a b st dt n) m x) (sym one-source) (sym one-dest)

-- ---- runs, one after the other

-- the first places of the runs
firsts : (s ss st : ℤ) (n m len : ℕ) → 0 < n → m ≤ 2 ^ 63 → ((j : ℕ) → j < m → Line (line s st j) ss n len) → Line s st m len
firsts s ss st n m len p q l = record { few = q; inside = λ j h. subst (InSlice len) (line-zero (line s st j) ss) ((l j h).inside 0 p) }

-- what the machine computes of one side at run j
pub record Move (s ss st : ℤ) (n len j : ℕ) : Type 0 where
  pub step : Step s st j len
  pub run : Line (machine s st j) (read ss) n len

module _ (s d ss ds st dt : ℤ) (n m sn dn : ℕ) (p : Plane s d ss ds st dt n m sn dn) (j : ℕ) (h : j < m) where
  move : (s ss st : ℤ) (len : ℕ) → SFits w64 s → SFits w64 ss → SFits w64 st → len < 2 ^ 63 → ((j : ℕ) → j < m → Line (line s st j) ss n len) → Move s ss st n len j
  move s ss st len fs fss fst r l =
      let x : Step s st j len = step s st m len fs fst (firsts s ss st n m len p.some p.few l) r j h in
      record { step = x; run = subst (λ (z : ℤ). Line z (read ss) n len) (sym x.is) (subst (λ (z : ℤ). Line (line s st j) z n len) (sym (back fss)) (l j h)) }

  pub move-source : SFits w64 s → SFits w64 ss → SFits w64 st → sn < 2 ^ 63 → Move s ss st n sn j
  move-source fs fss fst r = move s ss st sn fs fss fst r (λ i l. (p.runs i l).source)

  pub move-dest : SFits w64 d → SFits w64 ds → SFits w64 dt → dn < 2 ^ 63 → Move d ds dt n dn j
  move-dest fd fds fdt r = move d ds dt dn fd fds fdt r (λ i l. (p.runs i l).dest)

module _ {A : Type 0} (z : A) (rule : A → A → A) (src : List A) (s d ss ds st dt : ℤ) (n : ℕ) where
  -- a turn of the loop: run j is made
  pub runs-more : (j sn dn : ℕ) (x y t : List A) → y ≡ in_order (run_at z rule src (read s) (read d) (read ss) (read ds) (read st) (read dt) n) j x → Move s ss st n sn j → Move d ds dt n dn j
      → t ≡ in_order (cell_at z rule src (line (machine s st j) (read ss)) (line (machine d dt j) (read ds))) n y → t ≡ in_order (run_at z rule src (read s) (read d) (read ss) (read ds) (read st) (read dt) n) (j + 1) x
  runs-more j sn dn x y t e p q h =
      more (run_at z rule src (read s) (read d) (read ss) (read ds) (read st) (read dt) n) j x y t e
      (h ∙ ap₂ (λ (u v : ℤ). in_order (cell_at z rule src (line u (read ss)) (line v (read ds))) n y) p.step.read_is q.step.read_is)

  pub runs-end : (j m : ℕ) (x y : List A) → SFits w64 s → SFits w64 d → SFits w64 ss → SFits w64 ds → SFits w64 st → SFits w64 dt → j ≡ m
      → y ≡ in_order (run_at z rule src (read s) (read d) (read ss) (read ds) (read st) (read dt) n) j x
      → y ≡ in_order (run_at z rule src s d ss ds st dt n) m x
  runs-end j m x y f1 f2 f3 f4 f5 f6 e h =
      h
      ∙ ap₂ (λ (a b : ℤ). in_order (run_at z rule src a b (read ss) (read ds) (read st) (read dt) n) j x) (back f1) (back f2)
      ∙ ap₂ (λ (a b : ℤ). in_order (run_at z rule src s d a b (read st) (read dt) n) j x) (back f3) (back f4)
      ∙ ap₂ (λ (a b : ℤ). in_order (run_at z rule src s d ss ds a b n) j x) (back f5) (back f6)
      ∙ ap (λ (k : ℕ). in_order (run_at z rule src s d ss ds st dt n) k x) e

-- ---- one run is a plane of one row
pub one-plane : (s d ss ds st dt : ℤ) (n sn dn : ℕ) → 0 < n → Run s d ss ds n sn dn → Plane s d ss ds st dt n 1 sn dn
one-plane s d ss ds st dt n sn dn h r =
    record {
      some = h;
      few = omega arith;
      runs = λ j k. subst (λ (i : ℕ). Run (line s st i) (line d dt i) ss ds n sn dn) (omega arith)
          (subst (λ (x : ℤ). Run x (line d dt 0) ss ds n sn dn) (sym (line-zero s st)) (subst (λ (x : ℤ). Run s x ss ds n sn dn) (sym (line-zero d dt)) r));
    }

pub one-row : {A : Type 0} (z : A) (rule : A → A → A) (src : List A) (s d ss ds st dt : ℤ) (n : ℕ) (x : List A) → in_order (run_at z rule src s d ss ds st dt n) 1 x ≡ in_order (cell_at z rule src (line s ss) (line d ds)) n x
one-row z rule src s d ss ds st dt n x =
    unfold in_order in ap₂ (λ (a b : ℤ). in_order (cell_at z rule src (line a ss) (line b ds)) n x) (line-zero s st) (line-zero d dt)
