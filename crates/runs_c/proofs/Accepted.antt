-- What is accepted meets what the runs and windows ask. Assumes nothing.
use mathlib.Core.Path.{◌≡◌, refl, sym, ap, ap₂, ◌∙◌}
use mathlib.Core.Bool.{Bool, true, false, cond, not, ◌&&◌}
use mathlib.Core.List.{List, [], ◌∷◌}
use Prim.Native.Nat.{ℕ, zero, suc, ◌+◌, ◌<◌, ◌≤◌, ◌^◌}
use native.Mathlib.Numerals.{add-one}
use native.Mathlib.Omega.{arith}
use borrow.Author.Tests.{leb-true, lt-leb, le-leb, not-true}
use lib.Dec.{leb}
use lib.ListN.{length, get_or, take, drop, replicate, drop_of_length-le}
use lib.Seq.{drop-cons, get_or-take, length-take-le}
use lib.IntN.{ℤ, pos}
use mir.Syntax.{w64}
use mir.Val.{SFits}
use Rattle.integer.specs.Tests.{and-true}
use Rattle.integer.specs.Z.{back}
use Rattle.indexing.specs.Odometer.{AllPos}
use Rattle.indexing.specs.Loops.{in_order}
use Rattle.layout.specs.Laws.{some-cells}
use Rattle.layout.specs.Layouts.{rank_limit}
use Rattle.layout.specs.Nested.{has_zero}
use Rattle.runs.specs.Runs.{cell_at, line, Run, Plane}
use Rattle.runs.proofs.Runs.{one-plane}
use Rattle.runs.proofs.Place.{read}
use Rattle.windows.specs.Windows.{windowed, Window, Units, Level}
use Rattle.windows.proofs.Levels.{region-line}
use Rattle.windows.proofs.Reached.{reached}
use Rattle.runs_c.specs.Bench.{all_few, covers, accepted, Ran}

-- ---- the loop over the extents, by what is left
module _ (xs : List ℕ) (n i : ℕ) (room : n ≤ length xs) where
  few-turn : i < n → all_few (drop i (take n xs)) ≡ (leb (get_or xs i 0) (2 ^ 63) && all_few (drop (i + 1) (take n xs)))
  unfolding all_few
  few-turn h =
      let l : i < length (take n xs) = omega (arith, length-take-le n xs room) in
      ap all_few (drop-cons (take n xs) i 0 l)
      ∙ ap₂ (λ (d j : ℕ). leb d (2 ^ 63) && all_few (drop j (take n xs))) (get_or-take n xs i 0 h) (sym (add-one i))

  pub few-stops : i < n → 2 ^ 63 < get_or xs i 0 → false ≡ all_few (drop i (take n xs))
  few-stops h g = sym (few-turn h ∙ ap (λ (t : Bool). t && all_few (drop (i + 1) (take n xs))) (lt-leb (get_or xs i 0) (2 ^ 63) g))

  pub few-goes : i < n → get_or xs i 0 ≤ 2 ^ 63 → all_few (drop (i + 1) (take n xs)) ≡ all_few (drop i (take n xs))
  few-goes h g = sym (few-turn h ∙ ap (λ (t : Bool). t && all_few (drop (i + 1) (take n xs))) (le-leb (get_or xs i 0) (2 ^ 63) g))

  pub few-ends : n ≤ i → true ≡ all_few (drop i (take n xs))
  unfolding all_few
  few-ends h = sym (ap all_few (drop_of_length-le (take n xs) {i = i} (omega (arith, length-take-le n xs room))))

-- ---- what the tests say
few-each : (n : ℕ) (xs : List ℕ) → all_few (take n xs) ≡ true → n ≤ length xs → (i : ℕ) → i < n → get_or xs i 0 ≤ 2 ^ 63
unfolding all_few
few-each zero xs e l i h = absurd (omega arith)
few-each (suc n) [] e l i h = absurd (omega arith)
few-each (suc n) (d ∷ ds) e l zero h = leb-true d (2 ^ 63) (and-true (leb d (2 ^ 63)) (all_few (take n ds)) e).0
few-each (suc n) (d ∷ ds) e l (suc i) h = few-each n ds (and-true (leb d (2 ^ 63)) (all_few (take n ds)) e).1 (omega arith) i (omega arith)

-- the answers, in the order of the tests
module _ (rank : ℕ) (shape : List ℕ) (ss ds : List ℤ) (s d : ℤ) (sn dn : ℕ) where
  pub none-no : rank ≡ 0 → false ≡ accepted rank shape ss ds s d sn dn
  unfolding accepted
  none-no e = rw (lt-leb 1 rank (omega arith))

  -- where there are axes
  module _ (some : rank ≡ 0 → ⊥) where
    any : leb 1 rank ≡ true
    any = le-leb 1 rank (omega (arith, some))

    pub rank-no : rank_limit < rank → false ≡ accepted rank shape ss ds s d sn dn
    unfolding accepted
    rank-no h = rw (any, lt-leb rank rank_limit h)

    pub zero-no : rank ≤ rank_limit → has_zero (take rank shape) ≡ true → false ≡ accepted rank shape ss ds s d sn dn
    unfolding accepted
    zero-no h z = rw (any, le-leb rank rank_limit h, z)

    -- and cells
    module _ (h : rank ≤ rank_limit) (z : has_zero (take rank shape) ≡ false) where
      pub few-no : all_few (take rank shape) ≡ false → false ≡ accepted rank shape ss ds s d sn dn
      unfolding accepted
      few-no e = rw (any, le-leb rank rank_limit h, z, e)

      pub source-no : all_few (take rank shape) ≡ true → covers (take rank shape) (take rank ss) s sn ≡ false → false ≡ accepted rank shape ss ds s d sn dn
      unfolding accepted
      source-no e f = rw (any, le-leb rank rank_limit h, z, e, f)

      pub source-yes : all_few (take rank shape) ≡ true → covers (take rank shape) (take rank ss) s sn ≡ true → covers (take rank shape) (take rank ds) d dn ≡ accepted rank shape ss ds s d sn dn
      unfolding accepted
      source-yes e f = rw (any, le-leb rank rank_limit h, z, e, f)

  module _ (lh : length shape ≡ rank_limit) (ls : length ss ≡ rank_limit) (ld : length ds ≡ rank_limit) (e : accepted rank shape ss ds s d sn dn ≡ true) where
    ranked : (leb rank rank_limit && (not (has_zero (take rank shape)) && (all_few (take rank shape) && (covers (take rank shape) (take rank ss) s sn && covers (take rank shape) (take rank ds) d dn)))) ≡ true
    unfolding accepted
    ranked = (and-true (leb 1 rank) _ e).1

    pub accepted-some : 0 < rank
    unfolding accepted
    accepted-some = leb-true 1 rank (and-true (leb 1 rank) _ e).0

    pub accepted-cells : AllPos (take rank shape)
    accepted-cells = some-cells (take rank shape) (not-true _ (and-true (not (has_zero (take rank shape))) _ (and-true (leb rank rank_limit) _ ranked).1).0)

    pub accepted-window : Window s d shape ss ds rank sn dn
    unfolding covers
    accepted-window =
        let h : rank ≤ rank_limit = leb-true rank rank_limit (and-true (leb rank rank_limit) _ ranked).0 in
        let e₁ = (and-true (not (has_zero (take rank shape))) _ (and-true (leb rank rank_limit) _ ranked).1).1 in
        let e₂ = (and-true (all_few (take rank shape)) _ e₁).1 in
        let f : (i : ℕ) → i < rank → get_or shape i 0 ≤ 2 ^ 63 = few-each rank shape (and-true (all_few (take rank shape)) _ e₁).0 (omega arith) in
        record {
          small = h;
          source = reached s shape ss rank sn 0 (omega arith) (omega arith) f (and-true (covers (take rank shape) (take rank ss) s sn) _ e₂).0;
          dest = reached d shape ds rank dn 0 (omega arith) (omega arith) f (and-true (covers (take rank shape) (take rank ss) s sn) _ e₂).1;
        }

    pub accepted-level : (low : ℕ) → low < rank → Units low shape → SFits w64 s → SFits w64 d → Level (read s) (read d) shape ss ds low rank sn dn
    accepted-level low h u fs fd = simp (back fs, back fd) (record { below = h; units = u; positive = accepted-cells; window = accepted-window })

-- one axis is a run, and a plane of one row
accepted-run : (n : ℕ) (ss ds s d : ℤ) (sn dn : ℕ) → accepted 1 (replicate rank_limit n) (replicate rank_limit ss) (replicate rank_limit ds) s d sn dn ≡ true → Run s d ss ds n sn dn
accepted-run n ss ds s d sn dn e =
    let w = accepted-window 1 (replicate rank_limit n) (replicate rank_limit ss) (replicate rank_limit ds) s d sn dn refl refl refl e in
    record {
      source = region-line s (replicate rank_limit n) (replicate rank_limit ss) 0 sn w.source (λ i h. absurd (omega arith));
      dest = region-line d (replicate rank_limit n) (replicate rank_limit ds) 0 dn w.dest (λ i h. absurd (omega arith));
    }

pub accepted-plane : (n : ℕ) (ss ds s d : ℤ) (sn dn : ℕ) → accepted 1 (replicate rank_limit n) (replicate rank_limit ss) (replicate rank_limit ds) s d sn dn ≡ true → Plane s d ss ds (pos 0) (pos 0) n 1 sn dn
unfolding AllPos
accepted-plane n ss ds s d sn dn e =
    one-plane s d ss ds (pos 0) (pos 0) n sn dn (accepted-cells 1 (replicate rank_limit n) (replicate rank_limit ss) (replicate rank_limit ds) s d sn dn refl refl refl e).0 (accepted-run n ss ds s d sn dn e)

-- ---- what is handed back
module _ {A : Type 0} (test : Bool) (turn : ℕ → List A → List A) (times : ℕ) (x : List A) where
  pub refused : test ≡ false → Ran false test turn times x x
  refused e = record { is = sym e; leaves = sym (ap (λ (t : Bool). cond t (in_order turn times x) x) e) }

  pub ran : (y : List A) (k : ℕ) → test ≡ true → k ≡ times → y ≡ in_order turn k x → Ran true test turn times x y
  ran y k e f h = record { is = sym e; leaves = h ∙ ap (λ (m : ℕ). in_order turn m x) f ∙ sym (ap (λ (t : Bool). cond t (in_order turn times x) x) e) }

-- the same turns by the parameters themselves
module _ {A : Type 0} (z : A) (rule : A → A → A) (src : List A) (s d : ℤ) (fs : SFits w64 s) (fd : SFits w64 d) (i : ℕ) (x y : List A) where
  pub runs_by : (ss ds : ℤ) (n : ℕ) → SFits w64 ss → SFits w64 ds → y ≡ in_order (λ _ x. in_order (cell_at z rule src (line (read s) (read ss)) (line (read d) (read ds))) n x) i x
      → y ≡ in_order (λ _ x. in_order (cell_at z rule src (line s ss) (line d ds)) n x) i x
  runs_by ss ds n fss fds h =
      h
      ∙ ap₂ (λ (a b : ℤ). in_order (λ _ x. in_order (cell_at z rule src (line a (read ss)) (line b (read ds))) n x) i x) (back fs) (back fd)
      ∙ ap₂ (λ (a b : ℤ). in_order (λ _ x. in_order (cell_at z rule src (line s a) (line d b)) n x) i x) (back fss) (back fds)

  pub windows-by : (shape : List ℕ) (ss ds : List ℤ) (rank : ℕ) → y ≡ in_order (λ _ x. windowed z rule src (read s) (read d) shape ss ds rank x) i x
      → y ≡ in_order (λ _ x. windowed z rule src s d shape ss ds rank x) i x
  windows-by shape ss ds rank h =
      h ∙ ap₂ (λ (a b : ℤ). in_order (λ _ x. windowed z rule src a b shape ss ds rank x) i x) (back fs) (back fd)

-- the test of numbers read back
pub read_back : (rank : ℕ) (shape : List ℕ) (ss ds : List ℤ) (s d : ℤ) (sn dn : ℕ) → SFits w64 s → SFits w64 d → accepted rank shape ss ds (read s) (read d) sn dn ≡ accepted rank shape ss ds s d sn dn
read_back rank shape ss ds s d sn dn fs fd = ap₂ (λ (a b : ℤ). accepted rank shape ss ds a b sn dn) (back fs) (back fd)

pub reads-back : (n : ℕ) (s d ss ds : ℤ) (sn dn : ℕ) → SFits w64 s → SFits w64 d → SFits w64 ss → SFits w64 ds
    → accepted 1 (replicate rank_limit n) (replicate rank_limit (read ss)) (replicate rank_limit (read ds)) (read s) (read d) sn dn ≡ accepted 1 (replicate rank_limit n) (replicate rank_limit ss) (replicate rank_limit ds) s d sn dn
reads-back n s d ss ds sn dn fs fd fss fds =
    ap₂ (λ (a b : ℤ). accepted 1 (replicate rank_limit n) (replicate rank_limit a) (replicate rank_limit b) (read s) (read d) sn dn) (back fss) (back fds)
    ∙ ap₂ (λ (a b : ℤ). accepted 1 (replicate rank_limit n) (replicate rank_limit ss) (replicate rank_limit ds) a b sn dn) (back fs) (back fd)
