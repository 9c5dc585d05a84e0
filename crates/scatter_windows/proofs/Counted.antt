-- How many batches have a start that the clamp moves: those below the places of their last axis, added up. Over any flag of a batch's place, and any rank. Assumes nothing.
use mathlib.Core.Path.{◌≡◌, sym, ap, ap₂, ◌∙◌}
use mathlib.Core.Bool.{Bool, cond}
use mathlib.Core.List.{List}
use Prim.Native.Nat.{ℕ, suc, ◌+◌, ◌*◌, ◌<◌, ◌≤◌}
use native.Mathlib.Nat.{mul-suc, mul-le-mul_left}
use native.Mathlib.Omega.{arith}
use lib.ListN.{length, get_or, take}
use lib.IntN.{ℤ, pos}
use mir.Syntax.{w64}
use mir.Val.{SFits}
use Rattle.integer.specs.Z.{back}
use Rattle.indexing.specs.Coordinates.{product}
use Rattle.indexing.specs.Odometer.{AllPos}
use Rattle.indexing.specs.Slid.{how_many}
use Rattle.indexing.specs.Counting.{one_none, many-false, many-same, many-part, many_below}
use Rattle.runs.specs.Runs.{line}
use Rattle.runs.proofs.Place.{read, machine, Step, line-zero}
use Rattle.windows.specs.Windows.{place_at, Units}
use Rattle.windows.proofs.Last.{product-top, place-top, place-first, units-product, units-place}
use Rattle.indexed_runs.specs.IndexedRuns.{start_moved, starts_moved}

-- starts without components are not moved
pub none-moved : (starts offsets : List ℤ) (limits : List ℕ) (count n : ℕ) (at : ℕ → ℤ) → count ≡ 0 → 0 ≡ starts_moved starts offsets limits count n at
none-moved starts offsets limits count n at e =
    many-false n (λ k. start_moved starts offsets limits (at k) count) (λ k h. ap (λ (c : ℕ). start_moved starts offsets limits (at k) c) e ∙ sym (one_none _))

-- what is added at a place of the last axis fits where all batches do
pub parts_below : (m j n : ℕ) (p q : ℕ → Bool) (c d : ℕ) → j < n → c ≡ how_many (m * j) p → d ≡ how_many m q → c + d ≤ m * n
parts_below m j n p q c d h ec ed = omega (arith, many_below (m * j) p, many_below m q, ec, ed, mul-le-mul_left {m = suc j} {n = n} m h, mul-suc m j)

module _ (p : ℤ → Bool) (shape : List ℕ) (ts : List ℤ) where
  -- of the batches from t
  abbrev pub counted : ℤ → ℕ → ℕ
  counted t rank = how_many (product (take rank shape)) (λ k. p (place_at t shape ts rank k))

  -- the parameter read back
  pub counted_back : (t : ℤ) (rank c : ℕ) → SFits w64 t → c ≡ counted (read t) rank → c ≡ counted t rank
  counted_back t rank c ft h = h ∙ ap (λ (x : ℤ). counted x rank) (back ft)

  -- the one batch of no axes
  pub counted-one : (t : ℤ) (rank c : ℕ) → SFits w64 t → rank ≡ 0 → c ≡ how_many 1 (λ k. p (line (read t) (pos 0) k)) → c ≡ counted t rank
  unfolding product how_many
  counted-one t rank c ft e h =
      h
      ∙ ap (λ (x : ℤ). 0 + cond (p x) 1 0) (line-zero (read t) (pos 0) ∙ back ft ∙ sym (place-first t shape ts 0))
      ∙ ap (λ (r : ℕ). counted t r) (sym e)

  -- ---- as the machine has it: `top` for `rank - 1`
  module _ (t : ℤ) (rank top : ℕ) (e : rank ≡ suc top) (room : top < length shape) (same : top < length ts) (ft : SFits w64 t) where
    -- the axes before the last have one place each: a run
    pub counted-run : (c : ℕ) → SFits w64 (get_or ts top (pos 0)) → Units top shape → c ≡ how_many (get_or shape top 0) (λ k. p (line (read t) (read (get_or ts top (pos 0))) k)) → c ≡ counted t rank
    counted-run c fa u h =
        h
        ∙ many-same (get_or shape top 0) (λ k. p (line (read t) (read (get_or ts top (pos 0))) k)) (λ k. p (place_at t shape ts (suc top) k))
        (λ k l. ap p (ap₂ (λ (x y : ℤ). line x y k) (back ft) (back fa) ∙ sym (units-place t top shape ts k room same u l)))
        ∙ ap (λ (n : ℕ). how_many n (λ k. p (place_at t shape ts (suc top) k))) (sym (units-product top shape room u))
        ∙ ap (λ (r : ℕ). counted t r) (sym e)

    -- one place of the last axis more
    pub counted-more : AllPos (take top shape) → (j m c d : ℕ) → j < get_or shape top 0 → Step t (get_or ts top (pos 0)) j m
        → c ≡ how_many (product (take top shape) * j) (λ k. p (place_at (read t) shape ts rank k)) → d ≡ counted (machine t (get_or ts top (pos 0)) j) top
        → c + d ≡ how_many (product (take top shape) * (j + 1)) (λ k. p (place_at (read t) shape ts rank k))
    counted-more w j m c d h q ec ed =
        many-part (product (take top shape)) j (λ k. p (place_at (read t) shape ts rank k)) c d ec
        (ed
        ∙ many-same (product (take top shape)) (λ k. p (place_at (machine t (get_or ts top (pos 0)) j) shape ts top k)) (λ k. p (place_at (read t) shape ts rank (k + product (take top shape) * j)))
        (λ k l. ap p (ap (λ (x : ℤ). place_at x shape ts top k) q.is
        ∙ sym (place-top shape top room t ts same w k j l h)
        ∙ ap₂ (λ (x : ℤ) (r : ℕ). place_at x shape ts r (k + product (take top shape) * j)) (sym (back ft)) (sym e))))

    -- all of them
    pub counted-end : (j c : ℕ) → j ≡ get_or shape top 0 → c ≡ how_many (product (take top shape) * j) (λ k. p (place_at (read t) shape ts rank k)) → c ≡ counted t rank
    counted-end j c g h =
        h
        ∙ ap₂ (λ (n : ℕ) (x : ℤ). how_many n (λ k. p (place_at x shape ts rank k)))
        (ap (λ (i : ℕ). product (take top shape) * i) g ∙ sym (product-top shape top room) ∙ ap (λ (r : ℕ). product (take r shape)) (sym e)) (back ft)
