-- How many starts are moved, as the machine counts them. Assumes nothing.
use mathlib.Core.Path.{◌≡◌, refl, sym, ap, ap₂, ◌∙◌}
use mathlib.Core.Bool.{Bool, true, false, cond, ◌&&◌}
use mathlib.Core.List.{List}
use Prim.Native.Nat.{ℕ, ◌+◌, ◌-◌, ◌≤◌}
use native.Mathlib.Omega.{arith}
use lib.ListN.{get_or}
use lib.IntN.{ℤ, pos, nat_abs}
use mir.Syntax.{w64}
use mir.Val.{SFits}
use Rattle.integer.specs.Z.{back}
use Rattle.indexing.specs.Coordinates.{element_at}
use Rattle.indexing.specs.Slid.{moved, how_many}
use Rattle.indexing.specs.Counting.{many-none, many_more, many_below, bit_below, many-on, many-false}
use Rattle.runs.specs.Runs.{line}
use Rattle.runs.proofs.Place.{read, machine, Step}
use Rattle.indexed_runs.specs.IndexedRuns.{start_moved, starts_moved, moves_at}

-- ---- what is added fits: no more are counted than there are
pub one_below : (i : ℕ) (p : ℕ → Bool) (c o : ℕ) (b : Bool) → c ≡ how_many i p → o ≡ cond b 1 0 → c + o ≤ i + 1
one_below i p c o b ec eo = omega (arith, many_below i p, bit_below b, ec, eo)

pub few-below : (a b : ℕ) (p q : ℕ → Bool) (c d : ℕ) → a ≤ b → c ≡ how_many a p → d ≡ how_many (b - a) q → c + d ≤ b
few-below a b p q c d h ec ed = omega (arith, many_below a p, many_below (b - a) q, ec, ed)

-- ---- all are counted, or none
pub one-counts : (a b : Bool) (o p : ℕ) → o ≡ cond b 1 0 → p ≡ cond a o 0 → p ≡ cond (a && b) 1 0
one-counts true b o p eo ep = ep ∙ eo
one-counts false b o p eo ep = ep

pub all-or-none : (a : Bool) (n : ℕ) (p : ℕ → Bool) → how_many n (λ k. a && p k) ≡ cond a (how_many n p) 0
all-or-none true n p = refl
all-or-none false n p = sym (many-false n (λ k. false) (λ k _. refl))

pub none-counts : (a : Bool) (n : ℕ) → 0 ≡ n → 0 ≡ cond a n 0
none-counts true n e = e
none-counts false n e = refl

pub so-counted : (a b : Bool) (m n c : ℕ) → a ≡ b → m ≡ n → c ≡ cond b m 0 → c ≡ cond a n 0
so-counted a b m n c e f h = h ∙ ap₂ (λ (t : Bool) (k : ℕ). cond t k 0) (sym e) f

-- ---- one more of those from a on, and those from 0 on
pub many-turn : (a i : ℕ) (p : ℕ → Bool) (c o : ℕ) → a ≤ i → c ≡ how_many (i - a) (λ k. p (k + a)) → o ≡ cond (p i) 1 0 → c + o ≡ how_many (i + 1 - a) (λ k. p (k + a))
many-turn a i p c o h ec eo =
    let e : i - a + a ≡ i = omega arith in
    let f : i - a + 1 ≡ i + 1 - a = omega arith in
    many_more (i - a) (λ k. p (k + a)) c o (p i) ec eo (ap p (sym e)) ∙ ap (λ (m : ℕ). how_many m (λ k. p (k + a))) f

pub many-first : (b : ℕ) (p : ℕ → Bool) (d : ℕ) → d ≡ how_many (b - 0) (λ k. p (k + 0)) → d ≡ how_many b p
many-first b p d e =
    let f : d ≡ 0 + d = omega arith in
    f ∙ many-on 0 b p 0 d (omega arith) (many-none 0 p (omega arith)) e

-- ---- a start that is read along a line
pub moves-is : (starts : List ℤ) (t ts : ℤ) (limit i tn : ℕ) → Step t ts i tn → SFits w64 (get_or starts (nat_abs (machine t ts i)) (pos 0)) → (b : Bool)
    → b ≡ moved (read (get_or starts (nat_abs (machine t ts i)) (pos 0))) limit 0 → b ≡ moves_at starts (line (read t) (read ts)) limit i
moves-is starts t ts limit i tn p f b e = e ∙ ap (λ (x : ℤ). moved x limit 0) (back f) ∙ ap (λ (z : ℤ). moved (element_at (pos 0) starts z) limit 0) p.index_is

pub started-is : (starts offsets : List ℤ) (limits : List ℕ) (count : ℕ) (t ts : ℤ) (i tn : ℕ) → Step t ts i tn → (b : Bool)
    → b ≡ start_moved starts offsets limits (machine t ts i) count → b ≡ start_moved starts offsets limits (line (read t) (read ts) i) count
started-is starts offsets limits count t ts i tn q b e = e ∙ ap (λ (v : ℤ). start_moved starts offsets limits v count) q.read_is

-- ---- the end: the places by the parameters themselves
module _ (starts : List ℤ) (t ts : ℤ) (i n c : ℕ) (ft : SFits w64 t) (fts : SFits w64 ts) (e : i ≡ n) where
  pub moves-end : (limit : ℕ) → c ≡ how_many i (moves_at starts (line (read t) (read ts)) limit) → c ≡ how_many n (moves_at starts (line t ts) limit)
  moves-end limit h = h ∙ ap₂ (λ (u v : ℤ). how_many i (moves_at starts (line u v) limit)) (back ft) (back fts) ∙ ap (λ (m : ℕ). how_many m (moves_at starts (line t ts) limit)) e

  pub starts-end : (offsets : List ℤ) (limits : List ℕ) (count : ℕ) → c ≡ starts_moved starts offsets limits count i (line (read t) (read ts)) → c ≡ starts_moved starts offsets limits count n (line t ts)
  starts-end offsets limits count h =
      h ∙ ap₂ (λ (u v : ℤ). starts_moved starts offsets limits count i (line u v)) (back ft) (back fts) ∙ ap (λ (m : ℕ). starts_moved starts offsets limits count m (line t ts)) e

-- of ones
pub ones-count : (starts : List ℤ) (limit : ℤ) (i n c : ℕ) → SFits w64 limit → i ≡ n → c ≡ how_many i (moves_at starts pos (nat_abs (read limit))) → c ≡ how_many n (moves_at starts pos (nat_abs limit))
ones-count starts limit i n c fl e h = h ∙ ap₂ (λ (v : ℤ) (m : ℕ). how_many m (moves_at starts pos (nat_abs v))) (back fl) e

pub few-count : (counts : Bool) (starts : List ℤ) (limit : ℤ) (a i n c : ℕ) → SFits w64 limit → i ≡ n → c ≡ how_many (i - a) (λ k. counts && moves_at starts pos (nat_abs (read limit)) (k + a)) → c ≡ how_many (n - a) (λ k. counts && moves_at starts pos (nat_abs limit) (k + a))
few-count counts starts limit a i n c fl e h = h ∙ ap₂ (λ (v : ℤ) (m : ℕ). how_many (m - a) (λ k. counts && moves_at starts pos (nat_abs v) (k + a))) (back fl) e
