-- What it is that merged axes meet the axes as they were given: the same offsets at every linear index on both sides, as many cells, the same spans. That two axes as one meet the two. For lists of any length; `proofs/Merging.antt` has the theorem. Assumes nothing.
use Rattle.std.specs.Prelude.{◌≡◌, refl, List, [], ◌∷◌, ℕ, zero, suc, ◌+◌, ◌*◌, ◌-◌, ◌/◌, ◌%◌, ◌<◌, ◌≤◌, length, ℤ, pos, negsuc, neg_ℤ, ◌+ℤ◌, ◌*ℤ◌, Some}
use Rattle.std.proofs.Common.{sym, ap, ap₂, ◌∙◌, mul-pos, mul-add, arith, SFits}
use Rattle.std.proofs.Math.IntN.{+ℤ_assoc, neg_ℤ-+ℤ}
use Rattle.std.specs.Int.{w64}
use Rattle.integer.specs.Z.{neg_ℤ-*ℤ}
use Rattle.indexing.specs.Coordinates.{product, unravel, dot}
use Rattle.indexing.specs.Odometer.{AllPos}
use Rattle.indexing.specs.Reach.{below_zero, above_zero, lowest, highest}
use Rattle.indexing.proofs.Reach.{below-neg, above-neg}
use Rattle.indexing.proofs.Fusion.{dot-fuse, product-fuse}
use Rattle.layout.specs.Layouts.{rank_limit, padded}
use Rattle.layout.specs.Spans.{spanned}
use Rattle.replay.specs.declared.WindowReplayAxis.{WindowReplayAxis}
use Rattle.replay.specs.Replays.{no_axis, the_spans, done_replay, compiled_replay, extents, sources, dests}

-- ---- one side: the offsets and the spans of steps zs over extents es are those of strides ss over extents ds
pub record Side (ds : List ℕ) (ss : List ℤ) (es : List ℕ) (zs : List ℤ) : Type 0 where
  pub offset : (k : ℕ) → dot zs (unravel es k) ≡ dot ss (unravel ds k)
  pub low : AllPos ds → lowest zs es ≡ lowest ss ds
  pub high : AllPos ds → highest zs es ≡ highest ss ds

pub side_same : (ds : List ℕ) (ss : List ℤ) → Side ds ss ds ss
side_same ds ss = record { offset = λ k. refl; low = λ p. refl; high = λ p. refl }

pub side-cons : (d : ℕ) (s : ℤ) (ds : List ℕ) (ss : List ℤ) (es : List ℕ) (zs : List ℤ) → Side ds ss es zs → Side (d ∷ ds) (s ∷ ss) (d ∷ es) (s ∷ zs)
unfolding dot unravel lowest highest AllPos
side-cons d s ds ss es zs h = record {
  offset = λ k. ap (λ (x : ℤ). s *ℤ pos (k % d) +ℤ x) (h.offset (k / d));
  low = λ p. ap (λ (x : ℤ). below_zero (s *ℤ pos (d - 1)) +ℤ x) (h.low p.1);
  high = λ p. ap (λ (x : ℤ). above_zero (s *ℤ pos (d - 1)) +ℤ x) (h.high p.1);
}

-- the reach of two axes that are one
last_of : (p d : ℕ) → 0 < p → 0 < d → p * d - 1 ≡ (p - 1) + p * (d - 1)
last_of (suc p) (suc d) h k =
    let e : suc p * (d + 1) ≡ suc p * d + suc p * 1 = mul-add (suc p) d 1 in
    let f : suc p * suc d ≡ suc p * (d + 1) = ap (λ (n : ℕ). suc p * n) (omega arith) in
    let x : suc d - 1 ≡ d = omega arith in
    rw x (omega arith)
last_of zero d h k = absurd (omega arith)
last_of (suc p) zero h k = absurd (omega arith)

reach-sum : (a p d : ℕ) → 0 < p → 0 < d → a * (p - 1) + a * p * (d - 1) ≡ a * (p * d - 1)
reach-sum a p d h k =
    let e : a * (p * d - 1) ≡ a * ((p - 1) + p * (d - 1)) = ap (λ (n : ℕ). a * n) (last_of p d h k) in
    omega arith

neg-times : (a p d : ℕ) → negsuc a *ℤ pos p *ℤ pos d ≡ neg_ℤ (pos (suc a * p * d))
neg-times a p d = neg_ℤ-*ℤ (pos (suc a * p)) (pos d)

pub below-fuse : (s : ℤ) (p d : ℕ) → 0 < p → 0 < d → below_zero (s *ℤ pos (p - 1)) +ℤ below_zero (s *ℤ pos p *ℤ pos (d - 1)) ≡ below_zero (s *ℤ pos (p * d - 1))
below-fuse (pos a) p d h k = refl
below-fuse (negsuc a) p d h k =
    ap₂ ◌+ℤ◌ (below-neg (suc a * (p - 1))) (ap below_zero (neg-times a p (d - 1)) ∙ below-neg (suc a * p * (d - 1)))
    ∙ sym (neg_ℤ-+ℤ (pos (suc a * (p - 1))) (pos (suc a * p * (d - 1))))
    ∙ ap (λ (n : ℕ). neg_ℤ (pos n)) (reach-sum (suc a) p d h k)
    ∙ sym (below-neg (suc a * (p * d - 1)))

pub above-fuse : (s : ℤ) (p d : ℕ) → 0 < p → 0 < d → above_zero (s *ℤ pos (p - 1)) +ℤ above_zero (s *ℤ pos p *ℤ pos (d - 1)) ≡ above_zero (s *ℤ pos (p * d - 1))
above-fuse (pos a) p d h k = ap pos (reach-sum a p d h k)
above-fuse (negsuc a) p d h k =
    ap₂ ◌+ℤ◌ (above-neg (suc a * (p - 1))) (ap above_zero (neg-times a p (d - 1)) ∙ above-neg (suc a * p * (d - 1)))
    ∙ sym (above-neg (suc a * (p * d - 1)))

pub side-fuse : (p d : ℕ) (s t : ℤ) (ds : List ℕ) (ss : List ℤ) (es : List ℕ) (zs : List ℤ) → t ≡ s *ℤ pos p → Side (p * d ∷ ds) (s ∷ ss) es zs → Side (p ∷ d ∷ ds) (s ∷ t ∷ ss) es zs
unfolding lowest highest AllPos
side-fuse p d s t ds ss es zs e h = record {
  offset = λ k. h.offset k ∙ sym (dot-fuse s t ss p d ds k e);
  low = λ q. h.low (mul-pos q.0 q.1.0, q.1.1)
      ∙ ap (λ (x : ℤ). x +ℤ lowest ss ds) (sym (below-fuse s p d q.0 q.1.0) ∙ ap (λ (x : ℤ). below_zero (s *ℤ pos (p - 1)) +ℤ below_zero (x *ℤ pos (d - 1))) (sym e))
      ∙ +ℤ_assoc (below_zero (s *ℤ pos (p - 1))) (below_zero (t *ℤ pos (d - 1))) (lowest ss ds);
  high = λ q. h.high (mul-pos q.0 q.1.0, q.1.1)
      ∙ ap (λ (x : ℤ). x +ℤ highest ss ds) (sym (above-fuse s p d q.0 q.1.0) ∙ ap (λ (x : ℤ). above_zero (s *ℤ pos (p - 1)) +ℤ above_zero (x *ℤ pos (d - 1))) (sym e))
      ∙ +ℤ_assoc (above_zero (s *ℤ pos (p - 1))) (above_zero (t *ℤ pos (d - 1))) (highest ss ds);
}

-- ---- both sides
pub record IsReset (a : WindowReplayAxis) : Type 0 where
  pub source : a.source_reset ≡ neg_ℤ (a.source_step *ℤ pos (a.extent - 1))
  pub dest : a.dest_reset ≡ neg_ℤ (a.dest_step *ℤ pos (a.extent - 1))
  -- the last coordinate, and each side's step times it, fit an i64
  pub size : SFits w64 (pos (a.extent - 1))
  pub source-size : SFits w64 (a.source_step *ℤ pos (a.extent - 1))
  pub dest-size : SFits w64 (a.dest_step *ℤ pos (a.extent - 1))

unfoldable pub AllReset : List WindowReplayAxis → Type 0
AllReset [] = Unit {0}
AllReset (a ∷ l) = IsReset a × AllReset l

pub record Meets (ds : List ℕ) (ss ts : List ℤ) (l : List WindowReplayAxis) : Type 0 where
  pub source : Side ds ss (extents l) (sources l)
  pub dest : Side ds ts (extents l) (dests l)
  pub total : product (extents l) ≡ product ds
  pub positive : AllPos ds → AllPos (extents l)
  pub resets : AllReset l
  pub count : length l ≤ length ds

pub meets-one : (p : WindowReplayAxis) → IsReset p → Meets (p.extent ∷ []) (p.source_step ∷ []) (p.dest_step ∷ []) (p ∷ [])
unfolding AllReset
meets-one p r = record { source = side_same _ _; dest = side_same _ _; total = refl; positive = λ q. q; resets = (r, tt); count = omega arith }

pub meets-cons : (p : WindowReplayAxis) → IsReset p → (ds : List ℕ) (ss ts : List ℤ) (l : List WindowReplayAxis) → Meets ds ss ts l → Meets (p.extent ∷ ds) (p.source_step ∷ ss) (p.dest_step ∷ ts) (p ∷ l)
unfolding AllReset AllPos product
meets-cons p r ds ss ts l m = record {
  source = side-cons p.extent p.source_step ds ss (extents l) (sources l) m.source;
  dest = side-cons p.extent p.dest_step ds ts (extents l) (dests l) m.dest;
  total = ap (λ (n : ℕ). p.extent * n) m.total;
  positive = λ q. (q.0, m.positive q.1);
  resets = (r, m.resets);
  count = omega (arith, m.count);
}

pub meets-fuse : (p d : ℕ) (s s' t t' : ℤ) (ds : List ℕ) (ss ts : List ℤ) (l : List WindowReplayAxis) → s' ≡ s *ℤ pos p → t' ≡ t *ℤ pos p → Meets (p * d ∷ ds) (s ∷ ss) (t ∷ ts) l → Meets (p ∷ d ∷ ds) (s ∷ s' ∷ ss) (t ∷ t' ∷ ts) l
unfolding AllPos
meets-fuse p d s s' t t' ds ss ts l e f m = record {
  source = side-fuse p d s s' ds ss (extents l) (sources l) e m.source;
  dest = side-fuse p d t t' ds ts (extents l) (dests l) f m.dest;
  total = m.total ∙ sym (product-fuse p d ds);
  positive = λ q. m.positive (mul-pos q.0 q.1.0, q.1.1);
  resets = m.resets;
  count = omega (arith, m.count);
}

-- what compile hands back where it is done
pub record IsDone (ds : List ℕ) (ss ts : List ℤ) : Type 0 where
  pub axes : List WindowReplayAxis
  pub meets : Meets ds ss ts axes
  pub source-low : ℤ
  pub source-high : ℤ
  pub source-span : spanned ds ss ≡ Some (record { low = source-low; high = source-high })
  pub dest-low : ℤ
  pub dest-high : ℤ
  pub dest-span : spanned ds ts ≡ Some (record { low = dest-low; high = dest-high })
  pub is : compiled_replay ds ss ts ≡ done_replay (length axes) (padded rank_limit no_axis axes) (the_spans source-low source-high dest-low dest-high)
