-- The loop over the axes: those that are done stand before what is left. Assumes nothing.
use Rattle.std.specs.Prelude.{Option, Some, None}
use mathlib.Core.Path.{◌≡◌, refl, sym, ap, ap₂, ◌∙◌}
use mathlib.Core.Bool.{Bool, true, false, cond, ◌&&◌}
use mathlib.Core.List.{List, [], ◌∷◌, ◌++◌, append_assoc}
use Prim.Native.Nat.{ℕ, suc, ◌+◌, ◌-◌, ◌<◌, ◌≤◌, min}
use native.Mathlib.Numerals.{add-one}
use native.Mathlib.Omega.{arith}
use lib.ListN.{length, take, drop, get_or, set, replicate, length-set, length-append}
use lib.Seq.{drop-cons, take-suc-set, drop-set-lt, set_split, length-take-le, take_all}
use lib.IntN.{ℤ, pos}
use Rattle.layout.specs.Layouts.{rank_limit, padded}
use Rattle.layout.proofs.Turns.{drop-take, drop-done}
use Rattle.replay.specs.declared.WindowReplayAxis.{WindowReplayAxis}
use Rattle.replay.specs.declared.JoinedAxis.{JoinedAxis}
use Rattle.replay.specs.declared.JoinedAxis.TheVariants as J
use Rattle.replay.specs.declared.ReplaySpans.{ReplaySpans}
use Rattle.replay.specs.Replays.{axis_of, given_axes, merged_from, later_fit, no_axis, done_replay, refused_replay, where_fits, walk_of}
use Rattle.replay.specs.Parts.{checked_axis, joined_axis, walk_from}
use Rattle.replay.proofs.Joins.{axis-is, axis-not, Joined, joined-merged, joined-apart, joined-over}

-- ---- one axis more, after the merged axis p
module _ (p a q : WindowReplayAxis) (rest : List WindowReplayAxis) where
  later-turn : (merge : Bool) → Joined p a q merge → later_fit p (a ∷ rest) ≡ later_fit q rest
  unfolding later_fit
  later-turn merge j = λ ι. j.past-fits ι && (j.fits ι && later_fit (j.is ι) rest)

  merged-turn : (merge : Bool) → Joined p a q merge → merged_from p (a ∷ rest) ≡ cond merge (merged_from q rest) (p ∷ merged_from q rest)
  unfolding merged_from
  merged-turn merge j = λ ι. cond (j.merge-is ι) (merged_from (j.is ι) rest) (p ∷ merged_from (j.is ι) rest)

module _ (ds : List ℕ) (ss ts : List ℤ) (rank : ℕ) where
  -- the axes that are left at axis i
  abbrev pub left : ℕ → List WindowReplayAxis
  left i = given_axes (drop i (take rank ds)) (drop i (take rank ss)) (drop i (take rank ts))

  abbrev all : List WindowReplayAxis
  all = given_axes (take rank ds) (take rank ss) (take rank ts)

  -- the loop's state: n axes are done, p is open, axis i is next
  pub record Fusing (first : WindowReplayAxis) (axes : List WindowReplayAxis) (p : WindowReplayAxis) (n i : ℕ) : Type 0 where
    pub at : i ≤ rank_limit
    pub count : n < i
    pub full : length axes ≡ rank_limit
    pub rest : drop n axes ≡ replicate (rank_limit - n) no_axis
    pub fit : later_fit p (left i) ≡ later_fit first (left 1)
    pub same : take n axes ++ merged_from p (left i) ≡ merged_from first (left 1)

  pub fusing-first : (first : WindowReplayAxis) → Fusing first (replicate rank_limit no_axis) first 0 1
  fusing-first first = record { at = omega arith; count = omega arith; full = refl; rest = refl; fit = refl; same = refl }

  pub fuse-none : rank ≡ 0 → (spans : ReplaySpans) → done_replay 0 (replicate rank_limit no_axis) spans ≡ walk_of all spans
  unfolding given_axes padded
  fuse-none e spans = rw e

  module _ (ld : length ds ≡ rank_limit) (ls : length ss ≡ rank_limit) (lt : length ts ≡ rank_limit) where
    -- axis i
    abbrev axis : ℕ → WindowReplayAxis
    axis i = axis_of (get_or ds i 0) (get_or ss i (pos 0)) (get_or ts i (pos 0))

    left-turn : (i : ℕ) → i < min rank rank_limit → left i ≡ axis i ∷ left (i + 1)
    unfolding given_axes
    left-turn i h = rw (drop-take rank ds i 0 (omega arith), drop-take rank ss i (pos 0) (omega arith), drop-take rank ts i (pos 0) (omega arith))

    module _ (h : 0 < rank) (x : Option WindowReplayAxis) (e : x ≡ checked_axis (axis 0)) (spans : ReplaySpans) where
      all-is : all ≡ axis 0 ∷ left 1
      all-is = left-turn 0 (omega arith)

      pub first-over : x ≡ None → refused_replay ≡ walk_of all spans
      first-over o =
          sym (ap (λ (l : List WindowReplayAxis). walk_of l spans) all-is
          ∙ ap (λ (t : Bool). where_fits (t && later_fit (axis 0) (left 1)) (merged_from (axis 0) (left 1)) spans) (axis-not (axis 0) (sym e ∙ o)))

      pub first_fits : (p : WindowReplayAxis) → x ≡ Some p → walk_from p (left 1) spans ≡ walk_of all spans
      first_fits p o =
          let k = axis-is (axis 0) p (sym e ∙ o) in
          sym (ap (λ (l : List WindowReplayAxis). walk_of l spans) all-is
          ∙ (λ ι. where_fits (k.0 ι && later_fit (k.1 ι) (left 1)) (merged_from (k.1 ι) (left 1)) spans))

    module _ (first : WindowReplayAxis) (axes : List WindowReplayAxis) (p : WindowReplayAxis) (n i : ℕ) (f : Fusing first axes p n i) (spans : ReplaySpans) where
      stored : n < length axes
      stored = omega (arith, f.at, f.count, f.full)

      rest-tail : drop (n + 1) axes ≡ replicate (rank_limit - (n + 1)) no_axis
      rest-tail =
          let e : rank_limit - n ≡ suc (rank_limit - (n + 1)) = omega (arith, f.at, f.count) in
          let k : get_or axes n no_axis ∷ drop (suc n) axes ≡ no_axis ∷ replicate (rank_limit - (n + 1)) no_axis = sym (drop-cons axes n no_axis stored) ∙ f.rest ∙ ap (λ (m : ℕ). replicate m no_axis) e in
          let d : drop (suc n) axes ≡ replicate (rank_limit - (n + 1)) no_axis = cc in
          ap (λ (m : ℕ). drop m axes) (add-one n) ∙ d

      -- past the last axis
      pub fusing-done : min rank rank_limit ≤ i → done_replay (n + 1) (set axes n p) spans ≡ walk_from first (left 1) spans
      unfolding given_axes merged_from later_fit padded
      fusing-done h =
          let l : List WindowReplayAxis = take n axes ++ p ∷ [] in
          let k : length l ≡ n + 1 = length-append (take n axes) (p ∷ []) ∙ omega (arith, length-take-le n axes (omega (arith, stored))) in
          let e : ◌≡◌ {A = List WindowReplayAxis} (left i) [] = rw (drop-done rank ds i (omega arith)) in
          let a : set axes n p ≡ padded rank_limit no_axis l =
          set_split axes n p stored ∙ ap (λ (m : List WindowReplayAxis). take n axes ++ p ∷ m) (ap (λ (m : ℕ). drop m axes) (sym (add-one n)) ∙ rest-tail) ∙ sym (append_assoc (take n axes) (p ∷ []) (replicate (rank_limit - (n + 1)) no_axis)) ∙ ap (λ (m : ℕ). l ++ replicate (rank_limit - m) no_axis) (sym k) ∙ ap (λ (m : List WindowReplayAxis). m ++ replicate (rank_limit - length l) no_axis) (sym (take_all rank_limit l (omega (arith, f.at, f.count, k))))
          in
          let fit : true ≡ later_fit first (left 1) = ap (later_fit p) (sym e) ∙ f.fit in
          let same : l ≡ merged_from first (left 1) = ap (λ (m : List WindowReplayAxis). take n axes ++ merged_from p m) (sym e) ∙ f.same in
          (λ ι. done_replay (sym k ι) (a ι) spans)
          ∙ ap₂ (λ (t : Bool) (m : List WindowReplayAxis). where_fits t m spans) fit same

      module _ (h : i < min rank rank_limit) (j : Option JoinedAxis) (e : j ≡ joined_axis p (axis i)) where
        pub fusing-over : j ≡ None → refused_replay ≡ walk_from first (left 1) spans
        fusing-over o =
            let w : later_fit p (left i) ≡ false = ap (later_fit p) (left-turn i h) ∙ (unfold later_fit in joined-over p (axis i) _ (sym e ∙ o)) in
            ap (λ (t : Bool). where_fits t (merged_from first (left 1)) spans) (sym w ∙ f.fit)

        module _ (q : WindowReplayAxis) where
          -- what is left after axis i
          fit_on : (merge : Bool) → Joined p (axis i) q merge → later_fit q (left (i + 1)) ≡ later_fit first (left 1)
          fit_on merge k = sym (ap (later_fit p) (left-turn i h) ∙ later-turn p (axis i) q (left (i + 1)) merge k) ∙ f.fit

          same-on : (merge : Bool) → Joined p (axis i) q merge → take n axes ++ cond merge (merged_from q (left (i + 1))) (p ∷ merged_from q (left (i + 1))) ≡ merged_from first (left 1)
          same-on merge k = sym (ap (λ (m : List WindowReplayAxis). take n axes ++ m) (ap (merged_from p) (left-turn i h) ∙ merged-turn p (axis i) q (left (i + 1)) merge k)) ∙ f.same

          pub fusing-merged : j ≡ Some (J.Merged q) → Fusing first axes q n (i + 1)
          fusing-merged o =
              let k = joined-merged p (axis i) q (sym e ∙ o) in
              record { at = omega arith; count = omega (arith, f.count); full = f.full; rest = f.rest; fit = fit_on true k; same = same-on true k }

          pub fusing-apart : j ≡ Some (J.Apart q) → Fusing first (set axes n p) q (n + 1) (i + 1)
          fusing-apart o =
              let k = joined-apart p (axis i) q (sym e ∙ o) in
              record {
                at = omega arith;
                count = omega (arith, f.count);
                full = length-set axes n p ∙ f.full;
                rest = drop-set-lt (n + 1) axes n p (omega arith) ∙ rest-tail;
                fit = fit_on false k;
                same =
                    ap (λ (m : ℕ). take m (set axes n p) ++ merged_from q (left (i + 1))) (add-one n)
                    ∙ ap (λ (l : List WindowReplayAxis). l ++ merged_from q (left (i + 1))) (take-suc-set axes n p stored)
                    ∙ append_assoc (take n axes) (p ∷ []) (merged_from q (left (i + 1)))
                    ∙ same-on false k;
              }
