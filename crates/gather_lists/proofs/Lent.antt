-- What a call by lists decides. Assumes nothing.
use Rattle.std.specs.Prelude.{Ok, Err}
use mathlib.Core.Path.{◌≡◌, refl, sym, ap, subst, ◌∙◌}
use mathlib.Core.Bool.{Bool, true, false, cond}
use mathlib.Core.List.{List}
use Prim.Native.Nat.{ℕ, min}
use lib.ListN.{length, get_or, take, replicate}
use lib.IntN.{ℤ, pos}
use Rattle.integer.specs.Tests.{and-true, and_both}
use Rattle.indexing.specs.Coordinates.{View, rank, pick, tabulate, has}
use Rattle.indexing.specs.Gather.{Gather, shown_dims, batch_dims}
use Rattle.indexing.specs.Steps.{vector_stride, window_steps, batch_steps}
use Rattle.layout.specs.declared.Reach.{Reach}
use Rattle.layout.specs.Answers.{is_done, or_else, Answer}
use Rattle.layout.specs.Layouts.{rank_limit, padded}
use Rattle.layout.specs.Reach.{buffer_bounds}
use Rattle.axis_lists.specs.Held.{held_steps, Steps}
use Rattle.checks.specs.Values.{offset_or}
use Rattle.checks.proofs.Held.{never}
use Rattle.components.specs.Components.{limit_at, unless_none}
use Rattle.calls.specs.Calls.{view_with, same_view, same_views, plan_refusal, reach_in, bounds_refusal}
use Rattle.calls.proofs.Same.{same-view-is, view-same}
use Rattle.gather_checks.specs.Refusals.{spec_refusal, refusal_of, compile_refusal}
use Rattle.gather_checks.specs.Given.{Found}
use Rattle.gather_plan.proofs.Accepted.{Accepted, accepted, offsets_are, map_is}
use Rattle.gather_move.specs.Prepared.{gather_numbers, start_base, Prepares}
use Rattle.gather_move.specs.declared.GatherNumbers.{GatherNumbers}
use Rattle.gather_move.specs.declared.PreparedGather.{PreparedGather}
use Rattle.gather_lists.specs.Lists.{on_views, placed, lists_answer}
use Rattle.layout.specs.declared.Refusal.TheVariants as F

-- ---- the numbers by what was found
module _ (g : Gather) (window batch : List ℤ) (q : Found g window batch) where
  pub fits : Accepted g
  fits = accepted g (Ok tt) q.accepted

  abbrev map : List ℕ
  map = g.spec.start-index-map

  pub numbers-are : (offsets : Steps) (strides stepped dests : List ℤ) (extents batches limits : List ℕ)
      → offsets ≡ held_steps (tabulate (min (length map) rank_limit) (offset_or (vector_stride g.indices g.spec.index-vector-dim)))
      → strides ≡ padded rank_limit (pos 0) (pick (pos 0) (take rank_limit map) g.operand.strides)
      → limits ≡ tabulate rank_limit (limit_at g.operand.extents g.spec.slice-sizes map)
      → stepped ≡ unless_none (length map) (replicate rank_limit (pos 0)) batch
      → extents ≡ padded rank_limit 1 g.result.extents → batches ≡ tabulate rank_limit (λ a. cond (has g.spec.offset-dims a) 1 (get_or extents a 0)) → dests ≡ padded rank_limit (pos 0) g.result.strides
      → ◌≡◌ {A = GatherNumbers}
      (record { rank = rank g.result; extents = extents; batch_extents = batches; window_steps = window; batch_steps = stepped; dest_steps = dests; components = record { count = length map; offsets = offsets.entries; strides = strides; limits = limits } })
      (gather_numbers g)
  unfolding gather_numbers
  numbers-are offsets strides stepped dests extents batches limits eo es el ep ee eb ed =
      λ i. record {
        rank = rank g.result;
        extents = ee i;
        batch_extents = (eb ∙ ap (λ (l : List ℕ). tabulate rank_limit (λ a. cond (has g.spec.offset-dims a) 1 (get_or l a 0))) ee) i;
        window_steps = q.window-is i;
        batch_steps = (ep ∙ ap (unless_none (length map) (replicate rank_limit (pos 0))) q.batch-is) i;
        dest_steps = ed i;
        components = record {
          count = length map;
          offsets = ap (λ (l : Steps). l.entries) (eo ∙ ap held_steps (offsets_are g fits)) i;
          strides = (es ∙ ap (λ (l : List ℕ). padded rank_limit (pos 0) (pick (pos 0) l g.operand.strides)) (map_is g fits)) i;
          limits = el i;
        };
      }

-- ---- views that have the layouts compiled for
module _ (g : Gather) (a b c : ℤ) where
  abbrev h : Gather
  h = placed g a b c

  same-placed : same_views h.operand h.indices h.result g.operand g.indices g.result ≡ true
  same-placed =
      and_both (same_view h.operand g.operand) _ (view-same h.operand g.operand refl refl)
      (and_both (same_view h.indices g.indices) _ (view-same h.indices g.indices refl refl) (view-same h.result g.result refl refl))

  pub placed-answer : (on sn dn : ℕ) → or_else (compile_refusal g) (bounds_refusal h.operand h.indices h.result on sn dn) ≡ lists_answer g h on sn dn
  placed-answer on sn dn = sym (ap (λ (t : Bool). or_else (compile_refusal g) (or_else (plan_refusal t) (bounds_refusal h.operand h.indices h.result on sn dn))) same-placed)

  done-placed : is_done (refusal_of (Ok tt) g) ≡ true → is_done (refusal_of (Ok tt) h) ≡ true
  unfolding spec_refusal window_steps batch_steps shown_dims batch_dims
  done-placed e = e

  numbers-placed : gather_numbers g ≡ gather_numbers h
  unfolding gather_numbers window_steps batch_steps shown_dims batch_dims
  numbers-placed = refl

  module _ (on sn dn : ℕ) where
    -- compile refuses
    pub first-refusal : (r : PreparedGather) (x : Answer) → r.answer ≡ x → x ≡ compile_refusal g → is_done x ≡ false → Prepares r (lists_answer g h on sn dn) h on sn dn
    first-refusal r x e f n =
        let s : is_done (compile_refusal g) ≡ false = ap is_done (sym f) ∙ n in
        let l : lists_answer g h on sn dn ≡ compile_refusal g = ap (λ (t : Bool). cond t (or_else (plan_refusal (same_views h.operand h.indices h.result g.operand g.indices g.result)) (bounds_refusal h.operand h.indices h.result on sn dn)) (compile_refusal g)) s in
        record { answered = e ∙ f ∙ sym l; ready = λ d. never (sym d ∙ ap is_done l ∙ s) }

    -- 9 for the views, given where their cells lie
    module _ {x y z : Reach} {first nine : Answer} (ef : first ≡ compile_refusal g) (td : is_done first ≡ true)
        (ex : x ≡ reach_in h.operand on) (ey : y ≡ reach_in h.indices sn) (ez : z ≡ reach_in h.result dn) (en : nine ≡ or_else (buffer_bounds 1 x) (or_else (buffer_bounds 2 y) (buffer_bounds 3 z))) where
      bounds-are : nine ≡ bounds_refusal h.operand h.indices h.result on sn dn
      bounds-are = en ∙ λ i. or_else (buffer_bounds 1 (ex i)) (or_else (buffer_bounds 2 (ey i)) (buffer_bounds 3 (ez i)))

      pub answer-is : nine ≡ lists_answer g h on sn dn
      answer-is = bounds-are ∙ sym (ap (λ (t : Bool). cond t (bounds_refusal h.operand h.indices h.result on sn dn) (compile_refusal g)) (ap is_done (sym ef) ∙ td)) ∙ placed-answer on sn dn

      pub second-refusal : (r : PreparedGather) → r.answer ≡ nine → is_done nine ≡ false → Prepares r (lists_answer g h on sn dn) h on sn dn
      second-refusal r e n = record { answered = e ∙ answer-is; ready = λ d. never (sym d ∙ ap is_done (sym answer-is) ∙ n) }

      pub prepared : (window batch : List ℤ) → Found g window batch → is_done nine ≡ true → (r : PreparedGather) → r.answer ≡ nine → r.reach ≡ z → r.numbers ≡ gather_numbers g → r.operand ≡ a → r.index ≡ start_base h → r.dest ≡ c → Prepares r (lists_answer g h on sn dn) h on sn dn
      prepared window batch q d r e er en eo ei ed =
          record {
            answered = e ∙ answer-is;
            ready = λ t. record {
              accepted = done-placed q.accepted;
              bounds = ap is_done (sym bounds-are) ∙ d;
              reach = er ∙ ez;
              numbers = en ∙ numbers-placed;
              operand = eo;
              index = ei;
              dest = ed;
            };
          }

-- ---- any views
module _ (g : Gather) (x y z : View) (on sn dn : ℕ) where
  abbrev all : Bool
  all = same_views x y z g.operand g.indices g.result

  views-are : all ≡ true → placed g x.offset y.offset z.offset ≡ on_views g x y z
  views-are e =
      let t = and-true (same_view x g.operand) _ e in
      let u = and-true (same_view y g.indices) _ t.1 in
      let p = same-view-is x g.operand t.0 in
      let q = same-view-is y g.indices u.0 in
      let r = same-view-is z g.result u.1 in
      λ i. on_views g (view_with (sym p.0 i) (sym p.1 i) x.offset) (view_with (sym q.0 i) (sym q.1 i) y.offset) (view_with (sym r.0 i) (sym r.1 i) z.offset)

  pub same-views : (r : PreparedGather) {t : Bool} → t ≡ all → t ≡ true
      → Prepares r (lists_answer g (placed g x.offset y.offset z.offset) on sn dn) (placed g x.offset y.offset z.offset) on sn dn → Prepares r (lists_answer g (on_views g x y z) on sn dn) (on_views g x y z) on sn dn
  same-views r e d p = subst (λ (h : Gather). Prepares r (lists_answer g h on sn dn) h on sn dn) (views-are (sym e ∙ d)) p

  pub other-views : (r : PreparedGather) {t : Bool} {first answer : Answer} → t ≡ all → t ≡ false → first ≡ compile_refusal g → answer ≡ or_else first (Err F.PlanLayoutMismatch) → r.answer ≡ answer → Prepares r (lists_answer g (on_views g x y z) on sn dn) (on_views g x y z) on sn dn
  other-views r {first = first} e d f k m =
      let l : lists_answer g (on_views g x y z) on sn dn ≡ or_else (compile_refusal g) (Err F.PlanLayoutMismatch) = ap (λ (b : Bool). or_else (compile_refusal g) (or_else (plan_refusal b) (bounds_refusal x y z on sn dn))) (sym e ∙ d) in
      record { answered = m ∙ k ∙ ap (λ (w : Answer). or_else w (Err F.PlanLayoutMismatch)) f ∙ sym l; ready = λ t. never (sym t ∙ ap is_done l ∙ refuses (compile_refusal g)) }
    where
      refuses : (w : Answer) → is_done (or_else w (Err F.PlanLayoutMismatch)) ≡ false
      refuses w = go (is_done w) refl
        where
          go : (b : Bool) → is_done w ≡ b → is_done (cond b (Err F.PlanLayoutMismatch) w) ≡ false
          go true e = refl
          go false e = e
