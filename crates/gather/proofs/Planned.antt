-- What a plan that fits a call holds. Assumes nothing.
use Rattle.std.specs.Prelude.{Ok}
use mathlib.Core.Path.{◌≡◌, refl, sym, ap, ap₂, subst, ◌∙◌}
use mathlib.Core.Bool.{Bool, true, cond}
use mathlib.Core.List.{List}
use Prim.Native.Nat.{ℕ}
use native.Mathlib.Omega.{arith}
use lib.ListN.{length, get_or, replicate}
use lib.IntN.{ℤ, pos}
use Rattle.integer.specs.Tests.{and-true}
use Rattle.indexing.specs.Coordinates.{rank, tabulate, has}
use Rattle.indexing.specs.Gather.{Gather, shown_dims, batch_dims}
use Rattle.indexing.specs.Steps.{window_steps, batch_steps}
use Rattle.indexing.proofs.Updates.{length-tabulate, get_d_tabulate}
use Rattle.layout.specs.declared.Reach.{Reach}
use Rattle.layout.specs.declared.View.{View}
use Rattle.layout.specs.Answers.{is_done, or_else, Answer}
use Rattle.layout.specs.Layouts.{rank_limit, padded, extents_of}
use Rattle.layout.specs.Reach.{buffer_bounds}
use Rattle.axis_lists.specs.Held.{numbers_of}
use Rattle.checks.proofs.Made.{or-done}
use Rattle.components.specs.Components.{limit_at, unless_none}
use Rattle.components.proofs.Padded.{each-padded}
use Rattle.calls.specs.Calls.{same_view, same_views, plan_refusal, reach_in, bounds_refusal}
use Rattle.calls.proofs.Same.{same-view-is}
use Rattle.calls.proofs.Does.{plan-done}
use Rattle.gather_checks.specs.Refusals.{spec_refusal, refusal_of}
use Rattle.gather_plan.specs.declared.Role.{Role}
use Rattle.gather_plan.specs.declared.Role.TheVariants.{Batch, Window}
use Rattle.gather_plan.specs.declared.GatherReplayAxis.{GatherReplayAxis}
use Rattle.gather_plan.specs.declared.GatherPlan.{GatherPlan}
use Rattle.gather_plan.specs.Plan.{no_axis, axis_of, plan_of, held_gather}
use Rattle.gather_plan.proofs.Accepted.{Accepted, accepted, length-window, length-batch}
use Rattle.gather_plan.proofs.Roles.{window-stays, batch-stays}
use Rattle.gather_same.specs.Same.{is_compiled}
use Rattle.gather_same.proofs.Compiled.{compiled-is}
use Rattle.gather_move.specs.Prepared.{gather_numbers, start_base, Ready}
use Rattle.gather_move.specs.declared.GatherNumbers.{GatherNumbers}
use Rattle.gather_move.specs.declared.PreparedGather.{PreparedGather}
use Rattle.gather.specs.Calls.{gather_of, plan_fits, call_answer, move_by, move_of, moves_of}
use Rattle.gather.specs.declared.Moves.{Moves}

-- ---- a compiled plan's numbers are those of its gather
module _ (p : GatherPlan) (ok : is_compiled p ≡ true) where
  abbrev g : Gather
  g = held_gather p

  done : is_done (refusal_of (Ok tt) g) ≡ true
  done = (compiled-is p ok).0

  is : p ≡ plan_of g
  is = (compiled-is p ok).1

  fits : Accepted g
  fits = accepted g (Ok tt) done

  steps-are : (f : GatherReplayAxis → ℤ) (l : List ℤ) → f no_axis ≡ pos 0 → length l ≡ rank g.result → ((a : ℕ) → f (axis_of g a) ≡ get_or l a (pos 0)) → tabulate rank_limit (λ a. f (get_or p.axes a no_axis)) ≡ padded rank_limit (pos 0) l
  steps-are f l none k each =
      let n : ℕ = rank g.result in
      let m : length (tabulate n (axis_of g)) ≡ n = length-tabulate n (axis_of g) in
      ap (λ (q : GatherPlan). tabulate rank_limit (λ a. f (get_or q.axes a no_axis))) is
      ∙ each-padded f no_axis (tabulate n (axis_of g)) l none (omega (arith, m, fits.dest-rank)) (k ∙ sym m) (λ a h. ap f (get_d_tabulate n (axis_of g) a no_axis (omega (arith, m))) ∙ each a)

  -- by its role an axis moves as its steps say: compile gives 0 where it stands still
  moves-are : (a : ℕ) → ((move_of (axis_of g a)).window ≡ get_or (window_steps g) a (pos 0)) × ((move_of (axis_of g a)).batch ≡ get_or (batch_steps g) a (pos 0))
  moves-are a = go (axis_of g a).role refl
    where
      go : (r : Role) → (axis_of g a).role ≡ r → ((move_by r (get_or (window_steps g) a (pos 0)) (get_or (batch_steps g) a (pos 0))).window ≡ get_or (window_steps g) a (pos 0)) × ((move_by r (get_or (window_steps g) a (pos 0)) (get_or (batch_steps g) a (pos 0))).batch ≡ get_or (batch_steps g) a (pos 0))
      go (Window k) e = (refl, sym (batch-stays g a k e))
      go Batch e = (sym (window-stays g a e), refl)

  window-is : (moves_of p.axes).window ≡ padded rank_limit (pos 0) (window_steps g)
  unfolding moves_of
  window-is = steps-are (λ a. (move_of a).window) (window_steps g) refl (length-window g) (λ a. (moves-are a).0)

  batch-is : (moves_of p.axes).batch ≡ padded rank_limit (pos 0) (batch_steps g)
  unfolding moves_of
  batch-is = steps-are (λ a. (move_of a).batch) (batch_steps g) refl (length-batch g) (λ a. (moves-are a).1)

  pub numbers-are : (moves : Moves) (stepped : List ℤ) (limits batches : List ℕ) → moves ≡ moves_of p.axes
      → stepped ≡ unless_none p.start_index_map.count (replicate rank_limit (pos 0)) moves.batch
      → limits ≡ tabulate rank_limit (limit_at (extents_of p.operand) (numbers_of p.slice_sizes) (numbers_of p.start_index_map))
      → batches ≡ tabulate rank_limit (λ a. cond (has (numbers_of p.offset_dims) a) 1 (get_or p.dest.extents a 0))
      → ◌≡◌ {A = GatherNumbers}
      (record {
        rank = p.dest.rank;
        extents = p.dest.extents;
        batch_extents = batches;
        window_steps = moves.window;
        batch_steps = stepped;
        dest_steps = p.dest.strides;
        components = record { count = p.start_index_map.count; offsets = p.index_component_offsets.entries; strides = p.index_operand_strides.entries; limits = limits };
      })
      (gather_numbers g)
  unfolding gather_numbers
  numbers-are moves stepped limits batches em es el eb =
      let n = ap (λ (q : GatherPlan). q.start_index_map.count) is in
      λ i. record {
        rank = (is i).dest.rank;
        extents = (is i).dest.extents;
        batch_extents = (eb ∙ ap (λ (q : GatherPlan). tabulate rank_limit (λ a. cond (has (numbers_of p.offset_dims) a) 1 (get_or q.dest.extents a 0))) is) i;
        window_steps = (ap (λ (m : Moves). m.window) em ∙ window-is) i;
        batch_steps = (es ∙ ap₂ (λ (m : ℕ) (l : List ℤ). unless_none m (replicate rank_limit (pos 0)) l) n (ap (λ (m : Moves). m.batch) em ∙ batch-is)) i;
        dest_steps = (is i).dest.strides;
        components = record { count = n i; offsets = (is i).index_component_offsets.entries; strides = (is i).index_operand_strides.entries; limits = el i };
      }

-- ---- the answer of a call
pub answer-is : (p : GatherPlan) (g : Gather) (on sn dn : ℕ) {fits : Bool} {x y z : Reach} {eight nine answer : Answer} → fits ≡ plan_fits p g → eight ≡ plan_refusal fits
    → x ≡ reach_in g.operand on → y ≡ reach_in g.indices sn → z ≡ reach_in g.result dn → nine ≡ or_else (buffer_bounds 1 x) (or_else (buffer_bounds 2 y) (buffer_bounds 3 z)) → answer ≡ or_else eight nine → answer ≡ call_answer p g on sn dn
answer-is p g on sn dn ef e8 ex ey ez e9 e = e ∙ ap₂ or_else (e8 ∙ ap plan_refusal ef) (e9 ∙ λ i. or_else (buffer_bounds 1 (ex i)) (or_else (buffer_bounds 2 (ey i)) (buffer_bounds 3 (ez i))))

-- ---- a call that is not refused
module _ (p : GatherPlan) (o i d : View) (on sn dn : ℕ) (ok : is_done (call_answer p (gather_of p o i d) on sn dn) ≡ true) where
  abbrev h : Gather
  h = gather_of p o i d

  tests : (plan_fits p h ≡ true) × (is_done (bounds_refusal h.operand h.indices h.result on sn dn) ≡ true)
  tests = let t = or-done (plan_refusal (plan_fits p h)) _ ok in (plan-done (plan_fits p h) t.0, t.1)

  pub compiled : is_compiled p ≡ true
  compiled = (and-true (same_views h.operand h.indices h.result (held_gather p).operand (held_gather p).indices (held_gather p).result) (is_compiled p) tests.0).1

  same : (h.operand.extents ≡ (held_gather p).operand.extents) × (h.operand.strides ≡ (held_gather p).operand.strides) × (h.indices.extents ≡ (held_gather p).indices.extents) × (h.indices.strides ≡ (held_gather p).indices.strides) × (h.result.extents ≡ (held_gather p).result.extents) × (h.result.strides ≡ (held_gather p).result.strides)
  same =
      let a = (and-true (same_views h.operand h.indices h.result (held_gather p).operand (held_gather p).indices (held_gather p).result) (is_compiled p) tests.0).0 in
      let b = and-true (same_view h.operand (held_gather p).operand) _ a in
      let c = and-true (same_view h.indices (held_gather p).indices) _ b.1 in
      let x = same-view-is h.operand (held_gather p).operand b.0 in
      let y = same-view-is h.indices (held_gather p).indices c.0 in
      let z = same-view-is h.result (held_gather p).result c.1 in
      (x.0, x.1, y.0, y.1, z.0, z.1)

  -- the call's gather is the plan's, but for where its views begin
  abbrev at : Gather
  at =
      record {
        spec = (held_gather p).spec;
        operand = record { extents = (held_gather p).operand.extents; strides = (held_gather p).operand.strides; offset = o.offset };
        indices = record { extents = (held_gather p).indices.extents; strides = (held_gather p).indices.strides; offset = i.offset };
        result = record { extents = (held_gather p).result.extents; strides = (held_gather p).result.strides; offset = d.offset };
      }

  gather-is : h ≡ at
  gather-is =
      let (eo, so, ei, si, ed, sd) = same in
      λ j. record {
        spec = (held_gather p).spec;
        operand = record { extents = eo j; strides = so j; offset = o.offset };
        indices = record { extents = ei j; strides = si j; offset = i.offset };
        result = record { extents = ed j; strides = sd j; offset = d.offset };
      }

  at_done : is_done (refusal_of (Ok tt) at) ≡ true
  unfolding spec_refusal window_steps batch_steps shown_dims batch_dims
  at_done = (compiled-is p compiled).0

  at-numbers : gather_numbers (held_gather p) ≡ gather_numbers at
  unfolding gather_numbers window_steps batch_steps shown_dims batch_dims
  at-numbers = refl

  pub ready : (r : PreparedGather) → r.reach ≡ reach_in h.result dn → r.numbers ≡ gather_numbers (held_gather p) → r.operand ≡ o.offset → r.index ≡ start_base h → r.dest ≡ d.offset → Ready r h on sn dn
  ready r er en eo ei ed =
      record {
        accepted = subst (λ (x : Gather). is_done (refusal_of (Ok tt) x) ≡ true) (sym gather-is) at_done;
        bounds = tests.1;
        reach = er;
        numbers = en ∙ at-numbers ∙ ap gather_numbers (sym gather-is);
        operand = eo;
        index = ei;
        dest = ed;
      }
