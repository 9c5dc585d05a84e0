use mathlib.Core.Path.{◌≡◌, sym, ap, ◌∙◌}
use mathlib.Core.Bool.{true}
use lib.IntN.{ℤ}
use Rattle.integer.specs.Z.{back}
use Rattle.indexing.specs.Coordinates.{View}
use Rattle.indexing.specs.Scatter.{Scatter}
use Rattle.layout.specs.Answers.{is_done}
use Rattle.layout.specs.Reach.{view_reach}
use Rattle.checks.specs.Checks.{view_from}
use Rattle.calls.specs.Calls.{view_with}
use Rattle.scatter_checks.specs.Refusals.{scatter_from}
use Rattle.scatter_lists.proofs.Lent.{fits}
use Rattle.operand_checks.proofs.Sizes.{sized_on}
use Rattle.operand_checks.specs.Examine.{FoundOn}
use Rattle.operand_lists.proofs.Lent.{refused-first, passed_first, same-views, second-refusal, prepared}
use Rattle.operand_lists.proofs.prepare_views.Statement.{statement}
use Rattle.operand_lists.proofs.prepare_views.Tie as tie

-- what compile is given, and the views of the call
module _ (s : tie.Start) where
  abbrev o : View
  o = view_from s.args.operand_extents.now s.args.operand_strides.now

  abbrev w : Scatter
  w = scatter_from s.args.index_extents.now s.args.index_strides.now s.args.updates_extents.now s.args.updates_strides.now s.args.dest_extents.now s.args.dest_strides.now s.args.update_window_dims.now s.args.inserted_window_dims.now s.args.scatter_dims_to_operand_dims.now s.args.index_vector_dim

  abbrev v : View
  v = view_with s.args.operand_view_extents.now s.args.operand_view_strides.now s.args.operand_offset

  abbrev x : View
  x = view_with s.args.index_view_extents.now s.args.index_view_strides.now s.args.index_offset

  abbrev y : View
  y = view_with s.args.updates_view_extents.now s.args.updates_view_strides.now s.args.updates_offset

  abbrev z : View
  z = view_with s.args.dest_view_extents.now s.args.dest_view_strides.now s.args.dest_offset

-- where neither compile nor 8 refuses
both-pass : (i : tie.Else-not-is_done) → (is_done i.examine-found.result.answer ≡ true) × (i.same_views-same.result ≡ true)
both-pass i =
    let s : tie.Start = search in
    passed_first (o s) (w s) (v s) (x s) (y s) (z s) s.args.operand_len s.args.starts_len s.args.updates_len s.args.dest_len i.same_views-same.ensures i.examine-found.ensures.answered i.check_plan-eight.ensures i.or_else-refusal.ensures (sym i.is_done.ensures ∙ i.if-not-is_done.false)

found : (i : tie.Else-not-is_done) → FoundOn (view_from i.args.operand_extents.now i.args.operand_strides.now) (scatter_from i.args.index_extents.now i.args.index_strides.now i.args.updates_extents.now i.args.updates_strides.now i.args.dest_extents.now i.args.dest_strides.now i.args.update_window_dims.now i.args.inserted_window_dims.now i.args.scatter_dims_to_operand_dims.now i.args.index_vector_dim) i.examine-found.result.batch i.examine-found.result.window
found i = i.examine-found.ensures.found (both-pass i).0

returns : tie.Need-returns-then-not-is_done
returns c =
    let s : tie.Start = search in
    refused-first (o s) (w s) (v s) (x s) (y s) (z s) s.args.operand_len s.args.starts_len s.args.updates_len s.args.dest_len c.same_views-same.ensures c.examine-found.ensures.answered c.check_plan-eight.ensures c.or_else-refusal.ensures _ c.refused.ensures (sym c.is_done.ensures ∙ c.if-not-is_done.true)

reach-of-requires : tie.Need-reach_of-w-requires
reach-of-requires c κs = let s : tie.Start = search in (sized_on (o s) (w s) (found search).sizes).operand

reach-of-requires-2 : tie.Need-reach_of-x-requires
reach-of-requires-2 c κs = (fits (w search) _ _ (found search).scatter).index-strides

reach-of-requires-3 : tie.Need-reach_of-y-requires
reach-of-requires-3 c κs = (fits (w search) _ _ (found search).scatter).updates-strides

reach-of-requires-4 : tie.Need-reach_of-z-requires
reach-of-requires-4 c κs = (fits (w search) _ _ (found search).scatter).dest-strides

returns-2 : tie.Need-returns-then-not-is_done-2
returns-2 c =
    let s : tie.Start = search in
    same-views (o s) (w s) (v s) (x s) (y s) (z s) s.args.operand_len s.args.starts_len s.args.updates_len s.args.dest_len _ c.same_views-same.ensures (both-pass search).1
    (second-refusal (o s) (w s) s.args.operand_offset s.args.index_offset s.args.updates_offset s.args.dest_offset s.args.operand_len s.args.starts_len s.args.updates_len s.args.dest_len {w = c.reach_of-w.result} {x = c.reach_of-x.result} {y = c.reach_of-y.result} {z = c.reach_of-z.result} c.examine-found.ensures.answered (both-pass search).0 (c.reach_of-w.ensures ∙ ap (λ (z : ℤ). view_reach s.args.operand_extents.now s.args.operand_strides.now z s.args.operand_len) (back s.ranges.operand_offset)) (c.reach_of-x.ensures ∙ ap (λ (z : ℤ). view_reach s.args.index_extents.now s.args.index_strides.now z s.args.starts_len) (back s.ranges.index_offset)) (c.reach_of-y.ensures ∙ ap (λ (z : ℤ). view_reach s.args.updates_extents.now s.args.updates_strides.now z s.args.updates_len) (back s.ranges.updates_offset)) (c.reach_of-z.ensures ∙ ap (λ (z : ℤ). view_reach s.args.dest_extents.now s.args.dest_strides.now z s.args.dest_len) (back s.ranges.dest_offset)) c.check_bounds-answer.ensures _ c.refused-then-not-is_done-2.ensures (sym c.is_done-2.ensures ∙ c.if-not-is_done-2.true))

prepared-from-requires : tie.Need-prepared_from-requires
prepared-from-requires c κs = (found search).scatter

returns-3 : tie.Need-returns
returns-3 c =
    let s : tie.Start = search in
    same-views (o s) (w s) (v s) (x s) (y s) (z s) s.args.operand_len s.args.starts_len s.args.updates_len s.args.dest_len _ c.same_views-same.ensures (both-pass search).1
    (prepared (o s) (w s) s.args.operand_offset s.args.index_offset s.args.updates_offset s.args.dest_offset s.args.operand_len s.args.starts_len s.args.updates_len s.args.dest_len {w = c.reach_of-w.result} {x = c.reach_of-x.result} {y = c.reach_of-y.result} {z = c.reach_of-z.result} c.examine-found.ensures.answered (both-pass search).0 (c.reach_of-w.ensures ∙ ap (λ (z : ℤ). view_reach s.args.operand_extents.now s.args.operand_strides.now z s.args.operand_len) (back s.ranges.operand_offset)) (c.reach_of-x.ensures ∙ ap (λ (z : ℤ). view_reach s.args.index_extents.now s.args.index_strides.now z s.args.starts_len) (back s.ranges.index_offset)) (c.reach_of-y.ensures ∙ ap (λ (z : ℤ). view_reach s.args.updates_extents.now s.args.updates_strides.now z s.args.updates_len) (back s.ranges.updates_offset)) (c.reach_of-z.ensures ∙ ap (λ (z : ℤ). view_reach s.args.dest_extents.now s.args.dest_strides.now z s.args.dest_len) (back s.ranges.dest_offset)) c.check_bounds-answer.ensures (found search) (sym c.is_done-2.ensures ∙ c.if-not-is_done-2.false) _
    (simp (back s.ranges.index_offset, back s.ranges.updates_offset, back s.ranges.dest_offset) at c.prepared_from.ensures))

pub prepare_views_spec : {M : Type 1} → statement M
prepare_views_spec =
    tie.close
    (tie.spec
    (λ c κs. tt)
    (λ c κs. tt)
    (λ c κs. tt)
    (λ c κs. tt)
    (λ c κs. tt)
    (λ c κs. tt)
    returns
    reach-of-requires
    reach-of-requires-2
    reach-of-requires-3
    reach-of-requires-4
    (λ c κs. tt)
    (λ c κs. tt)
    (λ c κs. tt)
    returns-2
    prepared-from-requires
    returns-3)
