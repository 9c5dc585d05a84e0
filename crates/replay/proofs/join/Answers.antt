use Rattle.std.specs.Prelude.{ℤ, ◌*◌, refl}
use Rattle.std.proofs.Common.{eqb-true, sym, ap, ap₂, ◌∙◌, rules, SFits}
use Rattle.std.proofs.lemmas.Bool.{eqb-false}
use Rattle.std.specs.Int.{w64}
use Rattle.integer.specs.Z.{back}
use Rattle.replay.specs.Replays.{axis_of}
use Rattle.replay.specs.Parts.{past, checked_axis, as_merged, as_apart}
use Rattle.replay.proofs.Joins.{join-over, join-over2, join-merge, join_apart, join-apart2, steps-same, steps-differ}
use Rattle.replay.proofs.join.Goals as goal
use Rattle.replay.proofs.join.Goals.{then-source-next_source, else-source-next_source}

pub returns-in_err-next_source : goal.returns-in_err-next_source
returns-in_err-next_source c =
    let p = c.args.before in
    let f : SFits w64 p.source_step = search rules in
    c.from_residual.ensures
    ∙ join-over p c.args.extent c.args.source c.args.dest _ _ (c.past_last.ensures ∙ ap (past p.extent) (back f)) refl c.in_err-next_source.was

pub returns-in_err-next_dest : goal.returns-in_err-next_dest
returns-in_err-next_dest c =
    let p = c.args.before in
    let f : SFits w64 p.source_step = search rules in
    let g : SFits w64 p.dest_step = search rules in
    c.from_residual-in_err-next_dest.ensures
    ∙ join-over2 p c.args.extent c.args.source c.args.dest _ _ (c.past_last.ensures ∙ ap (past p.extent) (back f)) (c.past_last-2.ensures ∙ ap (past p.extent) (back g)) c.in_err-next_dest.was

pub returns-then-goes_on : goal.returns-then-goes_on
returns-then-goes_on c =
    let p = c.args.before in
    let f : SFits w64 p.source_step = search rules in
    let g : SFits w64 p.dest_step = search rules in
    elim c.if-source-next_source.branch [
      | then-source-next_source w ↦
          c.merge.ensures ∙ ap₂ (λ (x y : ℤ). as_merged (checked_axis (axis_of (p.extent * c.args.extent) x y))) (back f) (back g)
          ∙ join-merge p c.args.extent c.args.source c.args.dest _ _ (c.past_last.ensures ∙ ap (past p.extent) (back f)) (c.past_last-2.ensures ∙ ap (past p.extent) (back g))
          c.in_ok-next_source.next_source c.in_ok-next_dest.next_dest c.in_ok-next_source.was c.in_ok-next_dest.was
          (steps-same c.args.source c.in_ok-next_source.next_source c.ranges.source (search rules) w.if-source-next_source.true)
          (steps-same c.args.dest c.in_ok-next_dest.next_dest c.ranges.dest (search rules) (eqb-true _ _ (sym w.goes_on-is ∙ c.if-goes_on.true)))
      | else-source-next_source w ↦ absurd (w.if-source-next_source.false (eqb-true _ _ (sym w.goes_on-is ∙ c.if-goes_on.true)))
    ]

pub returns-else-goes_on : goal.returns-else-goes_on
returns-else-goes_on c =
    let p = c.args.before in
    let f : SFits w64 p.source_step = search rules in
    let g : SFits w64 p.dest_step = search rules in
    c.apart.ensures ∙ ap₂ (λ (x y : ℤ). as_apart (checked_axis (axis_of c.args.extent x y))) (back c.ranges.source) (back c.ranges.dest)
    ∙ elim c.if-source-next_source.branch [
      | then-source-next_source w ↦
          join-apart2 p c.args.extent c.args.source c.args.dest _ _ (c.past_last.ensures ∙ ap (past p.extent) (back f)) (c.past_last-2.ensures ∙ ap (past p.extent) (back g))
          c.in_ok-next_source.next_source c.in_ok-next_dest.next_dest c.in_ok-next_source.was c.in_ok-next_dest.was
          (steps-same c.args.source c.in_ok-next_source.next_source c.ranges.source (search rules) w.if-source-next_source.true)
          (steps-differ c.args.dest c.in_ok-next_dest.next_dest (eqb-false _ _ (sym w.goes_on-is ∙ c.if-goes_on.false)))
      | else-source-next_source w ↦
          join_apart p c.args.extent c.args.source c.args.dest _ _ (c.past_last.ensures ∙ ap (past p.extent) (back f)) (c.past_last-2.ensures ∙ ap (past p.extent) (back g))
          c.in_ok-next_source.next_source c.in_ok-next_dest.next_dest c.in_ok-next_source.was c.in_ok-next_dest.was
          (steps-differ c.args.source c.in_ok-next_source.next_source w.if-source-next_source.false)
    ]
