use Rattle.std.specs.Prelude.{◌≡◌, List, ℕ, ℤ, take, Option, Some, None}
use Rattle.std.proofs.Common.{◌∙◌, rules, SFits}
use Rattle.std.specs.Int.{w64}
use Rattle.integer.specs.Z.{back}
use Rattle.layout.specs.declared.Span.{Span}
use Rattle.layout.specs.Spans.{spanned}
use Rattle.replay.specs.Replays.{given_axes, the_spans, refused_replay, walk_of, compiled_replay}
use Rattle.replay.proofs.compile_window_replay.Goals as goal

module _ (ds : List ℕ) (ss ts : List ℤ) (x y : Option Span) (ex : x ≡ spanned ds ss) (ey : y ≡ spanned ds ts) where
  passes : (a b : Span) → x ≡ Some a → y ≡ Some b → walk_of (given_axes ds ss ts) (the_spans a.low a.high b.low b.high) ≡ compiled_replay ds ss ts
  unfolding compiled_replay
  passes a b ox oy = rw (← ex, ox, ← ey, oy)

  stops2 : (a : Span) → x ≡ Some a → y ≡ None → refused_replay ≡ compiled_replay ds ss ts
  unfolding compiled_replay
  stops2 a ox oy = rw (← ex, ox, ← ey, oy)

stops : (ds : List ℕ) (ss ts : List ℤ) (x : Option Span) → x ≡ spanned ds ss → x ≡ None → refused_replay ≡ compiled_replay ds ss ts
unfolding compiled_replay
stops ds ss ts x ex ox = rw (← ex, ox)

pub returns-in_default : goal.returns-in_default
returns-in_default c = c.refused_replay.ensures ∙ stops (take c.args.rank c.args.shape) (take c.args.rank c.args.source_strides) (take c.args.rank c.args.dest_strides) c.held_span.result c.held_span.ensures c.in_default.is

pub returns-in_default-held_span : goal.returns-in_default-held_span
returns-in_default-held_span c =
    c.refused_replay-in_default-held_span.ensures
    ∙ stops2 (take c.args.rank c.args.shape) (take c.args.rank c.args.source_strides) (take c.args.rank c.args.dest_strides) c.held_span.result c.held_span-2.result c.held_span.ensures c.held_span-2.ensures c.in-Some.source c.in-Some.is c.in_default-held_span.is

pub returns : goal.returns
returns c =
    let a = c.in-Some.source in
    let b = c.in-Some-held_span.dest in
    let fa : SFits w64 a.low = search rules in
    let fb : SFits w64 a.high = search rules in
    let fc : SFits w64 b.low = search rules in
    let fd : SFits w64 b.high = search rules in
    c.fuse.ensures
    ∙ (λ ι. walk_of (given_axes (take c.args.rank c.args.shape) (take c.args.rank c.args.source_strides) (take c.args.rank c.args.dest_strides)) (the_spans (back fa ι) (back fb ι) (back fc ι) (back fd ι)))
    ∙ passes (take c.args.rank c.args.shape) (take c.args.rank c.args.source_strides) (take c.args.rank c.args.dest_strides) c.held_span.result c.held_span-2.result c.held_span.ensures c.held_span-2.ensures a b c.in-Some.is c.in-Some-held_span.is
