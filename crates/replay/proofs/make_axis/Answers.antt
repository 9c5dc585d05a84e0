use Rattle.std.specs.Prelude.{◌≡◌, ℕ, ℤ, Some}
use Rattle.std.proofs.Common.{sym, ap, ◌∙◌, rules, SFits}
use Rattle.std.specs.Int.{w64}
use Rattle.integer.specs.Z.{back}
use Rattle.layout.specs.Spans.{reset_of}
use Rattle.replay.specs.Replays.{the_axis}
use Rattle.replay.proofs.Joins.{axis-fits}
use Rattle.replay.proofs.make_axis.Goals as goal

made : (d : ℕ) (s s' t t' a a' b b' : ℤ) → s ≡ s' → a ≡ a' → t ≡ t' → b ≡ b' → Some (the_axis d s a t b) ≡ Some (the_axis d s' a' t' b')
made d s s' t t' a a' b b' e f g h = cc

pub returns : goal.returns
returns c =
    let a = c.in_ok-back.back in
    let b = c.in_ok-home.home in
    let fa : SFits w64 a = search rules in
    let fb : SFits w64 b = search rules in
    made c.args.extent _ c.args.source _ c.args.dest _ a _ b (back c.ranges.source) (back fa) (back c.ranges.dest) (back fb)
    ∙ axis-fits c.args.extent c.args.source c.args.dest a b
    (sym (c.checked_replay_reset.ensures ∙ ap (reset_of c.args.extent) (back c.ranges.source)) ∙ c.in_ok-back.was)
    (sym (c.checked_replay_reset-2.ensures ∙ ap (reset_of c.args.extent) (back c.ranges.dest)) ∙ c.in_ok-home.was)
