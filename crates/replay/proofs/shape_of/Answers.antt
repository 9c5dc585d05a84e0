use Rattle.std.proofs.Common.{◌≡◌, ℕ, ◌<◌, length, get_or, rules}
use Rattle.layout.specs.Layouts.{rank_limit}
use Rattle.replay.specs.declared.WindowReplayAxis.{WindowReplayAxis}
use Rattle.replay.specs.Replays.{no_axis}
use Rattle.replay.proofs.Rows.{mapped}
use Rattle.replay.proofs.shape_of.Goals as goal

pub returns : goal.returns
returns c =
    let full : length c.args.axes ≡ rank_limit = search rules in
    let each : (i : ℕ) → i < rank_limit → get_or c.map.result i 0 ≡ (get_or c.args.axes i no_axis).extent = λ i l. let h = (c.map.ensures.items.at i no_axis 0 l).2 in search (rules, h) in
    mapped (λ (a : WindowReplayAxis). a.extent) c.args.axes c.map.result no_axis 0 full c.map.ensures.items.long each
