use Rattle.std.proofs.Common.{◌≡◌, ℕ, ◌<◌, [], length, get_or, rules}
use Rattle.layout.specs.Layouts.{rank_limit}
use Rattle.replay.specs.Replays.{no_axis, row_of}
use Rattle.replay.proofs.Rows.{mapped}
use Rattle.replay.proofs.rows_of.Goals as goal

pub returns : goal.returns
returns c =
    let full : length c.args.axes ≡ rank_limit = search rules in
    let each : (i : ℕ) → i < rank_limit → get_or c.map.result i [] ≡ row_of (get_or c.args.axes i no_axis) = λ i l. let h = (c.map.ensures.items.at i no_axis [] l).2 in search (rules, h) in
    mapped row_of c.args.axes c.map.result no_axis [] full c.map.ensures.items.long each
