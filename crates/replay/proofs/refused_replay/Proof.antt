use Rattle.std.specs.Prelude.{Err}
use lib.ListN.{replicate}
use lib.IntN.{pos}
use Rattle.layout.specs.Layouts.{rank_limit}
use Rattle.replay.specs.Replays.{the_spans}
use Rattle.replay.proofs.refused_replay.Statement.{statement}
use Rattle.replay.proofs.refused_replay.Tie as tie
use Rattle.layout.specs.declared.Refusal.TheVariants as F

returns : tie.Need-returns
returns c = λ ι. record { answer = Err F.OffsetOverflow; replay = record { rank = 0; extents = replicate rank_limit 1; spans = the_spans (pos 0) (pos 0) (pos 0) (pos 0) }; axes = replicate rank_limit (c.no_axis-empty.ensures ι) }

pub refused_replay_spec : {M : Type 1} → statement M
refused_replay_spec = tie.close (tie.spec (λ c κs. tt) returns)
