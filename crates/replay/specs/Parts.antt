-- What the parts of compile answer, by the definitions of `Replays`. Definitions only.
use Rattle.std.specs.Prelude.{cond, List, ℕ, ℤ, pos, ◌*ℤ◌, Option, Some, None, option_map, option_and_then}
use Rattle.integer.specs.Defs.{checked}
use Rattle.replay.specs.declared.WindowReplayAxis.{WindowReplayAxis}
use Rattle.replay.specs.declared.JoinedAxis.{JoinedAxis}
use Rattle.replay.specs.declared.JoinedAxis.TheVariants as J
use Rattle.replay.specs.declared.ReplaySpans.{ReplaySpans}
use Rattle.replay.specs.declared.CompiledReplay.{CompiledReplay}
use Rattle.replay.specs.Replays.{merges, joined, merged_from, axis_fits, past_fits, later_fit, where_fits}

-- a step times an extent, which must fit itself
unfoldable pub past : ℕ → ℤ → Option ℤ
past e s = option_and_then (λ m. checked (s *ℤ m)) (checked (pos e))

-- an axis, where it fits
abbrev pub checked_axis : WindowReplayAxis → Option WindowReplayAxis
checked_axis a = cond (axis_fits a) (Some a) None

-- the same as one axis with the axis before it, and as an axis of its own
abbrev pub as_merged : Option WindowReplayAxis → Option JoinedAxis
as_merged a = option_map J.Merged a

abbrev pub as_apart : Option WindowReplayAxis → Option JoinedAxis
as_apart a = option_map J.Apart a

-- axis a after the merged axis p
unfoldable pub joined_axis : WindowReplayAxis → WindowReplayAxis → Option JoinedAxis
joined_axis p a = cond (past_fits p) (cond (merges p a) (as_merged (checked_axis (joined p a))) (as_apart (checked_axis (joined p a)))) None

-- the walk of the merged axis p and the axes after it
abbrev pub walk_from : WindowReplayAxis → List WindowReplayAxis → ReplaySpans → CompiledReplay
walk_from p l spans = where_fits (later_fit p l) (merged_from p l) spans
