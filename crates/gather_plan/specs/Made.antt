-- The axes of a plan as the code makes them of any lists, where a number that does not fit counts as 0. Of a gather that is not refused they are
-- the plan's. Definitions only.
use Rattle.std.specs.Prelude.{List, ℕ, length, get_or, ℤ, pos}
use Rattle.indexing.specs.Coordinates.{tabulate}
use Rattle.layout.specs.Layouts.{rank_limit, padded}
use Rattle.checks.specs.Values.{reset_or}
use Rattle.gather_plan.specs.declared.GatherReplayAxis.{GatherReplayAxis}
use Rattle.gather_plan.specs.Plan.{role_of, axis_with, no_axis}

-- axis a, of the extents, the steps in destination, operand and index view, `offset_dims` and the axes that they show
abbrev pub axis_from : List ℕ → List ℤ → List ℤ → List ℤ → List ℕ → List ℕ → ℕ → GatherReplayAxis
axis_from ds ss ws bs offsets shown a = axis_with reset_or (role_of offsets shown a) (get_or ds a 0) (get_or ss a (pos 0)) (get_or ws a (pos 0)) (get_or bs a (pos 0))

unfoldable pub axes_from : List ℕ → List ℤ → List ℤ → List ℤ → List ℕ → List ℕ → List GatherReplayAxis
axes_from ds ss ws bs offsets shown = padded rank_limit no_axis (tabulate (length ds) (axis_from ds ss ws bs offsets shown))
