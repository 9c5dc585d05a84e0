-- To be believed. "No plan is given": the layout and the lists that stand in the place of a plan's, of no axes. Definitions only.
use Rattle.std.specs.Prelude.{replicate, pos}
use Rattle.layout.specs.declared.Layout.{Layout}
use Rattle.layout.specs.Layouts.{rank_limit}
use Rattle.axis_lists.specs.Held.{Numbers, Steps}

abbrev pub no_layout : Layout
no_layout = record { rank = 0; extents = replicate rank_limit 1; strides = replicate rank_limit (pos 0) }

abbrev pub no_numbers : Numbers
no_numbers = record { count = 0; entries = replicate rank_limit 0 }

abbrev pub no_steps : Steps
no_steps = record { count = 0; entries = replicate rank_limit (pos 0) }
