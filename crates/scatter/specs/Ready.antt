-- What is ready to be moved by a plan. Definitions only.
use Rattle.std.specs.Prelude.{List, ℤ, Ok}
use Rattle.layout.specs.declared.Reach.{Reach}
use Rattle.layout.specs.declared.View.{View}
use Rattle.replay.specs.Replays.{axes_from}
use Rattle.scatter_plan.specs.declared.ScatterPlan.{ScatterPlan}
use Rattle.scatter_plan.specs.Plan.{held_scatter}
use Rattle.scatter_move.specs.Prepared.{scatter_numbers, start_base}
use Rattle.scatter_move.specs.declared.PreparedScatter.{PreparedScatter}
use Rattle.scatter.specs.Calls.{scatter_of}

-- the numbers of the plan's scatter, the axes of its walk from batch to batch by the rows, and where the views begin
abbrev pub prepared_by : ScatterPlan → List (List ℤ) → View → View → View → Reach → PreparedScatter
prepared_by p b i u d reach =
    record {
      answer = Ok tt;
      reach = reach;
      numbers = scatter_numbers (held_scatter p);
      batch_axes = axes_from p.batch.extents b;
      index = start_base (scatter_of p i u d);
      updates = u.offset;
      dest = d.offset;
    }
