-- Exported calls that are accepted: document 01's scatter on five cells, by any listed rule, and its gather, by lists. Assumes nothing.
use Rattle.std.specs.Prelude.{◌≡◌, refl, List, [], ◌∷◌, ℕ, pos, negsuc, Ok}
use Rattle.std.proofs.Common.{ap}
use Rattle.axis_lists.specs.Held.{same_list}
use Rattle.checks.specs.Checks.{first_of, windows_from}
use Rattle.gather_checks.specs.Refusals.{collapsed_one, shape_fits, sizes_refusal as gather_sizes, spec_refusal as gather_spec}
use Rattle.indexing.specs.Coordinates.{has, others_from, pick, spread}
use Rattle.indexing.specs.Gather.{batch_dims, shown_dims}
use Rattle.indexing.specs.Reach.{highest, lowest}
use Rattle.indexing.specs.Scatter.{batch_shape, scatter_dims, window_dims, window_shape, windows}
use Rattle.indexing.specs.Start.{without}
use Rattle.indexing.specs.Steps.{batch_steps, land_steps, update_batch_steps, update_window_steps, window_steps}
use Rattle.integer.specs.Defs.{checked, checked_u}
use Rattle.layout.specs.Layouts.{padded}
use Rattle.layout.specs.Lists.{unique_axes}
use Rattle.layout.specs.Nested.{exceeds, has_zero, insert, long_axes, nested, ordered}
use Rattle.layout.specs.Reach.{view_reach}
use Rattle.layout.specs.Spans.{offset_add, reach_of, reset_of, span_from, total_from, widened}
use Rattle.replay.specs.Replays.{given_axes, merged_from, later_fit, compiled_replay}
use Rattle.scatter_checks.specs.Refusals.{batch_walk, window_walk, sizes_refusal as scatter_sizes, spec_refusal as scatter_spec}
use Rattle.indexing.specs.Answers.{harbour_windows, harbour_updates}
use Rattle.layout.specs.Answers.{or_else, Answer}
use Rattle.scatter_lists.specs.Lists.{by_lists}
use Rattle.strided.specs.Named.{rule_refusal, rules_i32}
use Rattle.linked_order.specs.Linked.{LinkedScatter, LinkedGather, scatter_call, gather_call}

-- by the views that are compiled for
abbrev pub harbour_scatter : ℕ → LinkedScatter
harbour_scatter rule = LinkedScatter.lists rule harbour_updates harbour_updates.indices harbour_updates.updates harbour_updates.result (pos 0 ∷ pos 0 ∷ pos 9 ∷ []) (pos 3 ∷ pos 4 ∷ pos 5 ∷ [])

abbrev pub harbour_gather : LinkedGather
harbour_gather = LinkedGather.lists harbour_windows harbour_windows.operand harbour_windows.indices harbour_windows.result (pos 4 ∷ negsuc 0 ∷ [])

pub scatter-accepted : (rule : ℕ) → rule_refusal rules_i32 rule ≡ Ok tt → (scatter_call (harbour_scatter rule)).answer 5 ≡ Ok tt
unfolding same_list first_of windows_from has others_from pick spread highest lowest batch_shape scatter_dims window_dims window_shape windows without batch_steps land_steps update_batch_steps update_window_steps window_steps checked checked_u padded unique_axes exceeds has_zero insert long_axes nested ordered view_reach offset_add reach_of reset_of span_from total_from widened given_axes merged_from later_fit compiled_replay batch_walk window_walk scatter_sizes scatter_spec
scatter-accepted rule e = ap (λ (x : Answer). or_else x ((by_lists harbour_updates harbour_updates.indices harbour_updates.updates harbour_updates.result (pos 0 ∷ pos 0 ∷ pos 9 ∷ []) (pos 3 ∷ pos 4 ∷ pos 5 ∷ [])).answer 5)) e

pub gather-accepted : (gather_call harbour_gather).answer 5 4 ≡ Ok tt
unfolding same_list first_of windows_from collapsed_one shape_fits gather_sizes gather_spec has others_from pick spread batch_dims shown_dims highest lowest without batch_steps land_steps update_batch_steps update_window_steps window_steps checked checked_u padded unique_axes exceeds has_zero insert long_axes nested ordered view_reach offset_add reach_of reset_of span_from total_from widened
gather-accepted = refl
