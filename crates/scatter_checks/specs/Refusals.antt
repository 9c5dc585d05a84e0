-- To be believed. "Scatter": document 01's refusals of a scatter, in its order; the first hit counts. Definitions only.
use Rattle.std.specs.Prelude.{cond, List, [], ℕ, ◌-◌, leb, length, ℤ, Ok, Err}
use Rattle.indexing.specs.Coordinates.{pick, others}
use Rattle.indexing.specs.Start.{without}
use Rattle.indexing.specs.Scatter.{Scatter, batch_shape, window_shape, windows}
use Rattle.indexing.specs.Steps.{vector_stride, update_batch_steps, update_window_steps, land_steps}
use Rattle.layout.specs.Answers.{or_else, Answer}
use Rattle.layout.specs.Lists.{unique_axes}
use Rattle.layout.specs.Spans.{total_of, spanned}
use Rattle.axis_lists.specs.Held.{same_list}
use Rattle.checks.specs.Checks.{first_of, total_fits, span_fits, nested_refusal, same_count, vector_axis, components_of, windows_fit, view_from, layouts_refusal, offset_fits}
use Rattle.replay.specs.declared.CompiledReplay.{CompiledReplay}
use Rattle.replay.specs.Replays.{compiled_replay}
use Rattle.layout.specs.declared.Refusal.TheVariants as F

-- a scatter from its layouts and its spec's lists; where its views begin does not matter to a plan
abbrev pub scatter_from : List ℕ → List ℤ → List ℕ → List ℤ → List ℕ → List ℤ → List ℕ → List ℕ → List ℕ → ℕ → Scatter
scatter_from ie is ue us de ds window inserted map vector =
    record {
      spec = record { update-window-dims = window; inserted-window-dims = inserted; scatter-dims-to-operand-dims = map; index-vector-dim = vector };
      indices = view_from ie is;
      updates = view_from ue us;
      result = view_from de ds;
    }

-- "products of destination, index, updates; destination span (added)"
abbrev pub numbers_refusal : List ℕ → List ℕ → List ℕ → List ℤ → Answer
numbers_refusal ie ue de ds = or_else (total_fits (total_of de)) (or_else (total_fits (total_of ie)) (or_else (total_fits (total_of ue)) (span_fits (spanned de ds))))

-- what comes before 4: "1; 2", for index, updates and destination, and those
unfoldable pub sizes_refusal : List ℕ → List ℤ → List ℕ → List ℤ → List ℕ → List ℤ → Answer
sizes_refusal ie is ue us de ds = or_else (layouts_refusal (length ie) (length is) (length ue) (length us) (length de) (length ds)) (numbers_refusal ie ue de ds)

-- "inserted axes, then scatter map (6); vector axis (6, as in gather); component count (5)"; the operand's axes are the destination's
abbrev pub lists_refusal : List ℕ → List ℕ → List ℕ → List ℕ → ℕ → Answer
lists_refusal ie de inserted map vector =
    or_else (unique_axes (length de) [] inserted) (or_else (unique_axes (length de) [] map)
    (or_else (vector_axis vector (length ie)) (same_count (components_of ie vector) (length map))))

-- 5 where a count is above another
abbrev pub count_at_most : ℕ → ℕ → Answer
count_at_most a b = cond (leb a b) (Ok tt) (Err (F.RankMismatch a b))

-- "window axis count against kept axes (5); that count above update rank (5); update rank less that count, against batch rank (5);
-- window axes (6, b = update rank)"
abbrev pub counts_refusal : List ℕ → List ℕ → List ℕ → List ℕ → List ℕ → ℕ → Answer
counts_refusal ie ue de window inserted vector =
    or_else (same_count (length window) (length (others (length de) inserted))) (or_else (count_at_most (length window) (length ue))
    (or_else (same_count (length ue - length window) (length (without vector ie))) (unique_axes (length ue) [] window)))

-- "batch extents (7)": those of the updates on their other axes against those of the index view without the vector axis
abbrev pub batch_refusal : List ℕ → List ℕ → List ℕ → ℕ → Answer
batch_refusal ie ue window vector =
    cond (same_list (pick 0 (others (length ue) window) ue) (without vector ie)) (Ok tt) (Err (F.ShapeMismatch (length ue) (length ue)))

-- all that is asked after 4 and before the window's own
abbrev pub axes_refusal : Scatter → Answer
axes_refusal s =
    or_else (lists_refusal s.indices.extents s.result.extents s.spec.inserted-window-dims s.spec.scatter-dims-to-operand-dims s.spec.index-vector-dim)
    (or_else (counts_refusal s.indices.extents s.updates.extents s.result.extents s.spec.update-window-dims s.spec.inserted-window-dims s.spec.index-vector-dim)
    (batch_refusal s.indices.extents s.updates.extents s.spec.update-window-dims s.spec.index-vector-dim))

-- the batch walk: from batch to batch, through the index view's starts (source) and the updates (destination)
unfoldable pub batch_walk : Scatter → CompiledReplay
batch_walk s = compiled_replay (batch_shape s) (without s.spec.index-vector-dim s.indices.strides) (update_batch_steps s)

-- the window walk: from cell to cell of a window, through the updates (source) and the grid (destination)
unfoldable pub window_walk : Scatter → CompiledReplay
window_walk s = compiled_replay (window_shape s) (update_window_steps s) (land_steps s)

-- "first window above its operand extent (6, inserted axes included ..); products of batch and of window shape (3); then batch and window walks (3)",
-- and the component offsets
abbrev pub walks_refusal : Scatter → Answer
walks_refusal s =
    or_else (windows_fit 0 s.result.extents (windows s))
    (or_else (total_fits (total_of (batch_shape s))) (or_else (total_fits (total_of (window_shape s)))
    (or_else (batch_walk s).answer (or_else (window_walk s).answer
    (first_of (offset_fits (vector_stride s.indices s.spec.index-vector-dim)) (length s.spec.scatter-dims-to-operand-dims) 0)))))

-- what comes after 4
unfoldable pub spec_refusal : Scatter → Answer
spec_refusal s = or_else (axes_refusal s) (walks_refusal s)

-- THE REFUSAL of a scatter, given what is answered in the place of 4
abbrev pub refusal_of : Answer → Scatter → Answer
refusal_of four s =
    or_else (sizes_refusal s.indices.extents s.indices.strides s.updates.extents s.updates.strides s.result.extents s.result.strides)
    (or_else four (spec_refusal s))

-- compile's: 4 where the destination is not nested. "4 not tried again" at a call: `refusal_of (Ok tt)`
abbrev pub compile_refusal : Scatter → Answer
compile_refusal s = refusal_of (nested_refusal s.result.extents s.result.strides) s
