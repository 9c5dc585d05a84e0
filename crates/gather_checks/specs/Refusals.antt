-- To be believed. "Gather, first hit counts": document 01's refusals of a gather, in its order. Definitions only.
use Rattle.std.specs.Prelude.{Bool, cond, ◌&&◌, List, [], ◌∷◌, ℕ, ◌+◌, eqb, length, get_or, ℤ, pos, Ok, Err}
use Rattle.indexing.specs.Coordinates.{pick, others}
use Rattle.indexing.specs.Start.{without}
use Rattle.indexing.specs.Gather.{Gather}
use Rattle.indexing.specs.Steps.{window_steps, batch_steps}
use Rattle.layout.specs.Answers.{or_else, Answer}
use Rattle.layout.specs.Lists.{unique_axes}
use Rattle.layout.specs.Spans.{total_of, spanned, reset_of}
use Rattle.axis_lists.specs.Held.{same_list}
use Rattle.checks.specs.Checks.{view_from, layouts_refusal, first_of, total_fits, span_fits, number_fits, nested_refusal, same_count, vector_axis, components_of, windows_fit}
use Rattle.layout.specs.declared.Refusal.TheVariants as F

-- a gather from its layouts and its spec's lists; where its views begin does not matter to a plan
abbrev pub gather_from : List ℕ → List ℤ → List ℕ → List ℤ → List ℕ → List ℤ → List ℕ → List ℕ → List ℕ → ℕ → List ℕ → Gather
gather_from oe os ie is de ds offsets collapsed map vector sizes =
    record {
      spec = record { offset-dims = offsets; collapsed-slice-dims = collapsed; start-index-map = map; index-vector-dim = vector; slice-sizes = sizes };
      operand = view_from oe os;
      indices = view_from ie is;
      result = view_from de ds;
    }

-- "products of operand, index, destination; their spans"
abbrev pub numbers_refusal : List ℕ → List ℤ → List ℕ → List ℤ → List ℕ → List ℤ → Answer
numbers_refusal oe os ie is de ds =
    or_else (total_fits (total_of oe)) (or_else (total_fits (total_of ie)) (or_else (total_fits (total_of de))
    (or_else (span_fits (spanned oe os)) (or_else (span_fits (spanned ie is)) (span_fits (spanned de ds))))))

-- what comes before 4: "1; 2" and those
unfoldable pub sizes_refusal : List ℕ → List ℤ → List ℕ → List ℤ → List ℕ → List ℤ → Answer
sizes_refusal oe os ie is de ds = or_else (layouts_refusal (length oe) (length os) (length ie) (length is) (length de) (length ds)) (numbers_refusal oe os ie is de ds)

-- "first collapsed axis with window not 1 (6)", in list order
unfoldable pub collapsed_one : ℕ → List ℕ → List ℕ → Answer
collapsed_one rank sizes [] = Ok tt
collapsed_one rank sizes (a ∷ rest) = cond (eqb (get_or sizes a 0) 1) (collapsed_one rank sizes rest) (Err (F.InvalidAxis a rank))

-- "slice sizes against operand rank (5); collapsed axes, then start map, in range and unrepeated (6); vector axis above index rank (6, b = rank + 1);
-- first window above its extent (6); first collapsed axis with window not 1 (6)"
abbrev pub lists_refusal : List ℕ → List ℕ → List ℕ → List ℕ → ℕ → List ℕ → Answer
lists_refusal oe ie collapsed map vector sizes =
    or_else (same_count (length sizes) (length oe)) (or_else (unique_axes (length oe) [] collapsed) (or_else (unique_axes (length oe) [] map)
    (or_else (vector_axis vector (length ie)) (or_else (windows_fit 0 oe sizes) (collapsed_one (length oe) sizes collapsed)))))

-- "component count against map length (5); `offset_dims` count against kept axes (5);
-- `offset_dims` in range and unrepeated (6, b = batch axes plus window axes)"
abbrev pub counts_refusal : List ℕ → List ℕ → List ℕ → List ℕ → List ℕ → ℕ → Answer
counts_refusal oe ie offsets collapsed map vector =
    or_else (same_count (components_of ie vector) (length map)) (or_else (same_count (length offsets) (length (others (length oe) collapsed)))
    (unique_axes (length (without vector ie) + length offsets) [] offsets))

-- "shape (7)": the destination has as many axes as batch and window together, the window extents on `offset_dims`, in list order,
-- and the batch extents, those of the index view without the vector axis, on its other axes
unfoldable pub shape_fits : List ℕ → List ℕ → List ℕ → List ℕ → List ℕ → ℕ → List ℕ → Bool
shape_fits oe ie de offsets collapsed vector sizes =
    eqb (length de) (length (without vector ie) + length offsets)
    && (same_list (pick 0 offsets de) (pick 0 (others (length oe) collapsed) sizes)
    && same_list (pick 0 (others (length de) offsets) de) (without vector ie))

abbrev pub shape_refusal : List ℕ → List ℕ → List ℕ → List ℕ → List ℕ → ℕ → List ℕ → Answer
shape_refusal oe ie de offsets collapsed vector sizes =
    cond (shape_fits oe ie de offsets collapsed vector sizes) (Ok tt) (Err (F.ShapeMismatch (length de) (length (without vector ie) + length offsets)))

-- "resets (3)": on each axis of the result those of its own step, of the window's and of the batch's
abbrev pub axis_resets : ℕ → ℤ → ℤ → ℤ → Answer
axis_resets d s w b = or_else (number_fits (reset_of d s)) (or_else (number_fits (reset_of d w)) (number_fits (reset_of d b)))

abbrev pub resets_at : List ℕ → List ℤ → List ℤ → List ℤ → ℕ → Answer
resets_at ds ss ws bs i = axis_resets (get_or ds i 0) (get_or ss i (pos 0)) (get_or ws i (pos 0)) (get_or bs i (pos 0))

abbrev pub resets_refusal : List ℕ → List ℤ → List ℤ → List ℤ → Answer
resets_refusal de ds window batch = first_of (resets_at de ds window batch) (length de) 0

-- what comes after 4
unfoldable pub spec_refusal : Gather → Answer
spec_refusal g =
    or_else (lists_refusal g.operand.extents g.indices.extents g.spec.collapsed-slice-dims g.spec.start-index-map g.spec.index-vector-dim g.spec.slice-sizes)
    (or_else (counts_refusal g.operand.extents g.indices.extents g.spec.offset-dims g.spec.collapsed-slice-dims g.spec.start-index-map g.spec.index-vector-dim)
    (or_else (shape_refusal g.operand.extents g.indices.extents g.result.extents g.spec.offset-dims g.spec.collapsed-slice-dims g.spec.index-vector-dim g.spec.slice-sizes)
    (resets_refusal g.result.extents g.result.strides (window_steps g) (batch_steps g))))

-- THE REFUSAL of a gather, given what is answered in the place of 4
abbrev pub refusal_of : Answer → Gather → Answer
refusal_of four g =
    or_else (sizes_refusal g.operand.extents g.operand.strides g.indices.extents g.indices.strides g.result.extents g.result.strides)
    (or_else four (spec_refusal g))

-- compile's: 4 where the destination is not nested. "4 not tried again" at a call: `refusal_of (Ok tt)`
abbrev pub compile_refusal : Gather → Answer
compile_refusal g = refusal_of (nested_refusal g.result.extents g.result.strides) g
