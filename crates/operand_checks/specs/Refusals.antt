-- To be believed. A scatter with an operand of its own, "a clean base chart under the cuts": its refusals, in the request's order; the first hit counts. Definitions only.
use Rattle.std.specs.Prelude.{cond, List, ℕ, eqb, length, ℤ, Ok, Err}
use Rattle.indexing.specs.Coordinates.{View}
use Rattle.indexing.specs.Scatter.{Scatter}
use Rattle.layout.specs.Answers.{or_else, Answer}
use Rattle.layout.specs.Layouts.{stride_length, rank_at_most}
use Rattle.layout.specs.Spans.{total_of, spanned}
use Rattle.equality.specs.Same.{same_by}
use Rattle.checks.specs.Checks.{total_fits, span_fits, nested_refusal}
use Rattle.scatter_checks.specs.Refusals.{spec_refusal}
use Rattle.layout.specs.declared.Refusal.TheVariants as F

-- "1 and 2 cover the operand first": operand, index, updates and destination, given the counts of extents and of strides
abbrev pub layouts_refusal : ℕ → ℕ → ℕ → ℕ → ℕ → ℕ → ℕ → ℕ → Answer
layouts_refusal oe os ie is ue us de ds =
    or_else (stride_length oe os) (or_else (stride_length ie is) (or_else (stride_length ue us) (or_else (stride_length de ds)
    (or_else (rank_at_most oe) (or_else (rank_at_most ie) (or_else (rank_at_most ue) (rank_at_most de)))))))

-- "7 .. when the two extents differ": a is the destination's rank, b the operand's
abbrev pub extents_refusal : List ℕ → List ℕ → Answer
extents_refusal de oe = cond (same_by eqb de oe) (Ok tt) (Err (F.ShapeMismatch (length de) (length oe)))

-- "its product replaces the destination's, and 7 is given right after the products ..; an operand span that does not fit gives 3 after the destination's, added"
abbrev pub numbers_refusal : List ℕ → List ℤ → List ℕ → List ℕ → List ℕ → List ℤ → Answer
numbers_refusal oe os ie ue de ds =
    or_else (total_fits (total_of oe)) (or_else (total_fits (total_of ie)) (or_else (total_fits (total_of ue))
    (or_else (extents_refusal de oe) (or_else (span_fits (spanned de ds)) (span_fits (spanned oe os))))))

-- what comes before 4, of the four layouts
unfoldable pub sizes_refusal : List ℕ → List ℤ → List ℕ → List ℤ → List ℕ → List ℤ → List ℕ → List ℤ → Answer
sizes_refusal oe os ie is ue us de ds =
    or_else (layouts_refusal (length oe) (length os) (length ie) (length is) (length ue) (length us) (length de) (length ds)) (numbers_refusal oe os ie ue de ds)

abbrev pub sizes_of : View → Scatter → Answer
sizes_of o s = sizes_refusal o.extents o.strides s.indices.extents s.indices.strides s.updates.extents s.updates.strides s.result.extents s.result.strides

-- THE REFUSAL of a scatter with an operand, given what is answered in the place of 4; what comes after it is the scatter's own
abbrev pub refusal_of : Answer → View → Scatter → Answer
refusal_of four o s = or_else (sizes_of o s) (or_else four (spec_refusal s))

-- compile's: 4 where the destination is not nested. "4 not tried again" at a call: `refusal_of (Ok tt)`
abbrev pub compile_refusal : View → Scatter → Answer
compile_refusal o s = refusal_of (nested_refusal s.result.extents s.result.strides) o s
