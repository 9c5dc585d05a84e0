-- To be believed. The checks that gather's compile and scatter's share, in document 01's words. Definitions only.
use Rattle.std.specs.Prelude.{cond, List, [], ◌∷◌, ℕ, zero, suc, ◌+◌, eqb, leb, length, get_or, ℤ, pos, Option, Some, None, Ok, Err}
use Rattle.layout.specs.Answers.{or_else, Answer}
use Rattle.layout.specs.Layouts.{stride_length, rank_at_most}
use Rattle.layout.specs.Nested.{nested}
use Rattle.layout.specs.Spans.{offset_add}
use Rattle.indexing.specs.Coordinates.{View}
use Rattle.layout.specs.declared.Refusal.TheVariants as F
use Rattle.layout.specs.declared.Span.{Span}

-- "first hit counts": of f i, f (i + 1), .., so many of them, the first that refuses
unfoldable pub first_of : (ℕ → Answer) → ℕ → ℕ → Answer
first_of f zero i = Ok tt
first_of f (suc n) i = or_else (f i) (first_of f n (suc i))

-- a view from its layout; where it begins does not matter to a plan
abbrev pub view_from : List ℕ → List ℤ → View
view_from es ss = record { extents = es; strides = ss; offset = pos 0 }

-- "1; 2": for three views in turn, given the counts of extents and of strides
abbrev pub layouts_refusal : ℕ → ℕ → ℕ → ℕ → ℕ → ℕ → Answer
layouts_refusal xe xs ye ys ze zs =
    or_else (stride_length xe xs) (or_else (stride_length ye ys) (or_else (stride_length ze zs)
    (or_else (rank_at_most xe) (or_else (rank_at_most ye) (rank_at_most ze)))))

-- 3: "a product, span .. does not fit"
abbrev pub total_fits : Option ℕ → Answer
total_fits (Some n) = Ok tt
total_fits None = Err F.OffsetOverflow

abbrev pub span_fits : Option Span → Answer
span_fits (Some span) = Ok tt
span_fits None = Err F.OffsetOverflow

-- 3 where a number does not fit
abbrev pub number_fits : Option ℤ → Answer
number_fits (Some z) = Ok tt
number_fits None = Err F.OffsetOverflow

-- the offset of component c: the vector axis's stride times c
abbrev pub offset_fits : ℤ → ℕ → Answer
offset_fits stride c = number_fits (offset_add (pos 0) stride c)

-- 4: "destination not nested"
abbrev pub nested_refusal : List ℕ → List ℤ → Answer
nested_refusal ds ss = cond (nested ds ss) (Ok tt) (Err F.NonInjectiveOutputLayout)

-- 5: "two counts differ"
abbrev pub same_count : ℕ → ℕ → Answer
same_count a b = cond (eqb a b) (Ok tt) (Err (F.RankMismatch a b))

-- 6: "vector axis above index rank (6, b = rank + 1)"
abbrev pub vector_axis : ℕ → ℕ → Answer
vector_axis vector rank = cond (leb vector rank) (Ok tt) (Err (F.InvalidAxis vector (rank + 1)))

-- how many components a start has: the extent of the vector axis, or one
abbrev pub components_of : List ℕ → ℕ → ℕ
components_of extents vector = cond (eqb vector (length extents)) 1 (get_or extents vector 0)

-- 6: "first window above its extent", of all axes, counted from a
unfoldable pub windows_from : ℕ → ℕ → List ℕ → List ℕ → Answer
windows_from rank a [] ws = Ok tt
windows_from rank a (d ∷ ds) [] = Ok tt
windows_from rank a (d ∷ ds) (w ∷ ws) = cond (leb w d) (windows_from rank (suc a) ds ws) (Err (F.InvalidAxis a rank))

abbrev pub windows_fit : ℕ → List ℕ → List ℕ → Answer
windows_fit a ds ws = windows_from (length ds) a ds ws
