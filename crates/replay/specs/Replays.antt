-- To be believed. The walk of a window over two sides, source and destination (000, `WindowReplay`): document 01's sentence on walks, over exact integers. Definitions only.
use Rattle.std.specs.Prelude.{Bool, true, false, cond, ◌&&◌, List, [], ◌∷◌, map, ℕ, ◌*◌, ◌^◌, ltb, length, get_or, replicate, ℤ, pos, ◌*ℤ◌, Option, Some, None, Ok, Err}
use Rattle.integer.specs.Defs.{checked, eq_z}
use Rattle.indexing.specs.Coordinates.{tabulate}
use Rattle.layout.specs.Layouts.{rank_limit, padded}
use Rattle.layout.specs.Spans.{spanned, reset, reset_of}
use Rattle.replay.specs.declared.WindowReplayAxis.{WindowReplayAxis}
use Rattle.replay.specs.declared.ReplaySpans.{ReplaySpans}
use Rattle.replay.specs.declared.CompiledReplay.{CompiledReplay}
use Rattle.layout.specs.declared.Refusal.TheVariants as F
use Rattle.layout.specs.declared.Span.{Span}

-- ---- the axes: extent, source step and reset, destination step and reset
abbrev pub the_axis : ℕ → ℤ → ℤ → ℤ → ℤ → WindowReplayAxis
the_axis d s sr t tr = record { extent = d; source_step = s; source_reset = sr; dest_step = t; dest_reset = tr }

-- an axis of extent d with steps s and t; a reset goes back over extent − 1 steps
abbrev pub axis_of : ℕ → ℤ → ℤ → WindowReplayAxis
axis_of d s t = the_axis d s (reset d s) t (reset d t)

-- the axes as they are given
unfoldable pub given_axes : List ℕ → List ℤ → List ℤ → List WindowReplayAxis
given_axes [] ss ts = []
given_axes (d ∷ ds) [] ts = []
given_axes (d ∷ ds) (s ∷ ss) [] = []
given_axes (d ∷ ds) (s ∷ ss) (t ∷ ts) = axis_of d s t ∷ given_axes ds ss ts

-- axis a merges into the merged axis p before it where on both sides its step is p's step times p's extent
abbrev pub merges : WindowReplayAxis → WindowReplayAxis → Bool
merges p a = eq_z a.source_step (p.source_step *ℤ pos p.extent) && eq_z a.dest_step (p.dest_step *ℤ pos p.extent)

-- the merged axis at a: the two as one, with p's steps, or a itself
abbrev pub joined : WindowReplayAxis → WindowReplayAxis → WindowReplayAxis
joined p a = cond (merges p a) (axis_of (p.extent * a.extent) p.source_step p.dest_step) a

-- the merged axes from p on: p is one of them where the next axis does not merge into it
unfoldable pub merged_from : WindowReplayAxis → List WindowReplayAxis → List WindowReplayAxis
merged_from p [] = p ∷ []
merged_from p (a ∷ l) = cond (merges p a) (merged_from (joined p a) l) (p ∷ merged_from (joined p a) l)

abbrev pub merged_axes : List WindowReplayAxis → List WindowReplayAxis
merged_axes [] = []
merged_axes (a ∷ l) = merged_from a l

-- ---- what must fit
abbrev pub is_fits : Option ℤ → Bool
is_fits (Some z) = true
is_fits None = false

-- "merged extents must fit u64 .., resets .. i64"
abbrev pub axis_fits : WindowReplayAxis → Bool
axis_fits a = ltb a.extent (2 ^ 64) && (is_fits (reset_of a.extent a.source_step) && is_fits (reset_of a.extent a.dest_step))

-- "the preceding merged axis's extent, and both its steps times that extent, must fit i64"
abbrev pub past_fits : WindowReplayAxis → Bool
past_fits p = is_fits (checked (pos p.extent)) && (is_fits (checked (p.source_step *ℤ pos p.extent)) && is_fits (checked (p.dest_step *ℤ pos p.extent)))

-- "for each later axis .., whether or not the two merge": p is the preceding merged axis
unfoldable pub later_fit : WindowReplayAxis → List WindowReplayAxis → Bool
later_fit p [] = true
later_fit p (a ∷ l) = past_fits p && (axis_fits (joined p a) && later_fit (joined p a) l)

abbrev pub axes_fit : List WindowReplayAxis → Bool
axes_fit [] = true
axes_fit (a ∷ l) = axis_fits a && later_fit a l

-- ---- as it is held: past the rank stand axes of extent 1 with steps and resets of 0
abbrev pub no_axis : WindowReplayAxis
no_axis = the_axis 1 (pos 0) (pos 0) (pos 0) (pos 0)

abbrev pub the_spans : ℤ → ℤ → ℤ → ℤ → ReplaySpans
the_spans a b c d = record { source_low = a; source_high = b; dest_low = c; dest_high = d }

abbrev pub extents : List WindowReplayAxis → List ℕ
extents = map (λ (a : WindowReplayAxis). a.extent)

-- the walk keeps rank, extents and spans; its axes stand beside it
abbrev pub done_replay : ℕ → List WindowReplayAxis → ReplaySpans → CompiledReplay
done_replay n axes spans = record { answer = Ok tt; replay = record { rank = n; extents = extents axes; spans = spans }; axes = axes }

-- where it is refused, by 3, the walk of no axes stands in its place
abbrev pub refused_replay : CompiledReplay
refused_replay = record { answer = Err F.OffsetOverflow; replay = record { rank = 0; extents = replicate rank_limit 1; spans = the_spans (pos 0) (pos 0) (pos 0) (pos 0) }; axes = replicate rank_limit no_axis }

-- the merged axes l with these spans where all fits, or the refusal; so of the axes of a window
abbrev pub where_fits : Bool → List WindowReplayAxis → ReplaySpans → CompiledReplay
where_fits t l spans = cond t (done_replay (length l) (padded rank_limit no_axis l) spans) refused_replay

abbrev pub walk_of : List WindowReplayAxis → ReplaySpans → CompiledReplay
walk_of l spans = where_fits (axes_fit l) (merged_axes l) spans

-- "spans of both sides"
abbrev pub after_spans : Option Span → Option Span → (ReplaySpans → CompiledReplay) → CompiledReplay
after_spans (Some source) (Some dest) f = f (the_spans source.low source.high dest.low dest.high)
after_spans (Some source) None f = refused_replay
after_spans None y f = refused_replay

-- THE WALK: its merged axes with both spans, or refusal 3
unfoldable pub compiled_replay : List ℕ → List ℤ → List ℤ → CompiledReplay
compiled_replay ds ss ts = after_spans (spanned ds ss) (spanned ds ts) (λ spans. walk_of (given_axes ds ss ts) spans)

-- ---- each side's steps, and the rows, "one per axis, four numbers in a row"
abbrev pub sources : List WindowReplayAxis → List ℤ
sources = map (λ (a : WindowReplayAxis). a.source_step)

abbrev pub dests : List WindowReplayAxis → List ℤ
dests = map (λ (a : WindowReplayAxis). a.dest_step)

abbrev pub row_of : WindowReplayAxis → List ℤ
row_of a = a.source_step ∷ a.source_reset ∷ a.dest_step ∷ a.dest_reset ∷ []

abbrev pub rows_of : List WindowReplayAxis → List (List ℤ)
rows_of = map row_of

-- the axes of these extents and rows
abbrev pub axes_from : List ℕ → List (List ℤ) → List WindowReplayAxis
axes_from es rows =
    tabulate rank_limit (λ i. the_axis (get_or es i 0) (get_or (get_or rows i []) 0 (pos 0)) (get_or (get_or rows i []) 1 (pos 0)) (get_or (get_or rows i []) 2 (pos 0)) (get_or (get_or rows i []) 3 (pos 0)))
