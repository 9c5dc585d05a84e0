-- Document 01's harbour cases marked as proved, as one table with one theorem about the definitions. Assumes nothing.
use Rattle.std.specs.Prelude.{◌≡◌, refl, Bool, true, false, List, [], ◌∷◌, ℕ, replicate, ℤ, pos, negsuc, ◌+ℤ◌, Option, Some, None}
use Rattle.integer.specs.Defs.{checked, checked_u, wrap32}
use Rattle.indexing.specs.Coordinates.{product, unravel, plus, dot_ℤ, place_of, tabulate, pick, spread, has, others_from}
use Rattle.indexing.specs.Start.{index_coordinate, start_index, clamp, start_on, full_start}
use Rattle.indexing.specs.Gather.{Gather, cells, batch_dims, shown_dims, gather_start, full_offset, operand_index, read_at, write_at, reads as reads_of, copy_each, gathered}
use Rattle.indexing.specs.Scatter.{Scatter, scatter_dims, window_dims, batch_shape, window_shape, windows, update_index, full_window, result_index, update_at, lands_at, joined, placed_updates, combined, scattered, scattered_i32}
use Rattle.indexing.specs.Answers.{harbour_windows, harbour_updates}
use Rattle.layout.specs.Spans.{total_from, total_of, reach_of, reset_of}
use Rattle.layout.specs.Nested.{has_zero, long_axes, insert, ordered, exceeds, nested}

-- a case: what is asked, and the answer (an overflow is refusal 3)
pub data Case : Type 0 where
  total : List ℕ → Option ℕ → Case
  clamped : ℤ → ℕ → ℕ → ℤ → Case
  reset : ℕ → ℤ → Option ℤ → Case
  nests : List ℕ → List ℤ → Bool → Case
  -- a gather or a scatter with starts, then the operand or the updates, then what the destination held, and what it holds
  reads : Gather → List ℤ → List ℤ → List ℤ → List ℤ → Case
  adds : Scatter → List ℤ → List ℤ → List ℤ → List ℤ → Case
  wraps : ℤ → ℤ → ℤ → Case

abbrev pub Holds : Case → Type 0
Holds (total extents answer) = total_of extents ≡ answer
Holds (clamped start extent window answer) = clamp start extent window ≡ answer
Holds (reset extent stride answer) = reset_of extent stride ≡ answer
Holds (nests extents strides answer) = nested extents strides ≡ answer
Holds (reads g starts operand held answer) = gathered (pos 0) g starts operand held ≡ answer
Holds (adds s starts updates held answer) = scattered_i32 s starts updates held ≡ answer
Holds (wraps a b answer) = wrap32 (a +ℤ b) ≡ answer

pub table : List Case
table =
    total [] (Some 1)
    ∷ total (18446744073709551615 ∷ 2 ∷ 0 ∷ []) None
    ∷ total (0 ∷ 18446744073709551615 ∷ 2 ∷ []) (Some 0)
    ∷ clamped (negsuc 4) 10 3 (pos 0)
    ∷ clamped (pos 7) 10 3 (pos 7)
    ∷ clamped (pos 8) 10 3 (pos 7)
    ∷ reset 2 (negsuc 9223372036854775807) None
    ∷ reset 1 (negsuc 9223372036854775807) (Some (pos 0))
    ∷ nests (2 ∷ 2 ∷ []) (pos 2 ∷ pos 3 ∷ []) true
    ∷ nests (3 ∷ 2 ∷ []) (pos 2 ∷ pos 3 ∷ []) false
    ∷ nests (1 ∷ 4 ∷ []) (pos 0 ∷ pos 1 ∷ []) true
    ∷ reads harbour_windows (pos 4 ∷ negsuc 0 ∷ []) (pos 10 ∷ pos 20 ∷ pos 30 ∷ pos 40 ∷ pos 50 ∷ []) (replicate 4 (pos 0)) (pos 40 ∷ pos 50 ∷ pos 10 ∷ pos 20 ∷ [])
    ∷ adds harbour_updates (pos 0 ∷ pos 0 ∷ pos 9 ∷ []) (pos 3 ∷ pos 4 ∷ pos 5 ∷ []) (replicate 5 (pos 0)) (pos 7 ∷ pos 0 ∷ pos 0 ∷ pos 0 ∷ pos 5 ∷ [])
    ∷ wraps (pos 2147483647) (pos 1) (negsuc 2147483647)
    ∷ []

abbrev pub All : List Case → Type 0
All [] = Unit {0}
All (c ∷ cs) = Holds c × All cs

-- EVERY CASE of the table holds
pub harbour : All table
unfolding table total_from checked_u reset_of reach_of checked nested has_zero long_axes insert ordered exceeds wrap32 gathered reads_of copy_each read_at write_at operand_index full_offset gather_start shown_dims batch_dims cells scattered combined placed_updates joined lands_at update_at result_index full_window update_index windows window_shape batch_shape window_dims scatter_dims full_start start_on clamp start_index index_coordinate place_of dot_ℤ plus unravel product tabulate pick spread has others_from
harbour = (refl, (refl, (refl, (refl, (refl, (refl, (refl, (refl, (refl, (refl, (refl, (refl, (refl, (refl, tt))))))))))))))
