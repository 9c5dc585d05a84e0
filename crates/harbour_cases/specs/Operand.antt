-- A scatter on a chart, and a chart's copy, in small cases, by computation. Assumes nothing.
use Rattle.std.specs.Prelude.{◌≡◌, refl, List, [], ◌∷◌, ℕ, ℤ, pos, negsuc}
use Rattle.integer.specs.Defs.{wrap32}
use Rattle.indexing.specs.Coordinates.{View, product, unravel, plus, dot_ℤ, place_of, tabulate, pick, spread, has, others_from}
use Rattle.indexing.specs.Start.{index_coordinate, start_index, clamp, start_on, full_start}
use Rattle.indexing.specs.Gather.{copy_each}
use Rattle.indexing.specs.Scatter.{scatter_dims, window_dims, batch_shape, window_shape, windows, update_index, full_window, result_index, update_at, lands_at, joined, placed_updates, combined, add_i32, scattered}
use Rattle.indexing.specs.Operand.{cell_place, operand_reads, operand_copied}
use Rattle.indexing.specs.Answers.{harbour_updates}

abbrev view : List ℕ → List ℤ → ℤ → View
view es ss at = record { extents = es; strides = ss; offset = at }

-- document 01's scatter, starts 0 0 9 and updates 3 4 5, on a chart of five cells that lies as v says
abbrev harbour_on : View → List ℤ → List ℤ
harbour_on v chart =
    scattered add_i32 (pos 0) harbour_updates (pos 0 ∷ pos 0 ∷ pos 9 ∷ []) (pos 3 ∷ pos 4 ∷ pos 5 ∷ []) (operand_copied (pos 0) v harbour_updates.result chart (pos 1 ∷ pos 1 ∷ pos 1 ∷ pos 1 ∷ pos 1 ∷ []))

abbrev five : List ℤ
five = pos 10 ∷ pos 20 ∷ pos 30 ∷ pos 40 ∷ pos 50 ∷ []

pub record OperandCases : Type 0 where
  -- in the grid's order, backwards, and one element for every cell
  pub as-it-lies : harbour_on (view (5 ∷ []) (pos 1 ∷ []) (pos 0)) five ≡ pos 17 ∷ pos 20 ∷ pos 30 ∷ pos 40 ∷ pos 55 ∷ []
  pub backwards : harbour_on (view (5 ∷ []) (negsuc 0 ∷ []) (pos 4)) five ≡ pos 57 ∷ pos 40 ∷ pos 30 ∷ pos 20 ∷ pos 15 ∷ []
  pub one-for-all : harbour_on (view (5 ∷ []) (pos 0 ∷ []) (pos 2)) five ≡ pos 37 ∷ pos 30 ∷ pos 30 ∷ pos 30 ∷ pos 35 ∷ []
  -- two axes in the other order
  pub other-order : operand_copied (pos 0) (view (2 ∷ 2 ∷ []) (pos 2 ∷ pos 1 ∷ []) (pos 0)) (view (2 ∷ 2 ∷ []) (pos 1 ∷ pos 2 ∷ []) (pos 0)) (pos 1 ∷ pos 2 ∷ pos 3 ∷ pos 4 ∷ []) (pos 9 ∷ pos 9 ∷ pos 9 ∷ pos 9 ∷ []) ≡ pos 1 ∷ pos 3 ∷ pos 2 ∷ pos 4 ∷ []
  -- what lies between the cells stays
  pub between : operand_copied (pos 0) (view (2 ∷ []) (pos 1 ∷ []) (pos 0)) (view (2 ∷ []) (pos 2 ∷ []) (pos 1)) (pos 1 ∷ pos 2 ∷ []) (pos 9 ∷ pos 9 ∷ pos 9 ∷ pos 9 ∷ []) ≡ pos 9 ∷ pos 1 ∷ pos 9 ∷ pos 2 ∷ []
  -- "the last one copied stays"
  pub shared : operand_copied (pos 0) (view (2 ∷ []) (pos 1 ∷ []) (pos 0)) (view (2 ∷ []) (pos 0 ∷ []) (pos 0)) (pos 70 ∷ pos 80 ∷ []) (pos 9 ∷ []) ≡ pos 80 ∷ []
  -- no cells
  pub none : operand_copied (pos 0) (view (0 ∷ []) (pos 1 ∷ []) (pos 0)) (view (0 ∷ []) (pos 1 ∷ []) (pos 0)) [] (pos 9 ∷ []) ≡ pos 9 ∷ []

pub operand_cases : OperandCases
unfolding operand_copied operand_reads cell_place copy_each scattered combined placed_updates joined lands_at update_at result_index full_window update_index windows window_shape batch_shape window_dims scatter_dims full_start start_on clamp start_index index_coordinate place_of dot_ℤ plus unravel product tabulate pick spread has others_from wrap32
operand_cases =
    record {
      as-it-lies = refl;
      backwards = refl;
      one-for-all = refl;
      other-order = refl;
      between = refl;
      shared = refl;
      none = refl;
    }
