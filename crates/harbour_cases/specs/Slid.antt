-- How many windows slid, in small cases, by computation. Assumes nothing.
use Rattle.std.specs.Prelude.{◌≡◌, refl, [], ◌∷◌, ℕ, ℤ, pos, negsuc}
use Rattle.indexing.specs.Coordinates.{product, unravel, dot_ℤ, place_of, tabulate, pick, spread, has, others_from}
use Rattle.indexing.specs.Start.{index_coordinate, start_index, clamp}
use Rattle.indexing.specs.Gather.{Gather, cells, batch_dims, gather_start}
use Rattle.indexing.specs.Scatter.{scatter_dims, window_dims, batch_shape, window_shape, windows}
use Rattle.indexing.specs.Slid.{moved, one_of, how_many, slides, batch_extents, slid_gather, slid_scatter}
use Rattle.indexing.specs.Answers.{harbour_windows, harbour_updates}

-- windows of n cells of five, at two starts that lie so far apart in the index view
abbrev windows_of : ℕ → ℤ → Gather
windows_of n step =
    record {
      spec = record { offset-dims = 0 ∷ []; collapsed-slice-dims = []; start-index-map = 0 ∷ []; index-vector-dim = 1; slice-sizes = n ∷ [] };
      operand = record { extents = 5 ∷ []; strides = pos 1 ∷ []; offset = pos 0 };
      indices = record { extents = 2 ∷ []; strides = step ∷ []; offset = pos 0 };
      result = record { extents = n ∷ 2 ∷ []; strides = pos 1 ∷ pos n ∷ []; offset = pos 0 };
    }

-- one cell of a grid of three by four, at two starts of two components
abbrev cells_of : Gather
cells_of =
    record {
      spec = record { offset-dims = []; collapsed-slice-dims = 0 ∷ 1 ∷ []; start-index-map = 0 ∷ 1 ∷ []; index-vector-dim = 0; slice-sizes = 1 ∷ 1 ∷ [] };
      operand = record { extents = 3 ∷ 4 ∷ []; strides = pos 1 ∷ pos 3 ∷ []; offset = pos 0 };
      indices = record { extents = 2 ∷ 2 ∷ []; strides = pos 1 ∷ pos 2 ∷ []; offset = pos 0 };
      result = record { extents = 2 ∷ []; strides = pos 1 ∷ []; offset = pos 0 };
    }

pub record SlidCases : Type 0 where
  -- document 01's gather and scatter
  pub harbour-gather : slid_gather harbour_windows (pos 4 ∷ negsuc 0 ∷ []) ≡ 2
  pub harbour-scatter : slid_scatter harbour_updates (pos 0 ∷ pos 0 ∷ pos 9 ∷ []) ≡ 1
  -- the first and the last start that leave room stay, one past either is moved
  pub at-both-ends : slid_gather (windows_of 2 (pos 1)) (pos 0 ∷ pos 3 ∷ []) ≡ 0
  pub past-one-end : slid_gather (windows_of 2 (pos 1)) (pos 0 ∷ pos 4 ∷ []) ≡ 1
  pub past-both-ends : slid_gather (windows_of 2 (pos 1)) (negsuc 0 ∷ pos 4 ∷ []) ≡ 2
  -- a window as long as the grid: every start but 0 is moved
  pub whole-grid : slid_gather (windows_of 5 (pos 1)) (pos 0 ∷ pos 1 ∷ []) ≡ 1
  -- a start that two batch coordinates read through stride 0 counts for both
  pub read-by-both : slid_gather (windows_of 2 (pos 0)) (pos 4 ∷ []) ≡ 2
  -- no cells
  pub no_cells : slid_gather (windows_of 0 (pos 1)) (pos 9 ∷ pos 9 ∷ []) ≡ 0
  -- one component of two, the other, both, none
  pub one-component : slid_gather cells_of (pos 3 ∷ pos 0 ∷ pos 2 ∷ pos 4 ∷ []) ≡ 2
  pub both-components : slid_gather cells_of (pos 3 ∷ pos 4 ∷ pos 2 ∷ pos 3 ∷ []) ≡ 1

pub slid-cases : SlidCases
unfolding slid_gather slid_scatter slides how_many one_of moved batch_extents gather_start batch_dims cells windows window_shape batch_shape window_dims scatter_dims clamp start_index index_coordinate place_of dot_ℤ unravel product tabulate pick spread has others_from
slid-cases =
    record {
      harbour-gather = refl;
      harbour-scatter = refl;
      at-both-ends = refl;
      past-one-end = refl;
      past-both-ends = refl;
      whole-grid = refl;
      read-by-both = refl;
      no_cells = refl;
      one-component = refl;
      both-components = refl;
    }
