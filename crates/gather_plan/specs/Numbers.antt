-- What the numbers of a plan's axes do, in the words of the gather's places: a role says where an axis moves, steps and resets move from cell to cell.
-- Definitions only.
use Rattle.std.specs.Prelude.{◌≡◌, cond, List, [], ◌∷◌, ℕ, ◌+◌, ◌<◌, ltb, length, get_or, ℤ, pos, ◌+ℤ◌}
use Rattle.indexing.specs.Coordinates.{rank, unravel, ints, place_of, pick}
use Rattle.indexing.specs.Start.{without, index_coordinate}
use Rattle.indexing.specs.Gather.{Gather, batch_dims, full_offset, write_at}
use Rattle.gather_plan.specs.declared.GatherReplayAxis.{GatherReplayAxis}

-- ---- the role

-- a window axis goes along the operand axis that it shows, and stands still in the index view
pub record WindowAxis (g : Gather) (axis : GatherReplayAxis) (shown : ℕ) : Type 0 where
  pub window : axis.window_step ≡ get_or g.operand.strides shown (pos 0)
  pub batch : axis.index_batch_step ≡ pos 0

-- a batch axis stands still in the operand; it is one of "batch axes in index order, the vector axis left out", and goes along that one in the index view
pub record BatchAxis (g : Gather) (axis : GatherReplayAxis) (a : ℕ) : Type 0 where
  pub number : ℕ
  pub among : number < length (batch_dims g)
  pub there : get_or (batch_dims g) number 0 ≡ a
  pub window : axis.window_step ≡ pos 0
  pub batch : axis.index_batch_step ≡ get_or (without g.spec.index-vector-dim g.indices.strides) number (pos 0)

-- ---- from cell to cell

-- one step, first axis fastest: the step of the axis that moves on, after the resets of the axes before it, which wrap
unfoldable pub stepped : (GatherReplayAxis → ℤ) → (GatherReplayAxis → ℤ) → List ℕ → List GatherReplayAxis → List ℕ → ℤ → ℤ
stepped step back [] axes cs z = z
stepped step back (d ∷ ds) [] cs z = z
stepped step back (d ∷ ds) (axis ∷ axes) [] z = z
stepped step back (d ∷ ds) (axis ∷ axes) (c ∷ cs) z = cond (ltb (c + 1) d) (z +ℤ step axis) (stepped step back ds axes cs (z +ℤ back axis))

-- the place of cell k's window coordinate in the operand, wherever the window starts: it starts at 0 here
abbrev pub window_place : Gather → ℕ → ℤ
window_place g k = place_of g.operand (ints (full_offset g (unravel g.result.extents k)))

-- the place in the index view of component c of cell k's start
abbrev pub component_place : Gather → ℕ → ℕ → ℤ
component_place g c k = place_of g.indices (ints (index_coordinate g.spec.index-vector-dim (rank g.indices) (pick 0 (batch_dims g) (unravel g.result.extents k)) c))

-- from cell k to the next on each of the three sides, at every k: past the last cell the odometer starts again
pub record NextCell (g : Gather) (axes : List GatherReplayAxis) (k : ℕ) : Type 0 where
  pub dest : stepped (λ a. a.dest_step) (λ a. a.dest_reset) g.result.extents axes (unravel g.result.extents k) (write_at g k) ≡ write_at g (k + 1)
  pub window : stepped (λ a. a.window_step) (λ a. a.window_reset) g.result.extents axes (unravel g.result.extents k) (window_place g k) ≡ window_place g (k + 1)
  pub batch : (c : ℕ) → stepped (λ a. a.index_batch_step) (λ a. a.index_batch_reset) g.result.extents axes (unravel g.result.extents k) (component_place g c k) ≡ component_place g c (k + 1)
