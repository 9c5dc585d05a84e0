-- To be believed. The operand of a scatter, "a clean base chart under the cuts": its copy into the result before the updates. Definitions only.
use Rattle.std.specs.Prelude.{List, ℕ, ℤ}
use Rattle.indexing.specs.Coordinates.{View, product, unravel, ints, place_of, tabulate}
use Rattle.indexing.specs.Gather.{Read, copy_each}

-- the place of cell k of the extents in a view, "first axis fastest"
unfoldable pub cell_place : View → List ℕ → ℕ → ℤ
cell_place v extents k = place_of v (ints (unravel extents k))

-- "the cell-by-cell copy": cell k of the result is written from cell k of the operand, whose extents are the result's
unfoldable pub operand_reads : View → View → List Read
operand_reads operand result = tabulate (product result.extents) (λ k. (cell_place result result.extents k, cell_place operand result.extents k))

-- what the copy leaves in the result's slice: "the last one copied stays"; elements that no cell names keep their own
unfoldable pub operand_copied : {A : Type 0} → A → View → View → List A → List A → List A
operand_copied d operand result from into = copy_each d (operand_reads operand result) from into
