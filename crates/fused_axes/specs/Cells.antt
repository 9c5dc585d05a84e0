-- What a cell holds after the operand's copy, where no two cells of the result share an element. For any rank and any element type. Assumes nothing.
use Rattle.std.specs.Prelude.{◌≡◌, true, List, ℕ, ◌<◌, length, get_or, pos}
use Rattle.std.proofs.Common.{sym, ◌∙◌, arith}
use Rattle.indexing.specs.Coordinates.{View, product, element_at}
use Rattle.indexing.specs.Operand.{cell_place, operand_copied}
use Rattle.indexing.proofs.OperandCells.{cell-offset, copied-holds}
use Rattle.layout.specs.Nested.{nested}
use Rattle.fused_axes.specs.Fused.{Apart, nested-apart, apart-one}

module _ {A : Type 0} (z : A) (operand result : View) (from into : List A) (k i : ℕ) (h : k < product result.extents) (at : cell_place result result.extents k ≡ pos i) (room : i < length into) where
  -- A CELL holds the operand's element
  pub copied-cell : Apart result.extents result.strides → get_or (operand_copied z operand result from into) i z ≡ element_at z from (cell_place operand result.extents k)
  copied-cell apart = copied-holds z operand result from into k i h at room (λ m l g q. let n : k ≡ m = apart-one result.extents result.strides apart result.offset k m h g (sym (cell-offset result result.extents k) ∙ at ∙ sym q ∙ cell-offset result result.extents m) in omega arith)

  -- so where the result is nested
  pub nested-cell : length result.strides ≡ length result.extents → nested result.extents result.strides ≡ true → get_or (operand_copied z operand result from into) i z ≡ element_at z from (cell_place operand result.extents k)
  nested-cell l n = copied-cell (nested-apart result.extents result.strides l n)
