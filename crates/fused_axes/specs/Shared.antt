-- Where cells of the destination share an element the order of the axes matters, so there the axes are not sorted. Worked examples. Assumes nothing.
use Rattle.std.specs.Prelude.{◌≡◌, refl, List, [], ◌∷◌, ℕ, pos, Some}
use Rattle.indexing.specs.Coordinates.{product, unravel, dot}
use Rattle.indexing.specs.Odometer.{offset_at}
use Rattle.indexing.specs.Loops.{in_order}
use Rattle.integer.specs.Defs.{checked, checked_u}
use Rattle.layout.specs.Nested.{has_zero, nested, long_axes, insert, ordered, exceeds}
use Rattle.fused_axes.specs.Fusing.{cells_copied, axes_copied, the_axis, axes_of, placed, sorted_from, goes_on, merged_dim, merged_from, merged, fused, kept, rising, sorts, copy_axes, total_len}
use Rattle.fused_axes.specs.Fusing as C

-- extents [2,3], destination strides [2,1]: the cells (1,0) and (0,2) share element 2; the operand is dense
abbrev into : List ℕ
into = 9 ∷ 9 ∷ 9 ∷ 9 ∷ 9 ∷ []

abbrev from : List ℕ
from = 0 ∷ 1 ∷ 2 ∷ 3 ∷ 4 ∷ 5 ∷ []

-- first axis fastest, (0,2) comes last and stays
pub in-order : cells_copied 0 from (pos 0) (pos 0) (2 ∷ 3 ∷ []) (pos 1 ∷ pos 2 ∷ []) (pos 2 ∷ pos 1 ∷ []) into ≡ 0 ∷ 2 ∷ 4 ∷ 3 ∷ 5 ∷ []
unfolding product unravel dot offset_at in_order
in-order = refl

-- sorted, (1,0) does
pub out_of_order : axes_copied 0 from (pos 0) (pos 0) (fused (2 ∷ 3 ∷ []) (pos 2 ∷ pos 1 ∷ []) (pos 1 ∷ pos 2 ∷ [])) into ≡ 0 ∷ 2 ∷ 1 ∷ 3 ∷ 5 ∷ []
unfolding product unravel dot offset_at in_order has_zero axes_of C.long_axes placed sorted_from checked checked_u goes_on merged_dim merged_from merged fused
out_of_order = refl

-- so the axes stay as they are
pub not-sorted : copy_axes (2 ∷ 3 ∷ []) (pos 2 ∷ pos 1 ∷ []) (pos 1 ∷ pos 2 ∷ []) ≡ the_axis 2 (pos 2) (pos 1) ∷ the_axis 3 (pos 1) (pos 2) ∷ []
unfolding has_zero nested long_axes insert ordered exceeds axes_of C.long_axes checked checked_u goes_on merged_dim merged_from merged kept rising sorts copy_axes
not-sorted = refl

-- a dense operand and result given last axis fastest are one axis
pub dense-is-one : copy_axes (2 ∷ 1 ∷ 3 ∷ 4 ∷ []) (pos 12 ∷ pos 7 ∷ pos 4 ∷ pos 1 ∷ []) (pos 12 ∷ pos 0 ∷ pos 4 ∷ pos 1 ∷ []) ≡ the_axis 24 (pos 1) (pos 1) ∷ []
unfolding has_zero nested long_axes insert ordered exceeds axes_of C.long_axes placed sorted_from checked checked_u goes_on merged_dim merged_from merged fused rising sorts copy_axes
dense-is-one = refl

-- contiguous in one layout alone: two axes
pub one-side-apart : copy_axes (2 ∷ 3 ∷ []) (pos 1 ∷ pos 2 ∷ []) (pos 1 ∷ pos 4 ∷ []) ≡ the_axis 2 (pos 1) (pos 1) ∷ the_axis 3 (pos 2) (pos 4) ∷ []
unfolding has_zero nested long_axes insert ordered exceeds axes_of C.long_axes checked checked_u goes_on merged_dim merged_from merged kept rising sorts copy_axes
one-side-apart = refl

-- a zero extent: no elements, whatever the others
pub zero-whatever : total_len (18446744073709551615 ∷ 18446744073709551615 ∷ 0 ∷ []) ≡ Some 0
unfolding total_len has_zero
zero-whatever = refl
