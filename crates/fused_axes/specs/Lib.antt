-- The axes that a copy goes over, and the laws about copies over them.

-- the element count, the fused axes
pub mod Fusing
-- the element count is the product, where it fits
pub mod Totals
-- two copies that agree; the same places over other axes; other orders of the axes
pub mod Copies
pub mod Same
pub mod Orders
-- the copy over the fused axes is the operand's copy; what a cell holds after it
pub mod Fused
pub mod Cells
-- the sorted axes rise, and an axis's place is the same counted from the back; where cells share an element the order matters
pub mod Sorted
pub mod Shared
