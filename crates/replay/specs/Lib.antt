-- What a compiled walk is, and the laws about it.

-- what a reader must believe; what the parts of compile answer
pub mod Replays
pub mod Parts
-- the merged walk is the walk over the axes as they were given; how many cells it has
pub mod Merging
pub mod Cells
