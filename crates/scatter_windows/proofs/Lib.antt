pub mod Batches
pub mod Counted
pub mod Single
pub mod Levels
pub mod Whole
