pub mod Levels
pub mod Single
pub mod Stills
pub mod Whole
pub mod Batches
