pub mod Last
pub mod Levels
pub mod Reached
