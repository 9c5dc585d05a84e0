pub mod Joins
pub mod Turns
pub mod Rows
pub mod Merging
