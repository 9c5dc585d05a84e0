pub mod Refusals
pub mod Examine
