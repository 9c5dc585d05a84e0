pub mod Turns
pub mod Place
pub mod Runs
pub mod Blocks
