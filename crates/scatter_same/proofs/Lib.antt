pub mod Compare
pub mod Compiled
