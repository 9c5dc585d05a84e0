pub mod Collapsed
pub mod Found
pub mod Offsets
