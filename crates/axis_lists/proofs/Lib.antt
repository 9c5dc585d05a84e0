pub mod Filling
pub mod Slices
pub mod Without
