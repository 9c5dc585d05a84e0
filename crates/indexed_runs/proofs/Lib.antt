pub mod Places
pub mod Starts
pub mod Cells
pub mod Puts
pub mod Ones
pub mod Counts
