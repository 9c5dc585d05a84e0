pub mod Covers
pub mod Sums
pub mod Same
pub mod Does
