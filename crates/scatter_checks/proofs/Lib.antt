pub mod Read
pub mod Counts
pub mod Found
pub mod Rest
