pub mod Tests
pub mod Arrays
pub mod Turns
pub mod Counts
