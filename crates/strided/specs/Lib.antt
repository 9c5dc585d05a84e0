pub mod Words
pub mod Named
pub mod Stored
