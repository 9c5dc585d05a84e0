pub mod Linked
pub mod Accepted
