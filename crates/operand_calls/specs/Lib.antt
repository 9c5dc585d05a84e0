pub mod Calls
pub mod Prepared
