pub mod Batches
pub mod Prepared
