pub mod Passed
pub mod Chains
