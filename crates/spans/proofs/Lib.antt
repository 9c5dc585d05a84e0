pub mod Turns
pub mod Parts
pub mod Apart
pub mod Ends
