pub mod Bytes
pub mod Putting
pub mod Reading
pub mod Back
pub mod Signs
