pub mod Numbers
pub mod Moving
pub mod Parts
pub mod Slid
