pub mod Merged
pub mod Numbers
pub mod Moving
pub mod Slid
pub mod Rowed
pub mod Parts
pub mod Empty
