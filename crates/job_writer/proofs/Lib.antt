pub mod Table
pub mod Parts
pub mod Trip
