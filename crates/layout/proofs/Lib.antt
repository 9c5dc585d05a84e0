pub mod Turns
pub mod Fill
pub mod Unique
pub mod First
pub mod Products
