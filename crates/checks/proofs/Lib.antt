pub mod Windows
pub mod FirstOf
pub mod Made
pub mod Lists
pub mod Held
pub mod Fits
pub mod Small
