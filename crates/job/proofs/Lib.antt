pub mod PartsBack
pub mod RoundTrip
pub mod Making
pub mod Stored
