-- A job by value, and the format in which it is stored.
pub mod Jobs
pub mod Format
pub mod Made
