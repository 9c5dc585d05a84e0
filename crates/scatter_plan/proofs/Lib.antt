pub mod Accepted
pub mod Planned
pub mod Valid
pub mod Compiled
pub mod Numbers
