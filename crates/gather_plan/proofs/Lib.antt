pub mod Roles
pub mod Valid
pub mod Accepted
pub mod Compiled
pub mod Planned
pub mod Numbers
