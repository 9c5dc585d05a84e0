-- What the writer leaves.
pub mod Written
