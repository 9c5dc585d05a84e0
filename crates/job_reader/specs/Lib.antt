-- What the reader hands back.
pub mod Held
