-- What the reader of lists hands back.
pub mod Held
