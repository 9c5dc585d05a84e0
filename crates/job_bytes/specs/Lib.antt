-- The fields of a stored job: what their bytes are, and what is read of bytes.
pub mod Version
pub mod Fields
pub mod Below
