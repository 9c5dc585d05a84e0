pub mod Table
pub mod Slid
pub mod Operand
