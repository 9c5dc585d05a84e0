-- what a reader must believe: demand 3, and demand 3 with an operand that is copied once
pub mod Orders
pub mod Operands
