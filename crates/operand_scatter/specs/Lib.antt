-- what a reader must believe: what a call with a plan and an operand answers
pub mod Calls
pub mod Copies
