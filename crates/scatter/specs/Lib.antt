-- what a reader must believe: what a call with a plan answers
pub mod Calls
pub mod Ready
