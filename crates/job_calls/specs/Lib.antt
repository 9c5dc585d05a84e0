-- what a reader must believe: what a call by a stored job answers
pub mod Jobs
