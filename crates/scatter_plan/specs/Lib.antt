-- what a reader must believe: the plan of a scatter, and what compile gives
pub mod Plan
