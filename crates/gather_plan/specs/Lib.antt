-- what a reader must believe: the plan of a gather, and what compile gives; what the numbers of its axes do
pub mod Plan
pub mod Numbers
-- what the code makes of any arguments
pub mod Made
