-- What layouts mean, and the laws about them.

-- what a reader must believe
pub mod Answers
pub mod Layouts
pub mod Spans
pub mod Lists
pub mod Nested
pub mod Reach
-- what the code adds up
pub mod Sums
-- what an accepted product, span, reset or offset is; a nested layout gives no two coordinates one offset
pub mod Laws
pub mod Distinct
pub mod Inside
