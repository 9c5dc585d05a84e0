-- The meaning of gather and scatter, and the laws about it.

-- what a reader must believe
pub mod Coordinates
pub mod Start
pub mod Gather
pub mod Scatter
pub mod Operand
pub mod Slid
-- what it gives in the papers' own cases
pub mod Answers
-- what one element holds at the end, and demand 3; the same as loops
pub mod Updates
pub mod Sums
pub mod Demand3
pub mod Loops
-- counts
pub mod Counting
pub mod Moved
-- the same of f64: exact sums, the sign of zero, NaN and infinities
pub mod Whole
pub mod Nan
-- the walk: a linear index and its coordinate, the successor, fusion of axes, the least and the greatest offset
pub mod Odometer
pub mod Linear
pub mod Reach
-- places as the sums that a walk makes
pub mod Axes
pub mod Steps
-- what compile has tested, and what follows: coordinates inside their views, each update once, places as indexes
pub mod Valid
pub mod Met
-- a part of the slice lent on
pub mod Parts
