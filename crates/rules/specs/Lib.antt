-- The combining rules of a scatter.

-- what a reader must believe: what a rule makes of a cell; when two ships may swap, and what a cell then holds
pub mod Rules
pub mod Blocks
pub mod Swaps
-- that it is so, for any lists of updates and any grid
pub mod Choice
pub mod Scatters
-- that no other pairing may swap without the condition
pub mod Needed
-- f64: the ceiling, and rules that do not round
pub mod Floats
-- a few cases
pub mod Cases
