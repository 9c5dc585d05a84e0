-- What the contracts cite, and the laws of ℤ.

-- what a reader must believe
pub mod Defs
-- two tests at once
pub mod Tests
-- ℤ read as differences of naturals, for `omega`; order, sums, products and ranges
pub mod Z
pub mod Laws
-- what the needs of signed code ask
pub mod Machine
-- arithmetic modulo 2^32
pub mod Wrap
