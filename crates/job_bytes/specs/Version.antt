-- To be believed. Document 01, "The stored job": the version byte, the limits of what that version stores, and how they stand to each other and to the rank limit. Only this file has them.
use Rattle.std.specs.Prelude.{ℕ, ◌≤◌}
use Rattle.std.proofs.Common.{arith}
use Rattle.layout.specs.Layouts.{rank_limit}

-- "version byte 1"
abbrev pub version : ℕ
version = 1

-- "a rank byte (0 to 8)": of what is stored, not of layouts at large
abbrev pub stored_rank_limit : ℕ
stored_rank_limit = 8

-- "a count byte (at most 16)"
abbrev pub list_limit : ℕ
list_limit = 16

-- what is stored can be held as a layout, and its axes are words that a list has room for
pub stored-held : stored_rank_limit ≤ rank_limit
stored-held = omega arith

pub stored-listed : stored_rank_limit ≤ list_limit
stored-listed = omega arith
