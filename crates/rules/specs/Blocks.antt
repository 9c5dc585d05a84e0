-- How many cells a block copy has at most. Definitions only.
use Rattle.std.specs.Prelude.{ℕ}

abbrev pub block_cells : ℕ
block_cells = 32
