-- To be believed. How many windows slid: "the number of batch coordinates with at least one moved component". Definitions only.
use Rattle.std.specs.Prelude.{Bool, false, cond, not, ◌||◌, List, ℕ, zero, suc, ◌+◌, eqb, length, get_or, ℤ}
use Rattle.integer.specs.Defs.{eq_z}
use Rattle.indexing.specs.Coordinates.{rank, product, unravel, tabulate, has}
use Rattle.indexing.specs.Start.{clamp, start_index}
use Rattle.indexing.specs.Gather.{Gather, cells, gather_start}
use Rattle.indexing.specs.Scatter.{Scatter, batch_shape, windows}

-- whether the clamp moves a start: the clamped start is not the start
unfoldable pub moved : ℤ → ℕ → ℕ → Bool
moved start extent window = not (eq_z (clamp start extent window) start)

-- whether one of 0 .. n − 1 is so, and how many are
unfoldable pub one_of : ℕ → (ℕ → Bool) → Bool
one_of zero p = false
one_of (suc n) p = one_of n p || p n

unfoldable pub how_many : ℕ → (ℕ → Bool) → ℕ
how_many zero p = 0
how_many (suc n) p = how_many n p + cond (p n) 1 0

-- whether a start has a moved component: component c is clamped on the operand axis axes[c]
unfoldable pub slides : List ℕ → List ℕ → List ℕ → (ℕ → ℤ) → Bool
slides extents windows axes start = one_of (length axes) (λ c. moved (start c) (get_or extents (get_or axes c 0) 0) (get_or windows (get_or axes c 0) 0))

-- "the number is 0 when the destination of a gather, or the updates, have no cells"
abbrev pub slid_of : ℕ → ℕ → ℕ
slid_of cells count = cond (eqb cells 0) 0 count

-- the result's extents with 1 on offset_dims: the coordinates in them are the batch coordinates, each once
unfoldable pub batch_extents : Gather → List ℕ
batch_extents g = tabulate (rank g.result) (λ a. cond (has g.spec.offset-dims a) 1 (get_or g.result.extents a 0))

-- the number of a gather, and of a scatter: batch coordinate b is at linear index b
unfoldable pub slid_gather : Gather → List ℤ → ℕ
slid_gather g starts =
    slid_of (cells g) (how_many (product (batch_extents g)) (λ b. slides g.operand.extents g.spec.slice-sizes g.spec.start-index-map (gather_start g starts (unravel (batch_extents g) b))))

unfoldable pub slid_scatter : Scatter → List ℤ → ℕ
slid_scatter s starts =
    slid_of (product s.updates.extents)
    (how_many (product (batch_shape s)) (λ b. slides s.result.extents (windows s) s.spec.scatter-dims-to-operand-dims (start_index s.indices s.spec.index-vector-dim starts (unravel (batch_shape s) b))))
