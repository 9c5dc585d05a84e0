-- To be believed. The reach of a view, and the test of 9. Definitions only.
use Rattle.layout.specs.Answers.{Answer}
use Rattle.std.specs.Prelude.{cond, ◌&&◌, List, ℕ, ℤ, pos, ◌+ℤ◌, Ok, Err}
use Rattle.std.specs.Int.Signed.{le_z, lt_z}
use Rattle.integer.specs.Z.{up}
use Rattle.indexing.specs.Reach.{lowest, highest}
use Rattle.layout.specs.declared.Reach.{Reach}
use Rattle.layout.specs.declared.Reach.TheVariants as R
use Rattle.layout.specs.Nested.{has_zero}
use Rattle.layout.specs.declared.Refusal.TheVariants as F

-- "A view with cells needs all inside its slice; one without needs an offset from 0 to the length."
unfoldable pub view_reach : List ℕ → List ℤ → ℤ → ℕ → Reach
view_reach ds ss offset len =
    cond (has_zero ds)
    (cond (le_z (pos 0) offset && le_z offset (pos len)) R.NoCells R.Outside)
    (cond (le_z (pos 0) (offset +ℤ lowest ss ds) && lt_z (offset +ℤ highest ss ds) (pos len))
    (R.Cells (up (offset +ℤ lowest ss ds)) (up (offset +ℤ highest ss ds)))
    R.Outside)

-- 9: "a = view"
abbrev pub buffer_bounds : ℕ → Reach → Answer
buffer_bounds view (R.Cells low high) = Ok tt
buffer_bounds view R.NoCells = Ok tt
buffer_bounds view R.Outside = Err (F.BufferBounds view 0)
