-- Whether two views have the same layout, as a test and as equations. Assumes nothing.
use mathlib.Core.Path.{◌≡◌}
use mathlib.Core.Bool.{Bool, true}
use mathlib.Core.List.{List}
use Prim.Native.Nat.{ℕ}
use lib.Dec.{eqb}
use Rattle.integer.specs.Defs.{eq_z}
use Rattle.integer.specs.Tests.{and-true, and_both}
use Rattle.indexing.specs.Coordinates.{View}
use Rattle.equality.specs.Same.{same_by}
use Rattle.equality.proofs.Compare.{numbers-decide, ints-decide, lists-decide}
use Rattle.calls.specs.Calls.{same_view}

-- what the test tells
pub same-view-is : (v w : View) → same_view v w ≡ true → (v.extents ≡ w.extents) × (v.strides ≡ w.strides)
same-view-is v w e =
    let t = and-true (same_by eqb v.extents w.extents) (same_by eq_z v.strides w.strides) e in
    ((lists-decide eqb numbers-decide v.extents w.extents).yes t.0, (lists-decide eq_z ints-decide v.strides w.strides).yes t.1)

pub view-same : (v w : View) → v.extents ≡ w.extents → v.strides ≡ w.strides → same_view v w ≡ true
view-same v w e f = and_both (same_by eqb v.extents w.extents) _ ((lists-decide eqb numbers-decide v.extents w.extents).no e) ((lists-decide eq_z ints-decide v.strides w.strides).no f)
