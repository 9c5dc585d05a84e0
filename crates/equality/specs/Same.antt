-- To be believed. Whether two lists, two layouts, two lists by value are the same. Definitions only.
use Rattle.std.specs.Prelude.{Bool, ◌&&◌, List, eqb}
use lib.Pointwise.{pointwise}
use Rattle.integer.specs.Defs.{eq_z}
use Rattle.layout.specs.declared.Layout.{Layout}
use Rattle.axis_lists.specs.Held.{Numbers, Steps}

-- whether two lists are the same, by a test of their entries
abbrev pub same_by : {A : Type 0} → (A → A → Bool) → List A → List A → Bool
same_by = pointwise

-- field by field, arrays past their counts as well
abbrev pub same_layout : Layout → Layout → Bool
same_layout a b = eqb a.rank b.rank && (same_by eqb a.extents b.extents && same_by eq_z a.strides b.strides)

abbrev pub same_numbers : Numbers → Numbers → Bool
same_numbers a b = eqb a.count b.count && same_by eqb a.entries b.entries

abbrev pub same_steps : Steps → Steps → Bool
same_steps a b = eqb a.count b.count && same_by eq_z a.entries b.entries
