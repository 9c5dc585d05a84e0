-- What the code adds up where it tests a layout, axis by axis. `Apart` and `Ends` of `spans` show that the tests are those of `Nested` and `Reach`. Definitions only.
use Rattle.std.specs.Prelude.{Bool, true, false, cond, ◌||◌, List, [], ◌∷◌, ℕ, suc, ◌+◌, ◌*◌, ◌-◌, eqb, leb, ltb, get_or, ℤ, pos, nat_abs, Option, Some, None, option_and_then}
use Rattle.integer.specs.Defs.{checked_u, is_neg}
use Rattle.layout.specs.declared.Reach.{Reach}
use Rattle.layout.specs.declared.Reach.TheVariants as R

-- f of each axis, which is given its place in the list, its extent and its stride
unfoldable pub sum_axes : (ℕ → ℕ → ℤ → ℕ) → ℕ → List ℕ → List ℤ → ℕ
sum_axes f i [] ss = 0
sum_axes f i (d ∷ ds) [] = 0
sum_axes f i (d ∷ ds) (s ∷ ss) = f i d s + sum_axes f (suc i) ds ss

-- how far an axis reaches: the magnitude of its stride times its last coordinate
abbrev pub weight : ℕ → ℤ → ℕ
weight d s = nat_abs s * (d - 1)

-- ---- nested
abbrev pub other_weight : ℕ → Bool → ℕ → ℤ → ℕ
other_weight limit own d s = cond own 0 (cond (leb (nat_abs s) limit) (weight d s) 0)

abbrev pub other_at : ℕ → ℕ → ℕ → ℕ → ℤ → ℕ
other_at limit axis i d s = other_weight limit (eqb i axis) d s

abbrev pub others_weight : ℕ → ℕ → List ℕ → List ℤ → ℕ
others_weight limit axis ds ss = sum_axes (other_at limit axis) 0 ds ss

unfoldable pub axis_exceeds : ℕ → List ℕ → List ℤ → Bool
axis_exceeds axis ds ss =
    eqb (get_or ds axis 0) 1 || ltb (others_weight (nat_abs (get_or ss axis (pos 0))) axis ds ss) (nat_abs (get_or ss axis (pos 0)))

-- ---- reach
abbrev pub side_weight : Bool → ℕ → ℤ → ℕ
side_weight true d s = cond (is_neg s) (weight d s) 0
side_weight false d s = cond (is_neg s) 0 (weight d s)

abbrev pub side_at : Bool → ℕ → ℕ → ℤ → ℕ
side_at below i d s = side_weight below d s

abbrev pub side_reach : Bool → List ℕ → List ℤ → ℕ
side_reach below ds ss = sum_axes (side_at below) 0 ds ss

abbrev pub high_by : Option ℕ → ℕ → ℕ → Reach
high_by (Some h) low len = cond (ltb h len) (R.Cells low h) R.Outside
high_by None low len = R.Outside

abbrev pub low_by : Option ℕ → ℕ → Option ℕ → ℕ → Reach
low_by (Some d) at up len = cond (ltb at d) R.Outside (high_by (option_and_then (λ e. checked_u (at + e)) up) (at - d) len)
low_by None at up len = R.Outside

unfoldable pub cells_within : ℕ → Option ℕ → Option ℕ → ℕ → Reach
cells_within at down up len = low_by down at up len
