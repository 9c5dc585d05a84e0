-- To be believed. Product, Span and Reset of document 01, where each number must fit: refusal 3. Definitions only.
use Rattle.std.specs.Prelude.{Bool, true, false, List, [], ◌∷◌, ℕ, zero, suc, ◌*◌, ◌-◌, ℤ, pos, neg_ℤ, ◌+ℤ◌, ◌*ℤ◌, Option, Some, option_map, option_and_then}
use Rattle.integer.specs.Defs.{checked, checked_u, is_neg}
use Rattle.layout.specs.declared.Span.{Span}

-- Product: left to right in u64, each step must fit; no extents give 1
unfoldable pub total_from : ℕ → List ℕ → Option ℕ
total_from acc [] = Some acc
total_from acc (d ∷ ds) = option_and_then (λ n. total_from n ds) (checked_u (acc * d))

abbrev pub total_of : List ℕ → Option ℕ
total_of ds = total_from 1 ds

-- the greatest coordinate, extent − 1 (at least 0), which must fit i64 even at stride 0, times the stride
unfoldable pub reach_of : ℕ → ℤ → Option ℤ
reach_of d s = option_and_then (λ last. checked (s *ℤ last)) (checked (pos (d - 1)))

-- Span: the reach of each axis must fit, and so must the running sums of the negative ones and of the others
abbrev pub widen_by : Bool → Span → ℤ → Option Span
widen_by true span e = option_map (λ l. record { low = l; high = span.high }) (checked (span.low +ℤ e))
widen_by false span e = option_map (λ h. record { low = span.low; high = h }) (checked (span.high +ℤ e))

unfoldable pub widened : Span → ℕ → ℤ → Option Span
widened span d s = option_and_then (λ e. widen_by (is_neg e) span e) (reach_of d s)

unfoldable pub span_from : Span → List ℕ → List ℤ → Option Span
span_from span [] ss = Some span
span_from span (d ∷ ds) [] = Some span
span_from span (d ∷ ds) (s ∷ ss) = option_and_then (λ wider. span_from wider ds ss) (widened span d s)

abbrev pub spanned : List ℕ → List ℤ → Option Span
spanned ds ss = span_from (record { low = pos 0; high = pos 0 }) ds ss

-- Reset, as an exact number: extent − 1 times the stride, negated; 0 at extent 0
abbrev pub reset : ℕ → ℤ → ℤ
reset d s = neg_ℤ (s *ℤ pos (d - 1))

-- Reset: extent − 1, its product with the stride and that negated must fit; 0 at extent 0
unfoldable pub reset_of : ℕ → ℤ → Option ℤ
reset_of zero s = Some (pos 0)
reset_of (suc m) s = option_and_then (λ e. checked (neg_ℤ e)) (reach_of (suc m) s)

-- Checked offset: the coordinate, its product with the stride, and the sum with the base must fit
unfoldable pub offset_add : ℤ → ℤ → ℕ → Option ℤ
offset_add base s c = option_and_then (λ e. checked (base +ℤ e)) (option_and_then (λ m. checked (s *ℤ m)) (checked (pos c)))

-- the same for each axis in turn
unfoldable pub strided_offset : ℤ → List ℤ → List ℕ → Option ℤ
strided_offset base [] cs = Some base
strided_offset base (s ∷ ss) [] = Some base
strided_offset base (s ∷ ss) (c ∷ cs) = option_and_then (λ o. strided_offset o ss cs) (offset_add base s c)
