-- The numbers that the components of a start go by. Definitions only.
use Rattle.std.specs.Prelude.{cond, List, ℕ, ◌-◌, eqb, get_or}

-- the last start of component c: extent − window on its axis
abbrev pub limit_at : List ℕ → List ℕ → List ℕ → ℕ → ℕ
limit_at extents sizes map c = get_or extents (get_or map c 0) 0 - get_or sizes (get_or map c 0) 0

-- "never read, even if batch coordinates exist": with no components the index view is not stepped
abbrev pub unless_none : {A : Type 0} → ℕ → A → A → A
unless_none count none x = cond (eqb count 0) none x
