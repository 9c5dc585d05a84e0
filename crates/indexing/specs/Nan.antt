-- NaN and infinities in f64 sums: when one add gives a NaN, what becomes of a NaN and of an infinity, and what an element then holds. Which NaN it is,
-- is left open. Assumes nothing.
use Rattle.std.specs.Prelude.{List, [], ◌∷◌, Bool, true, false, not, ◌&&◌, Float}
use Rattle.std.specs.Bool.{beq}
use Rattle.std.specs.Float.{nan, inf, fin}

-- infinities of unlike signs
abbrev pub unlike_infinities : Float → Float → Bool
unlike_infinities nan y = false
unlike_infinities (inf s) nan = false
unlike_infinities (inf s) (inf t) = not (beq s t)
unlike_infinities (inf s) (fin t n d) = false
unlike_infinities (fin s m e) y = false

-- neither a NaN nor the infinity of the other sign: what the infinity of sign s outlasts
abbrev pub compatible : Bool → Float → Bool
compatible s nan = false
compatible s (inf t) = beq s t
compatible s (fin t n d) = true

abbrev pub all_compatible : Bool → List Float → Bool
all_compatible s [] = true
all_compatible s (u ∷ us) = compatible s u && all_compatible s us
