-- What an accepted product is: the product. Assumes nothing.
use Rattle.std.specs.Prelude.{◌≡◌, List, [], ◌∷◌, ℕ, ◌*◌, Some}
use Rattle.std.proofs.Common.{sym, ap, ◌∙◌, mul_assoc, one-mul, arith}
use Rattle.integer.specs.Defs.{checked_u}
use Rattle.integer.specs.Machine.{checked_u-fits}
use Rattle.indexing.specs.Coordinates.{product}
use Rattle.layout.specs.Spans.{total_from, total_of}
use Rattle.layout.specs.Laws.{then-inv}

total-from-is : (acc : ℕ) (ds : List ℕ) (n : ℕ) → total_from acc ds ≡ Some n → n ≡ acc * product ds
unfolding total_from product
total-from-is acc [] n e = let x : acc ≡ n = cc in omega arith
total-from-is acc (d ∷ ds) n e =
    let t = then-inv (checked_u (acc * d)) (λ m. total_from m ds) n e in
    total-from-is t.0 ds n t.2 ∙ ap (λ (m : ℕ). m * product ds) (sym (checked_u-fits (acc * d) t.0 t.1)) ∙ mul_assoc acc d (product ds)

pub total-is : (ds : List ℕ) (n : ℕ) → total_of ds ≡ Some n → n ≡ product ds
total-is ds n e = total-from-is 1 ds n e ∙ one-mul (product ds)
