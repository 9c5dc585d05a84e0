-- Words as signed numbers, and signed numbers as words, one by one. Assumes nothing.
use Rattle.std.proofs.Common.{◌≡◌, ℕ, ◌<◌, List, length, get_or, map, sym, ◌∙◌, arith}
use Rattle.std.proofs.lemmas.List.{ext_get_or, get_or-map, length-map}

pub mapped : {A B : Type 0} (f : A → B) (xs : List A) (ys : List B) (d : A) (e : B) {n : ℕ} → length xs ≡ n → length ys ≡ n → ((i : ℕ) → i < n → get_or ys i e ≡ f (get_or xs i d)) → ys ≡ map f xs
mapped f xs ys d e l m h =
    ext_get_or e ys (map f xs) (omega (arith, length-map xs f)) (λ i k. h i (omega arith) ∙ sym (get_or-map f xs i d e (omega arith)))
