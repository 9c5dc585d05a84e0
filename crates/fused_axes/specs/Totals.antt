-- The element count is the product, where a u64 holds it, and what is known of it where fusion pays and where it does not. For extents of any rank. Assumes nothing.
use Rattle.std.specs.Prelude.{◌≡◌, refl, Bool, true, false, cond, List, [], ◌∷◌, ℕ, zero, suc, ◌*◌, ◌/◌, ◌<◌, ◌≤◌, ◌^◌, leb, take, Option, Some, None, option_and_then}
use Rattle.std.proofs.Common.{sym, ap, ◌∙◌, true≢false, mul_assoc, mul-one, one-mul, mul-le-mul_left, arith, ne_eqb, leb-true}
use Rattle.integer.specs.Defs.{checked_u}
use Rattle.integer.specs.Machine.{checked_u-yes, checked_u-no, checked_u-fits, checked_u-below, checked_u-over}
use Rattle.indexing.specs.Coordinates.{product}
use Rattle.indexing.specs.Odometer.{AllPos}
use Rattle.indexing.proofs.Fusion.{product-pos}
use Rattle.layout.specs.Nested.{has_zero}
use Rattle.layout.specs.Laws.{no_cells, some-cells}
use Rattle.layout.specs.Spans.{total_from, total_of}
use Rattle.fused_axes.specs.Fusing.{total_len, few_cells, few_rows, fusion_pays}

-- left to right, each step in u64: where no extent is 0 no step is greater than the whole
total-from : (ds : List ℕ) (acc : ℕ) → acc < 2 ^ 64 → AllPos ds → total_from acc ds ≡ checked_u (acc * product ds)
unfolding total_from product AllPos
total-from [] acc h p = checked_u-yes acc h ∙ ap checked_u (sym (mul-one acc))
total-from (d ∷ ds) acc h p = go (checked_u (acc * d)) refl (λ n b. total-from ds n b p.1)
  where
    go : (x : Option ℕ) → checked_u (acc * d) ≡ x → ((n : ℕ) → n < 2 ^ 64 → total_from n ds ≡ checked_u (n * product ds)) → option_and_then (λ n. total_from n ds) x ≡ checked_u (acc * (d * product ds))
    go (Some n) e ih =
        let f : acc * d ≡ n = checked_u-fits (acc * d) n e in
        ih n (omega (arith, checked_u-below (acc * d) n e))
        ∙ ap checked_u (ap (λ (m : ℕ). m * product ds) (sym f) ∙ mul_assoc acc d (product ds))
    go None e ih =
        let q : 1 ≤ product ds = product-pos ds p.1 in
        checked_u-no (acc * (d * product ds)) (omega (arith, checked_u-over (acc * d) e, mul_assoc acc d (product ds), mul-le-mul_left (acc * d) q, mul-one (acc * d)))

-- THE ELEMENT COUNT
pub total-len-is : (ds : List ℕ) → total_len ds ≡ checked_u (product ds)
unfolding total_len
total-len-is ds = go (has_zero ds) refl
  where
    go : (t : Bool) → has_zero ds ≡ t → cond t (Some 0) (total_of ds) ≡ checked_u (product ds)
    go true h = checked_u-yes 0 (omega arith) ∙ ap checked_u (sym (no_cells ds h))
    go false h = total-from ds 1 (omega arith) (some-cells ds h) ∙ ap checked_u (one-mul (product ds))

-- ---- the count that was told
pub total-told : (ds : List ℕ) (x : Option ℕ) (n : ℕ) → x ≡ total_len ds → x ≡ Some n → product ds ≡ n
total-told ds x n e o = checked_u-fits (product ds) n (sym (total-len-is ds) ∙ sym e ∙ o)

pub total-many : (ds : List ℕ) (x : Option ℕ) → x ≡ total_len ds → x ≡ None → 2 ^ 64 ≤ product ds
total-many ds x e o = checked_u-over (product ds) (sym (total-len-is ds) ∙ sym e ∙ o)

-- more cells than one: there are axes
pub many-axes : (rank : ℕ) (ds : List ℕ) → 1 < product (take rank ds) → 0 < rank
unfolding product
many-axes zero ds h = absurd (omega arith)
many-axes (suc rank) ds h = omega arith

-- fusion pays: no more cells than a run counts
pub pays-few : (rank n first : ℕ) (ds : List ℕ) → fusion_pays n first rank ≡ true → product (take rank ds) ≡ n → n ≤ 2 ^ 63
unfolding fusion_pays product
pays-few zero n first ds e h = omega arith
pays-few (suc rank) n first ds e h = go (leb n few_cells) (leb (n / few_rows) first) (rw (ne_eqb (suc rank) 0 (λ q. omega arith)) at e)
  where
    go : (t u : Bool) → cond t false (cond u false (leb n (2 ^ 63))) ≡ true → n ≤ 2 ^ 63
    go true u f = absurd (true≢false (sym f))
    go false true f = absurd (true≢false (sym f))
    go false false f = leb-true n (2 ^ 63) f

-- it does not: there are axes
pub pays-not : (rank n first : ℕ) → fusion_pays n first rank ≡ false → 0 < rank
unfolding fusion_pays
pays-not zero n first e = absurd (true≢false e)
pays-not (suc rank) n first e = omega arith
