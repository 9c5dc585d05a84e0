-- The i32 rule: what an element holds is its old value plus, modulo 2^32, the updates that land on it. Assumes nothing.
use Rattle.std.specs.Prelude.{◌≡◌, Bool, true, false, cond, ℕ, zero, suc, List, [], ◌∷◌, ◌++◌, ℤ, pos, ◌+ℤ◌}
use Rattle.std.proofs.Math.Path.{refl}
use Rattle.std.proofs.Common.{sym, ap, ap₂, ◌∙◌, SFits}
use Rattle.std.proofs.Math.IntN.{+ℤ_assoc, +ℤ_comm, +ℤ_idl, +ℤ_idr}
use Rattle.std.specs.Int.{w32}
use Rattle.integer.specs.Defs.{wrap32, eq_z}
use Rattle.integer.specs.Wrap.{wrap-id, wrap-add-l}
use Rattle.indexing.specs.Coordinates.{tabulate}
use Rattle.indexing.specs.Scatter.{Update, joined, landing, add_i32}
use Rattle.indexing.specs.Updates.{in_turn}
use Rattle.indexing.proofs.Updates.{landing-append}
use Rattle.indexing.specs.Axes.{sum_of, sum_first}
use Rattle.indexing.specs.Sums.{total, added}

pub total-append : (us vs : List ℤ) → total (us ++ vs) ≡ total us +ℤ total vs
unfolding total
total-append [] vs = sym (+ℤ_idl (total vs))
total-append (u ∷ us) vs = ap (λ (z : ℤ). u +ℤ z) (total-append us vs) ∙ sym (+ℤ_assoc u (total us) (total vs))

wrapped : (z : ℤ) (us : List ℤ) → in_turn add_i32 (wrap32 z) us ≡ wrap32 (z +ℤ total us)
unfolding in_turn total
wrapped z [] = ap wrap32 (sym (+ℤ_idr z))
wrapped z (u ∷ us) = ap (λ (x : ℤ). in_turn add_i32 x us) (wrap-add-l z u) ∙ wrapped (z +ℤ u) us ∙ ap wrap32 (+ℤ_assoc z u (total us))

-- wrapping at every add, or once at the end
pub in-turn-added : (old : ℤ) (us : List ℤ) → in_turn add_i32 old us ≡ added old us
unfolding in_turn added total
in-turn-added old [] = refl
in-turn-added old (u ∷ us) = wrapped (old +ℤ u) us ∙ ap wrap32 (+ℤ_assoc old u (total us))

-- of an i32 the sum wraps whether or not there are updates
pub added-plain : (old : ℤ) (us : List ℤ) → SFits w32 old → added old us ≡ wrap32 (old +ℤ total us)
unfolding added total
added-plain old [] f = sym (wrap-id old f) ∙ ap wrap32 (sym (+ℤ_idr old))
added-plain old (u ∷ us) f = refl

pub swap-i32 : (x u v : ℤ) → add_i32 (add_i32 x u) v ≡ add_i32 (add_i32 x v) u
swap-i32 x u v =
    wrap-add-l (x +ℤ u) v ∙ ap wrap32 (+ℤ_assoc x u v ∙ ap (λ (z : ℤ). x +ℤ z) (+ℤ_comm u v) ∙ sym (+ℤ_assoc x v u)) ∙ sym (wrap-add-l (x +ℤ v) u)

-- ---- what lands on p, added up over rows of updates
pub landing-row : (p : ℤ) (n : ℕ) (f : ℕ → Update ℤ) → total (landing p (tabulate n f)) ≡ sum_of n (λ w. cond (eq_z (f w).0 p) (f w).1 (pos 0))
unfolding total landing tabulate
landing-row p zero f = unfold sum_of in refl
landing-row p (suc n) f =
    go (eq_z (f 0).0 p)
    ∙ ap (λ (z : ℤ). cond (eq_z (f 0).0 p) (f 0).1 (pos 0) +ℤ z) (landing-row p n (λ w. f (suc w)))
    ∙ sym (sum_first n (λ w. cond (eq_z (f w).0 p) (f w).1 (pos 0)))
  where
    go : (b : Bool) → total (cond b ((f 0).1 ∷ landing p (tabulate n (λ w. f (suc w)))) (landing p (tabulate n (λ w. f (suc w)))))
        ≡ cond b (f 0).1 (pos 0) +ℤ total (landing p (tabulate n (λ w. f (suc w))))
    go true = refl
    go false = sym (+ℤ_idl (total (landing p (tabulate n (λ w. f (suc w))))))

pub landing-rows : (p : ℤ) (n m : ℕ) (f : ℕ → ℕ → Update ℤ)
    → total (landing p (joined (tabulate n (λ b. tabulate m (λ w. f b w))))) ≡ sum_of n (λ b. sum_of m (λ w. cond (eq_z (f b w).0 p) (f b w).1 (pos 0)))
unfolding tabulate joined
landing-rows p zero m f = unfold total landing sum_of in refl
landing-rows p (suc n) m f =
    ap total (landing-append p (tabulate m (λ w. f 0 w)) (joined (tabulate n (λ b. tabulate m (λ w. f (suc b) w)))))
    ∙ total-append (landing p (tabulate m (λ w. f 0 w))) (landing p (joined (tabulate n (λ b. tabulate m (λ w. f (suc b) w)))))
    ∙ ap₂ ◌+ℤ◌ (landing-row p m (λ w. f 0 w)) (landing-rows p n m (λ b. f (suc b)))
    ∙ sym (sum_first n (λ b. sum_of m (λ w. cond (eq_z (f b w).0 p) (f b w).1 (pos 0))))
