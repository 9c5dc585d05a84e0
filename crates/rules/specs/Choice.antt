-- Rules that choose one of two values: after any updates in turn, what is left is one of them all, and by an order the best of them all. Assumes nothing.
use Rattle.std.specs.Prelude.{◌≡◌, refl, ◌⊎◌, Bool, true, false, cond, ℤ, ◌≤ℤ◌}
use Rattle.std.proofs.Math.Path.{sym, ap}
use Rattle.std.proofs.Common.{subst, ◌∙◌, inl, inr, arith}
use mathlib.Core.List.Memᴰ
use mathlib.Core.List.{List, [], ◌∷◌, Memᴰ}
use Rattle.std.specs.Int.Signed.{≤ℤ_refl}
use Rattle.integer.specs.Defs.{min_ℤ, max_ℤ}
use Rattle.integer.specs.Z.{≡-from, zfacts}
use Rattle.integer.specs.Laws.{≤ℤ-trans, min_ℤ-by, min_ℤ-l, min_ℤ-r, max_ℤ-by, max_ℤ-l, max_ℤ-r}
use Rattle.indexing.specs.Updates.{in_turn}

-- ---- one of them
pub either : {A : Type 0} (b : Bool) (x u : A) → (cond b u x ≡ x) ⊎ (cond b u x ≡ u)
either true x u = inr refl
either false x u = inl refl

pub in-turn-one-of : {A : Type 0} (rule : A → A → A) → ((x u : A) → (rule x u ≡ x) ⊎ (rule x u ≡ u)) → (x : A) (us : List A) → Memᴰ (in_turn rule x us) (x ∷ us)
unfolding in_turn
in-turn-one-of rule one x [] = Memᴰ.head refl
in-turn-one-of {A} rule one x (u ∷ us) = go (Memᴰ.cases_cons (in-turn-one-of rule one (rule x u) us)) (one x u)
  where
    go : {z : A} → (z ≡ rule x u) ⊎ Memᴰ z us → (rule x u ≡ x) ⊎ (rule x u ≡ u) → Memᴰ z (x ∷ u ∷ us)
    go (inl e) (inl p) = Memᴰ.head (e ∙ p)
    go (inl e) (inr p) = Memᴰ.tail (Memᴰ.head (e ∙ p))
    go (inr m) q = Memᴰ.tail (Memᴰ.tail m)

-- ---- the best of two numbers by an order
pub record Best (below : ℤ → ℤ → Type 0) (best : ℤ → ℤ → ℤ) : Type 0 where
  pub same : (a b : ℤ) → a ≡ b → below a b
  pub trans : (a b c : ℤ) → below a b → below b c → below a c
  pub antisym : (a b : ℤ) → below a b → below b a → a ≡ b
  pub left : (a b : ℤ) → below (best a b) a
  pub right : (a b : ℤ) → below (best a b) b
  pub both : (z a b : ℤ) → below z a → below z b → below z (best a b)

at_most : {a b : ℤ} → a ≡ b → a ≤ℤ b
at_most {a} e = subst (λ (z : ℤ). a ≤ℤ z) e (≤ℤ_refl a)

only_one : (a b : ℤ) → a ≤ℤ b → b ≤ℤ a → a ≡ b
only_one a b h k = ≡-from a b (omega (arith, zfacts))

pub min-best : Best ◌≤ℤ◌ min_ℤ
min-best =
    record {
      same = λ a b e. at_most e;
      trans = λ a b c h k. ≤ℤ-trans h k;
      antisym = λ a b h k. only_one a b h k;
      left = min_ℤ-l;
      right = min_ℤ-r;
      both = λ z a b h k. min_ℤ-by a b (λ m. z ≤ℤ m) (λ e. h) (λ e. k);
    }

pub max-best : Best (λ a b. b ≤ℤ a) max_ℤ
max-best =
    record {
      same = λ a b e. at_most (sym e);
      trans = λ a b c h k. ≤ℤ-trans k h;
      antisym = λ a b h k. only_one a b k h;
      left = max_ℤ-l;
      right = max_ℤ-r;
      both = λ z a b h k. max_ℤ-by a b (λ m. m ≤ℤ z) (λ e. k) (λ e. h);
    }

module _ {below : ℤ → ℤ → Type 0} {best : ℤ → ℤ → ℤ} (o : Best below best) where
  half : (u v x : ℤ) → below (best u (best v x)) (best v (best u x))
  half u v x =
      let b = best u (best v x) in
      let r = o.right u (best v x) in
      o.both b v (best u x) (o.trans b (best v x) v r (o.left v x)) (o.both b u x (o.left u (best v x)) (o.trans b (best v x) x r (o.right v x)))

  turn : (u v x : ℤ) → best u (best v x) ≡ best v (best u x)
  turn u v x = o.antisym (best u (best v x)) (best v (best u x)) (half u v x) (half v u x)

  -- a rule that takes the best of the update and the old value
  module _ (rule : ℤ → ℤ → ℤ) (is : (x u : ℤ) → rule x u ≡ best u x) where
    -- takes two updates in either order
    pub best-swap : (x u v : ℤ) → rule (rule x u) v ≡ rule (rule x v) u
    best-swap x u v = is (rule x u) v ∙ ap (best v) (is x u) ∙ turn v u x ∙ sym (ap (best u) (is x v)) ∙ sym (is (rule x v) u)

  -- the best of a number and a list, as `all` gives it
  module _ (all : ℤ → List ℤ → ℤ) (none : (x : ℤ) → all x [] ≡ x) (more : (x u : ℤ) (us : List ℤ) → all x (u ∷ us) ≡ best u (all x us)) where
    first-last : (x u : ℤ) (us : List ℤ) → all (best u x) us ≡ best u (all x us)
    first-last x u [] = none (best u x) ∙ sym (ap (best u) (none x))
    first-last x u (v ∷ us) = more (best u x) v us ∙ ap (best v) (first-last x u us) ∙ turn v u (all x us) ∙ sym (ap (best u) (more x v us))

    -- is what such a rule leaves of any updates in turn
    pub in-turn-best : (rule : ℤ → ℤ → ℤ) → ((x u : ℤ) → rule x u ≡ best u x) → (x : ℤ) (us : List ℤ) → in_turn rule x us ≡ all x us
    unfolding in_turn
    in-turn-best rule is x [] = sym (none x)
    in-turn-best rule is x (u ∷ us) = in-turn-best rule is (rule x u) us ∙ ap (λ (y : ℤ). all y us) (is x u) ∙ first-last x u us ∙ sym (more x u us)

    -- and comes before each of them
    pub best-of-all : (x : ℤ) (us : List ℤ) (z : ℤ) → Memᴰ z (x ∷ us) → below (all x us) z
    best-of-all x [] z (Memᴰ.head e) = o.same (all x []) z (none x ∙ sym e)
    best-of-all x [] z (Memᴰ.tail m) = absurd (Memᴰ.not-nil m)
    best-of-all x (u ∷ us) z m = o.trans (all x (u ∷ us)) (best u (all x us)) z (o.same (all x (u ∷ us)) (best u (all x us)) (more x u us)) (go (Memᴰ.cases_cons m) (best-of-all x us))
      where
        go : (z ≡ x) ⊎ Memᴰ z (u ∷ us) → ((z : ℤ) → Memᴰ z (x ∷ us) → below (all x us) z) → below (best u (all x us)) z
        go (inl e) ih = o.trans (best u (all x us)) (all x us) z (o.right u (all x us)) (ih z (Memᴰ.head e))
        go (inr (Memᴰ.head e)) ih = o.trans (best u (all x us)) u z (o.left u (all x us)) (o.same u z (sym e))
        go (inr (Memᴰ.tail n)) ih = o.trans (best u (all x us)) (all x us) z (o.right u (all x us)) (ih z (Memᴰ.tail n))
