-- Lists of updates and of reads, of any element type: what one element holds at the end, and what order cannot change. Assumes nothing.
use Rattle.std.specs.Prelude.{◌≡◌, ◌≢◌, ◌⊎◌, Bool, ltb, ℤ, pos, negsuc}
use Rattle.std.proofs.Math.Path.{refl, ap, subst}
use Rattle.std.proofs.Common.{sym, ap₂, ◌∙◌, inl, inr, ⊎_elim, arith, length-set}
use Rattle.std.proofs.Math.Bool.{true, false, cond}
use mathlib.Core.List.{List, [], ◌∷◌, ◌++◌, cons≢nil}
use Prim.Native.Nat.{ℕ, zero, suc, ◌<◌, ◌≤◌, zero-le, suc-le-suc}
use borrow.Author.Tests.{eqb-true, eqb-false, ltb-true, ltb-false}
use Rattle.std.proofs.Math.Dec.{eqb}
use Rattle.std.proofs.Math.ListN.{length, get_or, set}
use Rattle.std.proofs.Math.Seq.{get_or-set_same, get_or-set_other, set-set, set_comm, set_out}
use Rattle.integer.specs.Defs.{eq_z}
use Rattle.integer.specs.Laws.{eq_z-true, eq_z-false}
use Rattle.indexing.specs.Coordinates.{element_at, store, tabulate}
use Rattle.indexing.specs.Gather.{Read, copy_each}
use Rattle.indexing.specs.Scatter.{Update, joined, combined, landing}
use Rattle.indexing.specs.Updates.{in_turn, no_read}

-- ---- one store

pub length-store : {A : Type 0} (l : List A) (p : ℤ) (x : A) → length (store l p x) ≡ length l
length-store l (pos i) x = length-set l i x
length-store l (negsuc i) x = refl

pub store_other : {A : Type 0} (l : List A) (p q : ℤ) (x d : A) → p ≢ q → element_at d (store l p x) q ≡ element_at d l q
store_other l (pos i) (pos j) x d n = get_or-set_other l i j x d (λ e. n (ap pos (sym e)))
store_other l (pos i) (negsuc j) x d n = refl
store_other l (negsuc i) q x d n = refl

pub landing-append : {A : Type 0} (p : ℤ) (cs ds : List (Update A)) → landing p (cs ++ ds) ≡ landing p cs ++ landing p ds
unfolding landing
landing-append p [] ds = refl
landing-append {A} p (c ∷ cs) ds = go (eq_z c.0 p) (landing-append p cs ds)
  where
    go : (b : Bool) → landing p (cs ++ ds) ≡ landing p cs ++ landing p ds
        → cond b (c.1 ∷ landing p (cs ++ ds)) (landing p (cs ++ ds)) ≡ cond b (c.1 ∷ landing p cs) (landing p cs) ++ landing p ds
    go true e = ap (λ (l : List A). c.1 ∷ l) e
    go false e = e

module _ {A : Type 0} (rule : A → A → A) (d : A) where
  -- one update
  one : List A → ℤ → A → List A
  one held p u = store held p (rule (element_at d held p) u)

  length-one : (held : List A) (p : ℤ) (u : A) → length (one held p u) ≡ length held
  unfolding one
  length-one held p u = length-store held p (rule (element_at d held p) u)

  pub length-combined : (cs : List (Update A)) (held : List A) → length (combined rule d cs held) ≡ length held
  unfolding combined one
  length-combined [] held = refl
  length-combined (c ∷ cs) held = length-combined cs (one held c.0 c.1) ∙ length-one held c.0 c.1

  pub combined-append : (cs ds : List (Update A)) (held : List A) → combined rule d (cs ++ ds) held ≡ combined rule d ds (combined rule d cs held)
  unfolding combined one
  combined-append [] ds held = refl
  combined-append (c ∷ cs) ds held = combined-append cs ds (one held c.0 c.1)

  -- what one update leaves of an element of the slice
  hit : (held : List A) (p : ℤ) (u : A) (i : ℕ) → i < length held → get_or (one held p u) i d ≡ cond (eq_z p (pos i)) (rule (get_or held i d) u) (get_or held i d)
  unfolding one
  hit held (pos j) u i h = go (eqb j i) refl
    where
      go : (b : Bool) → eqb j i ≡ b → get_or (set held j (rule (get_or held j d) u)) i d ≡ cond b (rule (get_or held i d) u) (get_or held i d)
      go true e = subst (λ (k : ℕ). get_or (set held k (rule (get_or held k d) u)) i d ≡ rule (get_or held i d) u) (sym (eqb-true j i e)) (get_or-set_same held i (rule (get_or held i d) u) d h)
      go false e = get_or-set_other held j i (rule (get_or held j d) u) d (λ q. eqb-false j i e (sym q))
  hit held (negsuc j) u i h = refl

  -- AN ELEMENT holds its old value and then each update that lands on it, in order, by the rule
  pub element : (cs : List (Update A)) (held : List A) (i : ℕ) → i < length held → get_or (combined rule d cs held) i d ≡ in_turn rule (get_or held i d) (landing (pos i) cs)
  unfolding combined landing in_turn one
  element [] held i h = refl
  element (c ∷ cs) held i h =
      element cs (one held c.0 c.1) i (subst (λ (n : ℕ). i < n) (sym (length-one held c.0 c.1)) h)
      ∙ ap (λ (x : A). in_turn rule x (landing (pos i) cs)) (hit held c.0 c.1 i h)
      ∙ go (eq_z c.0 (pos i))
    where
      go : (b : Bool) → in_turn rule (cond b (rule (get_or held i d) c.1) (get_or held i d)) (landing (pos i) cs) ≡ in_turn rule (get_or held i d) (cond b (c.1 ∷ landing (pos i) cs) (landing (pos i) cs))
      go true = refl
      go false = refl

  -- what stands at a place that none lands on stays, the places outside the slice among them
  pub missed : (cs : List (Update A)) (held : List A) (p : ℤ) → landing p cs ≡ [] → element_at d (combined rule d cs held) p ≡ element_at d held p
  unfolding combined landing one
  missed [] held p m = refl
  missed (c ∷ cs) held p m = go (eq_z c.0 p) refl m (missed cs (one held c.0 c.1) p)
    where
      go : (b : Bool) → eq_z c.0 p ≡ b → cond b (c.1 ∷ landing p cs) (landing p cs) ≡ []
          → (landing p cs ≡ [] → element_at d (combined rule d cs (one held c.0 c.1)) p ≡ element_at d (one held c.0 c.1) p)
          → element_at d (combined rule d cs (one held c.0 c.1)) p ≡ element_at d held p
      go true e n ih = absurd (cons≢nil n)
      go false e n ih = ih n ∙ store_other held c.0 p (rule (element_at d held c.0) c.1) d (eq_z-false c.0 p e)

  -- ---- where the rule takes two updates in either order, so do whole lists of updates
  module _ (swap : (x u v : A) → rule (rule x u) v ≡ rule (rule x v) u) where
    swap-same : (held : List A) (i : ℕ) (u v : A) → one (one held (pos i) u) (pos i) v ≡ one (one held (pos i) v) (pos i) u
    unfolding one
    swap-same held i u v = go (ltb i (length held)) refl
      where
        two : (u v : A) → i < length held → one (one held (pos i) u) (pos i) v ≡ set held i (rule (rule (get_or held i d) u) v)
        two u v h =
            set-set held i (rule (get_or held i d) u) (rule (get_or (one held (pos i) u) i d) v)
            ∙ ap (λ (x : A). set held i (rule x v)) (get_or-set_same held i (rule (get_or held i d) u) d h)

        out : (u v : A) → length held ≤ i → one (one held (pos i) u) (pos i) v ≡ held
        out u v h =
            set_out (one held (pos i) u) i (rule (get_or (one held (pos i) u) i d) v) (subst (λ (n : ℕ). n ≤ i) (sym (length-one held (pos i) u)) h)
            ∙ set_out held i (rule (get_or held i d) u) h

        go : (b : Bool) → ltb i (length held) ≡ b → one (one held (pos i) u) (pos i) v ≡ one (one held (pos i) v) (pos i) u
        go true e = let h = ltb-true i (length held) e in two u v h ∙ ap (set held i) (swap (get_or held i d) u v) ∙ sym (two v u h)
        go false e = let h = ltb-false i (length held) e in out u v h ∙ sym (out v u h)

    swap-other : (held : List A) (i j : ℕ) (u v : A) → i ≢ j → one (one held (pos i) u) (pos j) v ≡ one (one held (pos j) v) (pos i) u
    unfolding one
    swap-other held i j u v n =
        ap (λ (x : A). set (one held (pos i) u) j (rule x v)) (get_or-set_other held i j (rule (get_or held i d) u) d (λ e. n (sym e)))
        ∙ set_comm held i j (rule (get_or held i d) u) (rule (get_or held j d) v) n
        ∙ ap (λ (x : A). set (one held (pos j) v) i (rule x u)) (sym (get_or-set_other held j i (rule (get_or held j d) v) d n))

    swap-one : (held : List A) (p q : ℤ) (u v : A) → one (one held p u) q v ≡ one (one held q v) p u
    unfolding one
    swap-one held (pos i) (pos j) u v = go (eqb i j) refl
      where
        go : (b : Bool) → eqb i j ≡ b → one (one held (pos i) u) (pos j) v ≡ one (one held (pos j) v) (pos i) u
        go true e = subst (λ (k : ℕ). one (one held (pos i) u) (pos k) v ≡ one (one held (pos k) v) (pos i) u) (eqb-true i j e) (swap-same held i u v)
        go false e = swap-other held i j u v (eqb-false i j e)
    swap-one held (pos i) (negsuc j) u v = refl
    swap-one held (negsuc i) q u v = refl

    one_last : (cs : List (Update A)) (held : List A) (p : ℤ) (u : A) → combined rule d cs (one held p u) ≡ one (combined rule d cs held) p u
    unfolding combined one
    one_last [] held p u = refl
    one_last (c ∷ cs) held p u = ap (combined rule d cs) (swap-one held p c.0 u c.1) ∙ one_last cs (one held c.0 c.1) p u

    pub in-either-order : (cs ds : List (Update A)) (held : List A) → combined rule d ds (combined rule d cs held) ≡ combined rule d cs (combined rule d ds held)
    unfolding combined one
    in-either-order [] ds held = refl
    in-either-order (c ∷ cs) ds held = in-either-order cs ds (one held c.0 c.1) ∙ ap (combined rule d cs) (one_last ds held c.0 c.1)

module _ {A : Type 0} (d : A) where
  pub length-copy_each : (rs : List Read) (from into : List A) → length (copy_each d rs from into) ≡ length into
  unfolding copy_each
  length-copy_each [] from into = refl
  length-copy_each (r ∷ rs) from into =
      length-copy_each rs from (store into r.0 (element_at d from r.1)) ∙ length-store into r.0 (element_at d from r.1)

  -- a gather depends on the elements that it reads alone
  pub copy-same : (rs : List Read) (from from' into : List A)
      → ((k : ℕ) → k < length rs → element_at d from (get_or rs k no_read).1 ≡ element_at d from' (get_or rs k no_read).1)
      → copy_each d rs from into ≡ copy_each d rs from' into
  unfolding copy_each
  copy-same [] from from' into e = refl
  copy-same (r ∷ rs) from from' into e =
      ap (λ (x : A). copy_each d rs from (store into r.0 x)) (e zero (suc-le-suc zero-le))
      ∙ copy-same rs from from' (store into r.0 (element_at d from' r.1)) (λ k l. e (suc k) (suc-le-suc l))

  -- what no read writes to stays
  pub copy-other : (rs : List Read) (from into : List A) (p : ℤ) → ((k : ℕ) → k < length rs → (get_or rs k no_read).0 ≢ p) → element_at d (copy_each d rs from into) p ≡ element_at d into p
  unfolding copy_each
  copy-other [] from into p h = refl
  copy-other (r ∷ rs) from into p h =
      copy-other rs from (store into r.0 (element_at d from r.1)) p (λ k l. h (suc k) (suc-le-suc l))
      ∙ store_other into r.0 p (element_at d from r.1) d (h zero (suc-le-suc zero-le))

  -- and the last read that writes to an element decides it
  pub copy-last : (rs : List Read) (from into : List A) (k i : ℕ) → k < length rs → (get_or rs k no_read).0 ≡ pos i → i < length into
      → ((m : ℕ) → k < m → m < length rs → (get_or rs m no_read).0 ≢ pos i)
      → get_or (copy_each d rs from into) i d ≡ element_at d from (get_or rs k no_read).1
  unfolding copy_each
  copy-last [] from into k i l e w h = absurd (omega arith)
  copy-last (r ∷ rs) from into zero i l e w h =
      copy-other rs from (store into r.0 (element_at d from r.1)) (pos i) (λ m q. h (suc m) (suc-le-suc zero-le) (suc-le-suc q))
      ∙ ap (λ (p : ℤ). get_or (store into p (element_at d from r.1)) i d) e
      ∙ get_or-set_same into i (element_at d from r.1) d w
  copy-last (r ∷ rs) from into (suc k) i l e w h =
      copy-last rs from (store into r.0 (element_at d from r.1)) k i (omega arith) e
      (subst (λ (n : ℕ). i < n) (sym (length-store into r.0 (element_at d from r.1))) w)
      (λ m p q. h (suc m) (omega arith) (suc-le-suc q))

-- ---- tabulated lists

pub length-tabulate : {A : Type 0} (n : ℕ) (f : ℕ → A) → length (tabulate n f) ≡ n
unfolding tabulate
length-tabulate zero f = refl
length-tabulate (suc n) f = ap suc (length-tabulate n (λ i. f (suc i)))

pub get_d_tabulate : {A : Type 0} (n : ℕ) (f : ℕ → A) (k : ℕ) (d : A) → k < n → get_or (tabulate n f) k d ≡ f k
unfolding tabulate
get_d_tabulate zero f k d h = absurd (omega arith)
get_d_tabulate (suc n) f zero d h = refl
get_d_tabulate (suc n) f (suc k) d h = get_d_tabulate n (λ i. f (suc i)) k d (omega arith)

-- a row of updates, and rows of them: none lands on p, or one does
row-lands : {A : Type 0} (p : ℤ) (n : ℕ) (f : ℕ → Update A) → (landing p (tabulate n f) ≡ []) ⊎ ((w : ℕ) × (w < n) × ((f w).0 ≡ p))
unfolding tabulate landing
row-lands p zero f = inl refl
row-lands {A} p (suc n) f = go (eq_z (f 0).0 p) refl (row-lands p n (λ w. f (suc w)))
  where
    go : (b : Bool) → eq_z (f 0).0 p ≡ b → (landing p (tabulate n (λ w. f (suc w))) ≡ []) ⊎ ((w : ℕ) × (w < n) × ((f (suc w)).0 ≡ p))
        → (cond b ((f 0).1 ∷ landing p (tabulate n (λ w. f (suc w)))) (landing p (tabulate n (λ w. f (suc w)))) ≡ []) ⊎ ((w : ℕ) × (w < suc n) × ((f w).0 ≡ p))
    go true e ih = inr (0, omega arith, eq_z-true (f 0).0 p e)
    go false e (inl m) = inl m
    go false e (inr (w, l, q)) = inr (suc w, omega arith, q)

pub rows-land : {A : Type 0} (p : ℤ) (n m : ℕ) (f : ℕ → ℕ → Update A)
    → (landing p (joined (tabulate n (λ b. tabulate m (λ w. f b w)))) ≡ []) ⊎ ((b : ℕ) × (w : ℕ) × (b < n) × (w < m) × ((f b w).0 ≡ p))
unfolding tabulate joined landing
rows-land p zero m f = inl refl
rows-land {A} p (suc n) m f = go (row-lands p m (λ w. f 0 w)) (rows-land p n m (λ b. f (suc b)))
  where
    go : (landing p (tabulate m (λ w. f 0 w)) ≡ []) ⊎ ((w : ℕ) × (w < m) × ((f 0 w).0 ≡ p))
        → (landing p (joined (tabulate n (λ b. tabulate m (λ w. f (suc b) w)))) ≡ []) ⊎ ((b : ℕ) × (w : ℕ) × (b < n) × (w < m) × ((f (suc b) w).0 ≡ p))
        → (landing p (tabulate m (λ w. f 0 w) ++ joined (tabulate n (λ b. tabulate m (λ w. f (suc b) w)))) ≡ []) ⊎ ((b : ℕ) × (w : ℕ) × (b < suc n) × (w < m) × ((f b w).0 ≡ p))
    go (inr (w, l, q)) r = inr (0, w, omega arith, l, q)
    go (inl e) (inr (b, w, k, l, q)) = inr (suc b, w, omega arith, l, q)
    go (inl e) (inl e') = inl (landing-append p (tabulate m (λ w. f 0 w)) (joined (tabulate n (λ b. tabulate m (λ w. f (suc b) w)))) ∙ ap₂ ◌++◌ e e')

-- rows of updates none of which lands on p
pub rows-miss : {A : Type 0} (p : ℤ) (n m : ℕ) (f : ℕ → ℕ → Update A) → ((b w : ℕ) → b < n → w < m → (f b w).0 ≢ p)
    → landing p (joined (tabulate n (λ b. tabulate m (λ w. f b w)))) ≡ []
rows-miss p n m f h = ⊎_elim (λ e. e) (λ q. absurd (h q.0 q.1 q.2 q.3 q.4)) (rows-land p n m f)
