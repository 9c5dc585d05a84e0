-- Fields read one after another. Assumes nothing.
use mathlib.Core.Path.{◌≡◌, refl, sym, ap, ◌∙◌}
use mathlib.Core.Bool.{Bool, true, false, cond, ◌&&◌}
use mathlib.Core.List.{List, [], ◌∷◌, ◌++◌, append_assoc, append-nil}
use Prim.Native.Nat.{ℕ, zero, suc, ◌+◌, ◌-◌, ◌≤◌, ◌<◌}
use native.Mathlib.Numerals.{add-one}
use native.Mathlib.Omega.{arith}
use borrow.Author.Tests.{le-leb, lt-leb, leb-true}
use lib.Dec.{leb}
use lib.ListN.{length, take, drop, get_or, set, replicate, length-set, take-append-drop}
use lib.Seq.{take-suc-set, drop-set-lt, drop-cons, take_all, length-take-le}
use Rattle.layout.specs.Layouts.{padded}
use Rattle.layout.proofs.Fill.{padded-back}
use Rattle.job_bytes.specs.Fields.{Field, read, fault, and_then, number_from, number_at, byte_at, words_at, held_as, held, held_words}
use Rattle.job_bytes.specs.declared.Read.{Read}
use Rattle.job_bytes.specs.declared.Fault.{Fault}
use Rattle.std.proofs.Common.{Result, Ok, Err}
use Rattle.job_bytes.specs.Version.{list_limit}

-- what is handed back of a field tells of it: where it is at fault, and what was read
pub stopped : {A B : Type 0} (g : A → B) (f : Field A) (e : Fault) → Err e ≡ held_as g f → f ≡ fault e.at
stopped g (read x k) e h = cc
stopped g (fault k) e h = let p : e ≡ record { at = k } = cc in rw p

-- what was read, of which the value handed back is one form
pub record Got {A B : Type 0} (g : A → B) (f : Field A) (r : Read B) : Type 0 where
  pub value : A
  pub is : f ≡ read value r.at
  pub made : r.value ≡ g value

pub got : {A B : Type 0} (g : A → B) (f : Field A) (r : Read B) → Ok r ≡ held_as g f → Got g f r
got g (read x k) r h = let p : r ≡ record { value = g x; at = k } = cc in record { value = x; is = rw p; made = rw p }
got g (fault k) r h = absurd cc

pub was_read : {A : Type 0} (f : Field A) (r : Read A) → Ok r ≡ held f → f ≡ read r.value r.at
was_read f r h = let p = got (λ x. x) f r h in p.is ∙ ap (λ x. read x r.at) (sym p.made)

pub gives : {A B : Type 0} (g : A → B) (f : Field A) (x : A) (k : ℕ) (y : B) → f ≡ read x k → y ≡ g x → Ok (record { value = y; at = k }) ≡ held_as g f
gives g f x k y e h = rw (e, h)

-- a fault that `?` passes on
pub passed_on : {A B : Type 0} (g : A → B) (f : Field A) (e x : Fault) (r : Result (Read B) Fault) → r ≡ Err x → x ≡ e → f ≡ fault e.at → r ≡ held_as g f
passed_on g f e x r p q h = p ∙ ap (λ (y : Fault). Err y) q ∙ sym (ap (held_as g) h)

-- words in front of those that are read
abbrev pub ahead : List ℕ → Field (List ℕ) → Field (List ℕ)
ahead xs (read ys k) = read (xs ++ ys) k
ahead xs (fault k) = fault k

ahead-one : (xs : List ℕ) (x : ℕ) (f : Field (List ℕ)) → ahead xs (and_then f (λ ys k. read (x ∷ ys) k)) ≡ ahead (xs ++ (x ∷ [])) f
ahead-one xs x (read ys k) = ap (λ (l : List ℕ). read l k) (sym (append_assoc xs (x ∷ []) ys))
ahead-one xs x (fault k) = refl

-- after i words: those read stand in front, zeros behind them, and the rest is still to be read from this place
pub record Reading (n : ℕ) (bs : List ℕ) (at : ℕ) (out : List ℕ) (place i : ℕ) : Type 0 where
  pub here : i ≤ n
  pub size : length out ≡ list_limit
  pub rest : drop i out ≡ replicate (list_limit - i) 0
  pub left : ahead (take i out) (words_at (n - i) bs place) ≡ words_at n bs at

-- one zero less
zeros-behind : (out : List ℕ) (i : ℕ) → i < length out → i < list_limit → drop i out ≡ replicate (list_limit - i) 0 → drop (suc i) out ≡ replicate (list_limit - suc i) 0
zeros-behind out i h l e =
    let n : list_limit - i ≡ suc (list_limit - suc i) = omega arith in
    let f : get_or out i 0 ∷ drop (suc i) out ≡ 0 ∷ replicate (list_limit - suc i) 0 = sym (drop-cons out i 0 h) ∙ e ∙ ap (λ (j : ℕ). replicate j 0) n in
    cc

module _ (n : ℕ) (bs : List ℕ) (at : ℕ) (out : List ℕ) (place i : ℕ) (m : n ≤ list_limit) (h : i < n) (r : Reading n bs at out place i) where
  -- what the rest comes to
  more : words_at (n - i) bs place ≡ and_then (number_at 8 bs place) (λ w k. and_then (words_at (n - (i + 1)) bs k) (λ ws l. read (w ∷ ws) l))
  unfolding words_at
  more = let e : n - i ≡ suc (n - (i + 1)) = omega arith in rw e

  pub word-stops : (k : ℕ) → number_at 8 bs place ≡ fault k → words_at n bs at ≡ fault k
  word-stops k e = sym r.left ∙ ap (ahead (take i out)) (more ∙ ap (λ f. and_then f (λ w l. and_then (words_at (n - (i + 1)) bs l) (λ ws o. read (w ∷ ws) o))) e)

  pub word_more : (w k : ℕ) → number_at 8 bs place ≡ read w k → Reading n bs at (set out i w) k (i + 1)
  word_more w k e =
      let inside : i < length out = omega (arith, r.size) in
      record {
        here = omega arith;
        size = length-set out i w ∙ r.size;
        rest = rw (add-one i) (drop-set-lt (suc i) out i w (omega arith) ∙ zeros-behind out i inside (omega arith) r.rest);
        left =
            rw (add-one i, take-suc-set out i w inside)
            (rw (← add-one i)
            (sym (ahead-one (take i out) w (words_at (n - (i + 1)) bs k))
            ∙ ap (ahead (take i out)) (sym (more ∙ ap (λ f. and_then f (λ v l. and_then (words_at (n - (i + 1)) bs l) (λ ws o. read (v ∷ ws) o))) e))
            ∙ r.left));
      }

pub all_words : (n : ℕ) (bs : List ℕ) (at : ℕ) (out : List ℕ) (place i : ℕ) → n ≤ list_limit → n ≤ i → Reading n bs at out place i → Ok (record { value = out; at = place }) ≡ held_words (words_at n bs at)
unfolding words_at padded
all_words n bs at out place i m h r = let e : i ≡ n = omega (arith, r.here) in go e
  where
    go : i ≡ n → Ok (record { value = out; at = place }) ≡ held_words (words_at n bs at)
    go e =
        let z : n - i ≡ 0 = omega arith in
        let f : words_at n bs at ≡ read (take i out) place = sym r.left ∙ rw z (ap (λ (l : List ℕ). read l place) (append-nil (take i out))) in
        let s : length (take i out) ≡ i = length-take-le i out (omega (arith, r.size)) in
        let full : padded list_limit 0 (take i out) ≡ out = rw (take_all list_limit (take i out) (omega arith), s, ← r.rest) (take-append-drop i out) in
        rw (f, full)

-- a number of n bytes, by the tests of what is left
pub number_cut : (n : ℕ) (bs : List ℕ) (at : ℕ) → length bs < at + n → number_at n bs at ≡ fault at
unfolding number_at
number_cut n bs at h = rw (lt-leb (at + n) (length bs) h)

pub number-here : (n : ℕ) (bs : List ℕ) (at v : ℕ) → at + n ≤ length bs → v ≡ number_from 0 (take n (drop at bs)) → number_at n bs at ≡ read v (at + n)
unfolding number_at
number-here n bs at v h e = rw (le-leb (at + n) (length bs) h, e)

-- a listed byte
module _ (low high : ℕ) (bs : List ℕ) (at : ℕ) where
  pub byte-fault : (k : ℕ) → number_at 1 bs at ≡ fault k → byte_at low high bs at ≡ fault k
  unfolding byte_at
  byte-fault k e = rw e

  pub byte-out : (b k : ℕ) → number_at 1 bs at ≡ read b k → (low ≤ b → b ≤ high → ⊥) → byte_at low high bs at ≡ fault at
  unfolding byte_at
  byte-out b k e h = rw e (go (leb low b) (leb b high) refl refl)
    where
      go : (s t : Bool) → leb low b ≡ s → leb b high ≡ t → cond (s && t) (read b k) (fault at) ≡ fault at
      go true true p q = absurd (h (leb-true low b p) (leb-true b high q))
      go true false p q = refl
      go false t p q = refl

  pub byte-here : (b k : ℕ) → number_at 1 bs at ≡ read b k → low ≤ b → b ≤ high → byte_at low high bs at ≡ read b k
  unfolding byte_at
  byte-here b k e h l = rw (e, le-leb low b h, le-leb b high l)

-- ---- a field that was read, taken apart
pub fault-read : {A : Type 0} {k m : ℕ} {y : A} → fault k ≡ read y m → ⊥
fault-read e = let z : ◌≡◌ {A = ℕ} 0 1 = cc in omega arith

pub then-read : {A B : Type 0} (f : Field A) (g : A → ℕ → Field B) (y : B) (m : ℕ) → and_then f g ≡ read y m → (x : A) × (k : ℕ) × (f ≡ read x k) × (g x k ≡ read y m)
then-read (read x k) g y m e = (x, k, refl, e)
then-read (fault k) g y m e = absurd (fault-read e)

pub byte-range : (low high : ℕ) (bs : List ℕ) (at b k : ℕ) → byte_at low high bs at ≡ read b k → (low ≤ b) × (b ≤ high)
unfolding byte_at
byte-range low high bs at b k e = go (number_at 1 bs at) e
  where
    within : (v m : ℕ) (s t : Bool) → leb low v ≡ s → leb v high ≡ t → cond (s && t) (read v m) (fault at) ≡ read b k → (low ≤ b) × (b ≤ high)
    within v m true true p q e = let f : v ≡ b = cc in (omega (arith, leb-true low v p), omega (arith, leb-true v high q))
    within v m true false p q e = absurd (fault-read e)
    within v m false true p q e = absurd (fault-read e)
    within v m false false p q e = absurd (fault-read e)

    go : (f : Field ℕ) → and_then f (λ v m. cond (leb low v && leb v high) (read v m) (fault at)) ≡ read b k → (low ≤ b) × (b ≤ high)
    go (read v m) e = within v m (leb low v) (leb v high) refl refl e
    go (fault m) e = absurd (fault-read e)

pub words_count : (n : ℕ) (bs : List ℕ) (at : ℕ) (ws : List ℕ) (k : ℕ) → words_at n bs at ≡ read ws k → length ws ≡ n
unfolding words_at
words_count zero bs at ws k e = let f : [] ≡ ws = cc in sym (ap length f)
words_count (suc n) bs at ws k e =
    let a = then-read (number_at 8 bs at) _ ws k e in
    let b = then-read (words_at n bs a.1) (λ vs m. read (a.0 ∷ vs) m) ws k a.3 in
    let f : a.0 ∷ b.0 ≡ ws = cc b.3 in
    sym (ap length f) ∙ ap suc (words_count n bs a.1 b.0 b.1 b.2)

-- what words handed back say of them
pub words-read : (n : ℕ) (bs : List ℕ) (at : ℕ) (r : Read (List ℕ)) → n ≤ list_limit → Ok r ≡ held_words (words_at n bs at) → words_at n bs at ≡ read (take n r.value) r.at
words-read n bs at r m h =
    let p = got (padded list_limit 0) (words_at n bs at) r h in
    let s : length p.value ≡ n = words_count n bs at p.value r.at p.is in
    let b : take n (padded list_limit 0 p.value) ≡ p.value = padded-back list_limit 0 n p.value (sym s) (omega arith) in
    p.is ∙ ap (λ (ws : List ℕ). read ws r.at) (sym b ∙ ap (take n) (sym p.made))

pub number-room : (n : ℕ) (bs : List ℕ) (at v k : ℕ) → number_at n bs at ≡ read v k → (k ≡ at + n) × (at + n ≤ length bs)
unfolding number_at
number-room n bs at v k e = go (leb (at + n) (length bs)) refl e
  where
    go : (t : Bool) → leb (at + n) (length bs) ≡ t → cond t (read (number_from 0 (take n (drop at bs))) (at + n)) (fault at) ≡ read v k → (k ≡ at + n) × (at + n ≤ length bs)
    go true h e = (cc, leb-true (at + n) (length bs) h)
    go false h e = absurd (fault-read e)
