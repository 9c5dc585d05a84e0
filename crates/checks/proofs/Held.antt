-- Lists as they are held and lent, and layouts that neither 1 nor 2 refuses. Assumes nothing.
use mathlib.Core.Path.{◌≡◌, ap, ap₂, ◌∙◌, refl}
use mathlib.Core.Bool.{Bool, true, false, cond}
use mathlib.Core.List.{List, [], ◌∷◌, map}
use Prim.Native.Nat.{ℕ, ◌+◌, ◌-◌, ◌≤◌, min, zero, suc}
use native.Mathlib.Omega.{arith}
use lib.ListN.{length, take, drop, replicate, length-append, length-take, length-replicate}
use lib.IntN.{ℤ, pos}
use Rattle.indexing.specs.Coordinates.{others}
use Rattle.layout.specs.Answers.{is_done}
use Rattle.layout.specs.Layouts.{rank_limit, padded, stride_length, rank_at_most}
use Rattle.axis_lists.specs.Held.{held_numbers, Numbers, numbers_of}
use Rattle.axis_lists.proofs.Filling.{read_back, length-others}
use Rattle.checks.specs.Checks.{layouts_refusal}
use Rattle.checks.proofs.Made.{or-done, same_length, few-axes}

pub never : {A : Type 0} → true ≡ false → A
never e = let z : ◌≡◌ {A = ℕ} 0 1 = ap (λ (t : Bool). cond t 0 1) e in absurd (omega arith)

-- ---- a list that is held in an array, lent up to its count
pub length-padded : {A : Type 0} (n : ℕ) (d : A) (l : List A) → length (padded n d l) ≡ n
unfolding padded
length-padded n d l = length-append (take n l) (replicate (n - length l) d) ∙ ap₂ ◌+◌ (length-take n l) (length-replicate (n - length l) d) ∙ omega arith

pub held-part : (r : Numbers) (l : List ℕ) → r ≡ held_numbers l → length l ≤ rank_limit → take (r.count - 0) (drop 0 r.entries) ≡ l
held-part r l e h =
    let z : length l - 0 ≡ length l = omega arith in
    ap (λ (m : Numbers). take (m.count - 0) (drop 0 m.entries)) e ∙ ap (λ (k : ℕ). take k (padded rank_limit 0 l)) z ∙ read_back 0 l h

pub steps-part : (n : ℕ) (xs l : List ℤ) → xs ≡ padded rank_limit (pos 0) l → length l ≡ n → n ≤ rank_limit → take n xs ≡ l
steps-part n xs l e k h =
    let z : n ≡ length l = omega arith in
    ap (λ (ys : List ℤ). take n ys) e ∙ ap (λ (m : ℕ). take m (padded rank_limit (pos 0) l)) z ∙ read_back (pos 0) l (omega arith)

-- it lies inside the array
pub held_fits : (r : Numbers) (l : List ℕ) → r ≡ held_numbers l → length l ≤ rank_limit → r.count ≤ length r.entries
held_fits r l e h =
    let c : r.count ≡ length l = ap (λ (m : Numbers). m.count) e in
    let k : length r.entries ≡ rank_limit = ap (λ (m : Numbers). length m.entries) e ∙ length-padded rank_limit 0 l in
    omega arith

pub few-others : (n : ℕ) (axes : List ℕ) → n ≤ rank_limit → length (others n axes) ≤ rank_limit
few-others n axes h = omega (arith, length-others 0 n axes)

pub others-held : (r : Numbers) (n : ℕ) (axes : List ℕ) → r ≡ held_numbers (others (min n rank_limit) axes) → n ≤ rank_limit → r ≡ held_numbers (others n axes)
others-held r n axes e h = let q : min n rank_limit ≡ n = omega arith in e ∙ ap (λ (k : ℕ). held_numbers (others k axes)) q

-- the axes that a list has not, lent
pub lent-others : (r : Numbers) (n : ℕ) (axes : List ℕ) → r ≡ held_numbers (others (min n rank_limit) axes) → n ≤ rank_limit → numbers_of r ≡ others n axes
lent-others r n axes e h = ap numbers_of (others-held r n axes e h) ∙ read_back 0 (others n axes) (few-others n axes h)

-- ---- lists that neither 1 nor 2 refuses
pub record Lengths (oe os ie is de ds : ℕ) : Type 0 where
  pub operand : os ≡ oe
  pub index : is ≡ ie
  pub dest : ds ≡ de
  pub operand-few : oe ≤ rank_limit
  pub index-few : ie ≤ rank_limit
  pub dest-few : de ≤ rank_limit

pub lengths-pass : (oe os ie is de ds : ℕ) → is_done (layouts_refusal oe os ie is de ds) ≡ true → Lengths oe os ie is de ds
lengths-pass oe os ie is de ds done =
    let (a, d1) = or-done (stride_length oe os) _ done in
    let (b, d2) = or-done (stride_length ie is) _ d1 in
    let (d, d3) = or-done (stride_length de ds) _ d2 in
    let (x, d4) = or-done (rank_at_most oe) _ d3 in
    let (y, z) = or-done (rank_at_most ie) _ d4 in
    record { operand = same_length oe os a; index = same_length ie is b; dest = same_length de ds d; operand-few = few-axes oe x; index-few = few-axes ie y; dest-few = few-axes de z }

pub take-map : {A B : Type 0} (f : A → B) (n : ℕ) (l : List A) → take n (map f l) ≡ map f (take n l)
take-map f zero l = refl
take-map f (suc n) [] = refl
take-map {A} {B} f (suc n) (x ∷ xs) = ap (λ (r : List B). f x ∷ r) (take-map f n xs)
