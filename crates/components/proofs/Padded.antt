-- Lists as arrays hold them, entry by entry. Assumes nothing.
use mathlib.Core.Path.{◌≡◌, refl, sym, ap, ap₂, ◌∙◌}
use mathlib.Core.Bool.{Bool, true, false, cond}
use mathlib.Core.List.{List, ◌++◌, append-nil}
use Prim.Native.Nat.{ℕ, ◌+◌, ◌-◌, ◌<◌, ◌≤◌}
use native.Mathlib.Omega.{arith}
use borrow.Author.Tests.{ne_eqb, ltb-true, ltb-false}
use lib.Dec.{ltb}
use lib.ListN.{length, get_or, take, replicate, length-take}
use lib.Seq.{take_all, ext_get_or, get_or-append-add}
use lib.IntN.{ℤ, pos}
use Rattle.indexing.specs.Axes.{get_or-same}
use Rattle.indexing.specs.Coordinates.{tabulate}
use Rattle.indexing.proofs.Updates.{length-tabulate, get_d_tabulate}
use Rattle.layout.specs.Layouts.{rank_limit, padded}
use Rattle.axis_lists.proofs.Filling.{entry-below, read_back}
use Rattle.checks.proofs.Held.{length-padded}
use Rattle.components.specs.Components.{unless_none}

-- a list of as many entries as an array
pub full : {A : Type 0} (d : A) (l : List A) → length l ≡ rank_limit → padded rank_limit d l ≡ l
unfolding padded
full {A} d l e = let z : rank_limit - length l ≡ 0 = omega arith in ap₂ ◌++◌ (take_all rank_limit l (omega arith)) (ap (λ (n : ℕ). replicate n d) z) ∙ append-nil l

pub padded-entry : {A : Type 0} (d : A) (l : List A) (i : ℕ) → i < length l → length l ≤ rank_limit → get_or (padded rank_limit d l) i d ≡ get_or l i d
padded-entry {A} d l i h f = entry-below (length l) (padded rank_limit d l) i d h ∙ ap (λ (x : List A). get_or x i d) (read_back d l f)

pub padded-past : {A : Type 0} (d : A) (l : List A) (i : ℕ) → length l ≤ i → get_or (padded rank_limit d l) i d ≡ d
unfolding padded
padded-past {A} d l i h =
    let n : ℕ = length (take rank_limit l) in
    let e : i ≡ n + (i - n) = omega (arith, length-take rank_limit l) in
    ap (λ (j : ℕ). get_or (take rank_limit l ++ replicate (rank_limit - length l) d) j d) e ∙ get_or-append-add (take rank_limit l) (replicate (rank_limit - length l) d) (i - n) d ∙ get_or-same d (rank_limit - length l) (i - n)

-- a number of each entry of such an array
pub each-padded : {A : Type 0} (f : A → ℤ) (d : A) (l : List A) (zs : List ℤ) → f d ≡ pos 0 → length l ≤ rank_limit → length zs ≡ length l → ((a : ℕ) → a < length l → f (get_or l a d) ≡ get_or zs a (pos 0))
    → tabulate rank_limit (λ a. f (get_or (padded rank_limit d l) a d)) ≡ padded rank_limit (pos 0) zs
each-padded f d l zs none few same each =
    let xs : List ℤ = tabulate rank_limit (λ a. f (get_or (padded rank_limit d l) a d)) in
    let k : length xs ≡ rank_limit = length-tabulate rank_limit (λ a. f (get_or (padded rank_limit d l) a d)) in
    ext_get_or (pos 0) xs (padded rank_limit (pos 0) zs) (k ∙ sym (length-padded rank_limit (pos 0) zs))
    (λ i h. get_d_tabulate rank_limit (λ a. f (get_or (padded rank_limit d l) a d)) i (pos 0) (omega (arith, k)) ∙ at i (ltb i (length l)) refl)
  where
    at : (i : ℕ) (t : Bool) → ltb i (length l) ≡ t → f (get_or (padded rank_limit d l) i d) ≡ get_or (padded rank_limit (pos 0) zs) i (pos 0)
    at i true e = let h : i < length l = ltb-true i (length l) e in ap f (padded-entry d l i h few) ∙ each i h ∙ sym (padded-entry (pos 0) zs i (omega arith) (omega arith))
    at i false e = let h : length l ≤ i = ltb-false i (length l) e in ap f (padded-past d l i h) ∙ none ∙ sym (padded-past (pos 0) zs i (omega arith))

pub unless-some : {A : Type 0} (count : ℕ) (none x : A) → 0 < count → unless_none count none x ≡ x
unless-some {A} count none x h = ap (λ b. cond b none x) (ne_eqb count 0 (λ e. omega arith))
