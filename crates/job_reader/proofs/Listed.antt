-- A byte that stands for a kind or an element, and one that stands for none. Assumes nothing.
use Rattle.std.proofs.Common.{◌≡◌, ℕ, ◌≤◌, Bool, true, false, cond, eqb, Result, Ok, Err, List, refl, arith}
use borrow.Author.Tests.{eqb-true, eqb-false}
use Rattle.job_bytes.specs.Fields.{read, fault, number_at, byte_at}
use Rattle.job_bytes.proofs.Reading.{byte-out, byte-here}
use Rattle.job.specs.declared.Unlisted.{Unlisted}

-- x at 1, y at 2
abbrev pub one_or_two : {T : Type 0} → T → T → ℕ → Result T Unlisted
one_or_two x y b = cond (eqb b 1) (Ok x) (cond (eqb b 2) (Ok y) (Err (record {})))

pub listed : {T : Type 0} (x y t : T) (bs : List ℕ) (at b k : ℕ) → number_at 1 bs at ≡ read b k → Ok t ≡ one_or_two x y b → (byte_at 1 2 bs at ≡ read b k) × (t ≡ cond (eqb b 1) x y)
listed {T} x y t bs at b k n e = one (eqb b 1) refl e
  where
    here : 1 ≤ b → b ≤ 2 → byte_at 1 2 bs at ≡ read b k
    here l h = byte-here 1 2 bs at b k n l h

    two : (q : Bool) → eqb b 2 ≡ q → ◌≡◌ {A = Result T Unlisted} (Ok t) (cond q (Ok y) (Err (record {}))) → (byte_at 1 2 bs at ≡ read b k) × (t ≡ y)
    two true p e = let f = eqb-true b 2 p in (here (omega arith) (omega arith), cc)
    two false p e = absurd cc

    one : (q : Bool) → eqb b 1 ≡ q → ◌≡◌ {A = Result T Unlisted} (Ok t) (cond q (Ok x) (cond (eqb b 2) (Ok y) (Err (record {})))) → (byte_at 1 2 bs at ≡ read b k) × (t ≡ cond q x y)
    one true p e = let f = eqb-true b 1 p in (here (omega arith) (omega arith), cc)
    one false p e = two (eqb b 2) refl e

pub unlisted : {T : Type 0} (x y : T) (u : Unlisted) (bs : List ℕ) (at b k : ℕ) → number_at 1 bs at ≡ read b k → Err u ≡ one_or_two x y b → byte_at 1 2 bs at ≡ fault at
unlisted {T} x y u bs at b k n e = one (eqb b 1) refl e
  where
    two : (q : Bool) → eqb b 2 ≡ q → (b ≡ 1 → ⊥) → ◌≡◌ {A = Result T Unlisted} (Err u) (cond q (Ok y) (Err (record {}))) → byte_at 1 2 bs at ≡ fault at
    two true p f e = absurd cc
    two false p f e = let g = eqb-false b 2 p in byte-out 1 2 bs at b k n (λ l h. omega arith)

    one : (q : Bool) → eqb b 1 ≡ q → ◌≡◌ {A = Result T Unlisted} (Err u) (cond q (Ok x) (cond (eqb b 2) (Ok y) (Err (record {})))) → byte_at 1 2 bs at ≡ fault at
    one true p e = absurd cc
    one false p e = two (eqb b 2) refl (eqb-false b 1 p) e
