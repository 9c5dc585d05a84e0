-- Reaches and extents of an accepted span. Assumes nothing.
use Rattle.std.specs.Prelude.{Option, Some, None}
use mathlib.Core.Path.{◌≡◌, refl}
use mathlib.Core.Bool.{true}
use mathlib.Core.List.{List, [], ◌∷◌}
use Prim.Native.Nat.{ℕ, zero, suc, ◌-◌, ◌<◌, ◌≤◌, ◌^◌}
use native.Mathlib.Omega.{arith}
use lib.ListN.{length, get_or}
use lib.IntN.{ℤ, pos, ◌*ℤ◌}
use Rattle.integer.specs.Defs.{checked, is_neg}
use Rattle.integer.specs.Machine.{checked-sfits}
use Rattle.layout.specs.Answers.{is_done}
use Rattle.layout.specs.Spans.{reach_of, widen_by, widened, span_from, spanned}
use Rattle.layout.specs.Laws.{then-inv}
use Rattle.checks.specs.Checks.{span_fits}
use Rattle.layout.specs.declared.Span.{Span}

span-fits : (x : Option Span) → is_done (span_fits x) ≡ true → (s : Span) × (x ≡ Some s)
span-fits (Some s) e = (s, refl)
span-fits None e = let z : ◌≡◌ {A = ℕ} 0 1 = cc in absurd (omega arith)

-- an accepted span has an accepted reach on each axis
span-reach : (p : Span) (ds : List ℕ) (ss : List ℤ) (q : Span) → length ss ≡ length ds → span_from p ds ss ≡ Some q → (i : ℕ) → i < length ds → (m : ℤ) × (reach_of (get_or ds i 0) (get_or ss i (pos 0)) ≡ Some m)
unfolding span_from widened
span-reach p [] ss q k e i n = absurd (omega arith)
span-reach p (d ∷ ds) [] q k e i n = absurd (omega arith)
span-reach p (d ∷ ds) (s ∷ ss) q k e zero n =
    let t = then-inv (widened p d s) (λ wider. span_from wider ds ss) q e in
    let u = then-inv (reach_of d s) (λ z. widen_by (is_neg z) p z) t.0 t.1 in
    (u.0, u.1)
span-reach p (d ∷ ds) (s ∷ ss) q k e (suc i) n =
    let t = then-inv (widened p d s) (λ wider. span_from wider ds ss) q e in
    span-reach t.0 ds ss q (omega arith) t.2 i (omega arith)

pub spans-reach : (ds : List ℕ) (ss : List ℤ) → length ss ≡ length ds → is_done (span_fits (spanned ds ss)) ≡ true → (i : ℕ) → i < length ds → (m : ℤ) × (reach_of (get_or ds i 0) (get_or ss i (pos 0)) ≡ Some m)
spans-reach ds ss k e = let t = span-fits (spanned ds ss) e in span-reach (record { low = pos 0; high = pos 0 }) ds ss t.0 k t.1

-- and no extent above 2 ^ 63
reach-small : (d : ℕ) (s m : ℤ) → reach_of d s ≡ Some m → d ≤ 2 ^ 63
unfolding reach_of
reach-small d s m e =
    let t = then-inv (checked (pos (d - 1))) (λ z. checked (s *ℤ z)) m e in
    omega (arith, (checked-sfits (pos (d - 1)) t.0 t.1).sfits)

pub spans-small : (ds : List ℕ) (ss : List ℤ) → length ss ≡ length ds → is_done (span_fits (spanned ds ss)) ≡ true → (i : ℕ) → i < length ds → get_or ds i 0 ≤ 2 ^ 63
spans-small ds ss k e i h = let r = spans-reach ds ss k e i h in reach-small (get_or ds i 0) (get_or ss i (pos 0)) r.0 r.1
