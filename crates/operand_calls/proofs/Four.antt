-- What the answer of a call with an operand tells, and what is prepared by it. Assumes nothing.
use mathlib.Core.Path.{◌≡◌, sym, ap, ◌∙◌}
use mathlib.Core.Bool.{true}
use Prim.Native.Nat.{ℕ}
use Rattle.indexing.specs.Coordinates.{View}
use Rattle.indexing.specs.Scatter.{Scatter}
use Rattle.layout.specs.declared.Reach.{Reach}
use Rattle.layout.specs.declared.Reach.TheVariants as R
use Rattle.layout.specs.Answers.{is_done, or_else, Answer}
use Rattle.layout.specs.Reach.{buffer_bounds}
use Rattle.checks.proofs.Made.{or-done}
use Rattle.operand_checks.proofs.Sizes.{both-done}
use Rattle.calls.specs.Calls.{reach_in}
use Rattle.calls.specs.Calls as calls
use Rattle.scatter_move.specs.declared.PreparedScatter.{PreparedScatter}
use Rattle.operand_calls.specs.declared.PreparedCopy.{PreparedCopy}
use Rattle.operand_calls.specs.Calls.{bounds_refusal}
use Rattle.operand_calls.specs.Prepared.{copy_of, Prepares, Movable}

-- a view that passes the test of 9 passes it by any number
by_number : (m n : ℕ) (r : Reach) → is_done (buffer_bounds m r) ≡ true → is_done (buffer_bounds n r) ≡ true
by_number m n (R.Cells low high) e = e
by_number m n R.NoCells e = e
by_number m n R.Outside e = e

module _ (o : View) (s : Scatter) (on sn un dn : ℕ) (e : is_done (bounds_refusal o s on sn un dn) ≡ true) where
  pub operand-bounds : is_done (buffer_bounds 1 (reach_in o on)) ≡ true
  operand-bounds = (or-done (buffer_bounds 1 (reach_in o on)) _ e).0

  -- the test of 9 of the scatter without its operand
  pub scatter-bounds : is_done (calls.bounds_refusal s.indices s.updates s.result sn un dn) ≡ true
  scatter-bounds =
      let a = or-done (buffer_bounds 1 (reach_in o on)) _ e in
      let b = or-done (buffer_bounds 2 (reach_in s.indices sn)) _ a.1 in
      let c = or-done (buffer_bounds 3 (reach_in s.updates un)) (buffer_bounds 4 (reach_in s.result dn)) b.1 in
      both-done (buffer_bounds 1 (reach_in s.indices sn)) (or_else (buffer_bounds 2 (reach_in s.updates un)) (buffer_bounds 3 (reach_in s.result dn)))
      (by_number 2 1 (reach_in s.indices sn) b.0)
      (both-done (buffer_bounds 2 (reach_in s.updates un)) (buffer_bounds 3 (reach_in s.result dn)) (by_number 3 2 (reach_in s.updates un) c.0) (by_number 4 3 (reach_in s.result dn) c.1))

-- what was prepared can be moved, with the copy of its operand
abbrev pub movable : {p : PreparedScatter} {c : PreparedCopy} {answer : Answer} {o : View} {s : Scatter} {on sn un dn : ℕ} → Prepares p answer o s on sn un dn → (is_done answer ≡ true → c ≡ copy_of o s) → Movable p c on sn un dn
movable {o = o} {s = s} q f = record { operand = o; scatter = s; ready = λ d. q.ready (ap is_done (sym q.answered) ∙ d); copy = λ d. f (ap is_done (sym q.answered) ∙ d) }
