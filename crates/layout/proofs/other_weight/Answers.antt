use Rattle.std.specs.Prelude.{◌≡◌, Bool, true, false, ℕ, ◌<◌, ℤ, nat_abs, Some}
use Rattle.std.proofs.Common.{sym, ap, ◌∙◌, arith, ltb-true}
use Rattle.std.proofs.lemmas.Bool.{lt-leb}
use Rattle.integer.specs.Defs.{checked_u}
use Rattle.integer.specs.Machine.{checked_u-yes}
use Rattle.integer.specs.Z.{back}
use Rattle.layout.specs.Sums.{other_weight}
use Rattle.layout.proofs.other_weight.Goals as goal
use Rattle.layout.proofs.other_weight.Goals.{then-own, else-own}

past-limit : (limit : ℕ) (own : Bool) (d : ℕ) (s : ℤ) → limit < nat_abs s → Some 0 ≡ checked_u (other_weight limit own d s)
past-limit limit true d s h = checked_u-yes 0 (omega arith)
past-limit limit false d s h = rw (lt-leb (nat_abs s) limit h) (checked_u-yes 0 (omega arith))

own-axis : (limit : ℕ) (own : Bool) (d : ℕ) (s : ℤ) → own ≡ true → Some 0 ≡ checked_u (other_weight limit own d s)
own-axis limit own d s h = rw h (checked_u-yes 0 (omega arith))

pub returns-then-limit-unsigned_abs : goal.returns-then-limit-unsigned_abs
returns-then-limit-unsigned_abs c =
    elim c.if-own.branch [
      | then-own w ↦ own-axis c.args.limit c.args.own c.args.extent c.args.stride w.if-own.true
      | else-own w ↦ let l = ltb-true _ _ (sym w.value-is ∙ c.if-limit-unsigned_abs.true) in past-limit c.args.limit c.args.own c.args.extent c.args.stride (omega (arith, l, w.unsigned_abs.ensures.value ∙ ap nat_abs (back c.ranges.stride)))
    ]
