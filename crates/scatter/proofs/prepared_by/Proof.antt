use Rattle.std.specs.Prelude.{Ok}
use mathlib.Core.Path.{◌≡◌, ap, ap₂, ◌∙◌}
use Prim.Native.Nat.{ℕ}
use lib.IntN.{ℤ, pos}
use borrow.Author.Rules.{rules}
use mir.Syntax.{w64}
use mir.Val.{SFits}
use Rattle.integer.specs.Z.{back}
use Rattle.components.specs.Components.{unless_none}
use Rattle.scatter_move.specs.Prepared.{scatter_numbers}
use Rattle.scatter_move.specs.declared.ScatterNumbers.{ScatterNumbers}
use Rattle.scatter_move.specs.declared.PreparedScatter.{PreparedScatter}
use Rattle.scatter.proofs.prepared_by.Statement.{statement}
use Rattle.scatter.proofs.prepared_by.Tie as tie

offsets : (s : tie.Start) → SFits w64 s.args.index.offset × SFits w64 s.args.updates.offset × SFits w64 s.args.dest.offset
offsets s = (search (rules, s.well_formed.1.1.1.0), search (rules, s.well_formed.1.1.1.1.0), search (rules, s.well_formed.1.1.1.1.1.0))

numbers-of-requires : tie.Need-numbers_of-numbers-requires
numbers-of-requires c κs = let s = c in s.requires

returns : tie.Need-returns
unfolding scatter_numbers
returns c =
    let s = c in
    let n = c in
    let b = c in
    let x = c in
    let (f, fu, fd) = offsets search in
    let fb : SFits w64 b.start_base-base.result = search rules in
    let e = n.numbers_of-numbers.ensures in
    let i = back fb ∙ b.start_base-base.ensures ∙ ap₂ (λ (m : ℕ) (z : ℤ). unless_none m (pos 0) z) (ap (λ (w : ScatterNumbers). w.count) e) (back f) in
    λ j. record { answer = Ok tt; reach = s.args.reach; numbers = e j; batch_axes = x.axes_from-batch_axes.ensures j; index = i j; updates = back fu j; dest = back fd j }

pub prepared_by_spec : {M : Type 1} → statement M
prepared_by_spec = tie.close (tie.spec numbers-of-requires (λ c κs. tt) (λ c κs. tt) returns)
