use mathlib.Core.Path.{◌≡◌, sym, ap, ◌∙◌}
use borrow.Author.Rules.{rules}
use lib.ListN.{length}
use lib.IntN.{ℤ, pos}
use mir.Syntax.{w64}
use mir.Val.{SFits}
use Rattle.integer.specs.Z.{back}
use Rattle.replay.specs.declared.CompiledReplay.{CompiledReplay}
use Rattle.components.specs.Components.{unless_none}
use Rattle.scatter_lists.proofs.Lent.{prepared-is}
use Rattle.scatter_lists.proofs.prepared_from.Statement.{statement}
use Rattle.scatter_lists.proofs.prepared_from.Tie as tie

numbers-on-requires : tie.Need-numbers_on-numbers-requires
numbers-on-requires c κs = let s = c in s.requires

returns : tie.Need-returns
returns c =
    let s = c in
    let n = c in
    let b = c in
    let fb : SFits w64 b.start_base-base.result = search rules in
    prepared-is _ _ _ _ s.requires n.numbers_on-numbers.ensures
    (back fb ∙ b.start_base-base.ensures ∙ ap (λ (z : ℤ). unless_none (length s.args.scatter_dims_to_operand_dims.now) (pos 0) z) (back s.ranges.index_offset))
    (back s.ranges.updates_offset) (back s.ranges.dest_offset)

pub prepared_from_spec : {M : Type 1} → statement M
prepared_from_spec = tie.close (tie.spec numbers-on-requires (λ c κs. tt) returns)
