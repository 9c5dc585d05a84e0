use Rattle.std.specs.Prelude.{◌-◌, ℕ, get_or}
use Rattle.std.proofs.Common.{sym, ap, ap₂, ◌∙◌, arith}
use Rattle.indexing.specs.Coordinates.{tabulate}
use Rattle.indexing.proofs.Updates.{length-tabulate, get_d_tabulate}
use Rattle.layout.specs.Layouts.{rank_limit}
use Rattle.axis_lists.proofs.Filling.{one_written, all-written}
use Rattle.components.specs.Components.{limit_at}
use Rattle.components.proofs.Padded.{full}
use Rattle.components.proofs.limits_on.Goals as goal

pub loop-i-preserved : goal.loop-i-preserved
loop-i-preserved c =
    let f = limit_at c.args.extents.now c.args.sizes.now c.args.map.now in
    let k = length-tabulate rank_limit f in
    let a = c.entry_at-axis.ensures in
    let e = c.entry_at-extent.ensures ∙ ap (λ (m : ℕ). get_or c.args.extents.now m 0) a in
    let w = c.entry_at-window.ensures ∙ ap (λ (m : ℕ). get_or c.args.sizes.now m 0) a in
    one_written 0 (tabulate rank_limit f) c.loop-i.out c.loop-i.i c.saturating_sub.result (omega (arith, k)) (omega (arith, k)) c.loop-i.invariant
    (c.saturating_sub.ensures ∙ ap₂ ◌-◌ e w ∙ sym (get_d_tabulate rank_limit f c.loop-i.i 0 (omega arith)))

pub returns : goal.returns
returns c =
    let f = limit_at c.args.extents.now c.args.sizes.now c.args.map.now in
    let k = length-tabulate rank_limit f in
    c.loop-i.invariant ∙ all-written 0 (tabulate rank_limit f) c.loop-i.i (omega (arith, k)) (omega (arith, k)) ∙ full 0 (tabulate rank_limit f) k
