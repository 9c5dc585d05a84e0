use Rattle.std.proofs.Common.{arith, ℕ, Bool, cond, get_or, sym, ap, ◌∙◌}
use Rattle.indexing.specs.Coordinates.{tabulate, has}
use Rattle.indexing.proofs.Updates.{length-tabulate, get_d_tabulate}
use Rattle.layout.specs.Layouts.{rank_limit}
use Rattle.axis_lists.proofs.Filling.{any-has, next-written, written-all}
use Rattle.components.proofs.Padded.{full}
use Rattle.gather_move.proofs.batch_extents.Goals as goal

pub loop-a-preserved : goal.loop-a-preserved
loop-a-preserved c =
    let f : ℕ → ℕ = λ a. cond (has c.args.offset_dims.now a) 1 (get_or c.args.extents a 0) in
    let n = length-tabulate rank_limit f in
    next-written 1 (tabulate rank_limit f) c.loop-a.out c.loop-a.a _ (omega (arith, n, c.loop-a-test.true)) c.loop-a.invariant
    (c.batch_extent.ensures ∙ ap (λ (t : Bool). cond t 1 (get_or c.args.extents c.loop-a.a 0)) (c.contains-shown.ensures.value ∙ any-has c.args.offset_dims.now c.loop-a.a) ∙ sym (get_d_tabulate rank_limit f c.loop-a.a 1 (omega (arith, c.loop-a-test.true))))

pub returns : goal.returns
returns c =
    let f : ℕ → ℕ = λ a. cond (has c.args.offset_dims.now a) 1 (get_or c.args.extents a 0) in
    let n = length-tabulate rank_limit f in
    written-all 1 (tabulate rank_limit f) c.loop-a.out c.loop-a.a (omega (arith, n, c.loop-a-test.false, c.loop-a.auto)) c.loop-a.invariant ∙ full 1 (tabulate rank_limit f) n
