use Rattle.std.proofs.Common.{rules, ◌∙◌, sym, get_or, pos, [], w64, FitsSigned, arith}
use Rattle.integer.specs.Z.{back}
use Rattle.indexing.proofs.Updates.{length-tabulate, get_d_tabulate}
use Rattle.layout.specs.Layouts.{rank_limit}
use Rattle.axis_lists.proofs.Filling.{one_written, all-written}
use Rattle.components.proofs.Padded.{full}
use Rattle.scatter_move.specs.Prepared.{steps_at}
use Rattle.scatter_move.proofs.steps_at.Goals as goal

pub loop-i-preserved : goal.loop-i-preserved
loop-i-preserved c =
    let a = c.args.rows in
    let j = c.args.side in
    let h = c.loop-i-test.true in
    let k = length-tabulate rank_limit (λ k. get_or (get_or a k []) j (pos 0)) in
    let f : FitsSigned w64 (get_or (get_or a c.loop-i.i []) j (pos 0)) = search rules in
    one_written (pos 0) (steps_at j a) c.loop-i.out c.loop-i.i _ (omega (arith, k, h)) (omega (arith, k)) c.loop-i.invariant (back f ∙ sym (get_d_tabulate rank_limit (λ k. get_or (get_or a k []) j (pos 0)) c.loop-i.i (pos 0) (omega (arith, h))))

pub returns : goal.returns
returns c =
    let a = c.args.rows in
    let j = c.args.side in
    let k = length-tabulate rank_limit (λ k. get_or (get_or a k []) j (pos 0)) in
    c.loop-i.invariant ∙ all-written (pos 0) (steps_at j a) c.loop-i.i (omega (arith, k, c.loop-i-test.false)) (omega (arith, k)) ∙ full (pos 0) (steps_at j a) k
