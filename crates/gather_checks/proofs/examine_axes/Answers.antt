use Rattle.std.specs.Prelude.{◌≡◌, List, ℤ, pos}
use Rattle.std.proofs.Common.{ℕ, length, ap, ap₂, arith, ◌∙◌}
use Prim.Native.Nat.{min}
use Rattle.indexing.specs.Coordinates.{pick}
use Rattle.indexing.specs.Axes.{length-spread}
use Rattle.layout.specs.Answers.{Answer}
use Rattle.layout.specs.Layouts.{rank_limit, padded}
use Rattle.checks.proofs.FirstOf.{five-in-turn}
use Rattle.checks.proofs.Held.{steps-part}
use Rattle.gather_checks.specs.Refusals.{resets_refusal}
use Rattle.gather_checks.specs.Given.{steps_by, answer_by, examined_by}
use Rattle.gather_checks.proofs.examine_axes.Goals as goal

pub returns : goal.returns
unfolding examined_by
returns c =
    let n = length c.args.de.now in
    let q : min n rank_limit ≡ n = omega (arith, c.requires.few) in
    let windows : List ℤ = steps_by n c.args.offset_dims.now c.args.shown.now c.args.os.now in
    let batches : List ℤ = steps_by n c.args.others.now c.args.starts.now c.args.is.now in
    let w = c.spread_picked-window.ensures ∙ ap (λ (k : ℕ). padded rank_limit (pos 0) (steps_by k c.args.offset_dims.now c.args.shown.now c.args.os.now)) q in
    let v = c.spread_picked-batch.ensures ∙ ap (λ (k : ℕ). padded rank_limit (pos 0) (steps_by k c.args.others.now c.args.starts.now c.args.is.now)) q in
    let x = steps-part n c.spread_picked-window.result windows w (length-spread (pos 0) n c.args.offset_dims.now (pick (pos 0) c.args.shown.now c.args.os.now)) c.requires.few in
    let y = steps-part n c.spread_picked-batch.result batches v (length-spread (pos 0) n c.args.others.now (pick (pos 0) c.args.starts.now c.args.is.now)) c.requires.few in
    let r = c.check_resets-resets.ensures ∙ ap₂ (λ (xs ys : List ℤ). resets_refusal c.args.de.now c.args.ds.now xs ys) x y in
    let a = five-in-turn c.args.four c.check_lists-lists.ensures c.check_counts-counts.ensures c.check_shape-shape.ensures r c.and.ensures c.and-2.ensures c.and-3.ensures c.and-answer.ensures in
    let t : Answer = answer_by c.args.oe.now c.args.os.now c.args.ie.now c.args.is.now c.args.de.now c.args.ds.now c.args.offset_dims.now c.args.collapsed.now c.args.map.now c.args.vector c.args.sizes.now c.args.four c.args.shown.now c.args.starts.now c.args.others.now in
    ap (λ (k : Answer). record { answer = k; window = c.spread_picked-window.result; batch = c.spread_picked-batch.result }) a
    ∙ ap₂ (λ (xs ys : List ℤ). record { answer = t; window = xs; batch = ys }) w v
