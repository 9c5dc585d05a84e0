use Rattle.std.proofs.Common.{rules, arith, ◌≡◌, ◌∙◌, sym, ap, length, List, ℕ, ℤ, pos}
use lib.ListN.{length-take}
use Rattle.layout.specs.Layouts.{rank_limit, padded}
use Rattle.axis_lists.proofs.Filling.{counted}
use Rattle.operand_plan.proofs.held_again.Goals as goal

pub returns : goal.returns
returns c =
    let l = c.args.l in
    let h : length l.extents ≡ rank_limit = search rules in
    let r : c.axis_count-n.result ≡ _ = c.axis_count-n.ensures ∙ sym (length-take l.rank l.extents ∙ omega (arith, h)) in
    let e = c.padded.ensures ∙ ap (λ (xs : List ℕ). padded rank_limit 1 xs) (counted c.axis_count-n.result l.rank l.extents c.axis_count-n.ensures h) in
    let f = c.padded_strides.ensures ∙ ap (λ (xs : List ℤ). padded rank_limit (pos 0) xs) (counted c.axis_count-n.result l.rank l.strides c.axis_count-n.ensures (search rules)) in
    λ i. record { rank = r i; extents = e i; strides = f i }
