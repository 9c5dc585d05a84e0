use Rattle.std.proofs.Common.{◌≡◌, ◌∙◌, ap, ℕ, ◌<◌, pos, get_or, rules}
use Rattle.layout.specs.Layouts.{rank_limit}
use Rattle.gather_plan.specs.Plan.{no_axis}
use Rattle.gather.specs.Calls.{move_of, moves_of}
use Rattle.gather.specs.declared.AxisMove.{AxisMove}
use Rattle.gather.proofs.Written.{axes-mapped}
use Rattle.gather.proofs.moves_of.Goals as goal

still : AxisMove
still = record { window = pos 0; batch = pos 0 }

pub returns : goal.returns
unfolding moves_of
returns c =
    let moved : (i : ℕ) → i < rank_limit → get_or c.map-moves.result i still ≡ move_of (get_or c.args.axes i no_axis) = λ i l. let h = (c.map-moves.ensures.items.at i no_axis still l).2 in search (rules, h) in
    let window : (i : ℕ) → i < rank_limit → get_or c.map.result i (pos 0) ≡ (get_or c.map-moves.result i still).window = λ i l. let h = (c.map.ensures.items.at i still (pos 0) l).2 in search (rules, h) in
    let batch : (i : ℕ) → i < rank_limit → get_or c.map-2.result i (pos 0) ≡ (get_or c.map-moves.result i still).batch = λ i l. let h = (c.map-2.ensures.items.at i still (pos 0) l).2 in search (rules, h) in
    let w = axes-mapped c.args.axes (λ a. (move_of a).window) c.map.result c.map.ensures.items.long (λ i l. window i l ∙ ap (λ (m : AxisMove). m.window) (moved i l)) in
    let b = axes-mapped c.args.axes (λ a. (move_of a).batch) c.map-2.result c.map-2.ensures.items.long (λ i l. batch i l ∙ ap (λ (m : AxisMove). m.batch) (moved i l)) in
    λ i. record { window = w i; batch = b i }
