use Rattle.std.proofs.Common.{◌≡◌, rules, sym, ap, ap₂, ◌∙◌, ℕ, length, ℤ, pos, ◌+ℤ◌, ◌*ℤ◌, SFits}
use Rattle.std.specs.Int.{w64}
use mathlib.Core.Path.{subst₂}
use mathlib.Core.List.{List}
use mir.Val.{to_z, of_z}
use Rattle.integer.specs.Z.{back}
use Rattle.layout.specs.Layouts.{rank_limit}
use Rattle.walk.specs.Walks.{Walk, state_at, Moves}
use Rattle.walk.proofs.Known.{each_row}
use Rattle.walk.proofs.Decoding.{decoding-none, decoding-next, decoded, here-fits, extent-pos, source-moves, dest-moves}
use Rattle.walk.proofs.decode.Goals as goal

-- two numbers, back from their bits
walk-bits : (sb db : ℤ) (shape : List ℕ) (rows : List (List ℤ)) (rank : ℕ) → SFits w64 sb → SFits w64 db → Walk sb db shape rows rank → Walk (to_z w64 (of_z w64 sb)) (to_z w64 (of_z w64 db)) shape rows rank
walk-bits sb db shape rows rank f g w = subst₂ (λ (x y : ℤ). Walk x y shape rows rank) (sym (back f)) (sym (back g)) w

moves-bits : (base step : ℤ) (c : ℕ) → SFits w64 base → SFits w64 step → Moves base step c → Moves (to_z w64 (of_z w64 base)) (to_z w64 (of_z w64 step)) c
moves-bits base step c fb fs m = subst₂ (λ (x y : ℤ). Moves x y c) (sym (back fb)) (sym (back fs)) m

sum-bits : (base step : ℤ) (c : ℕ) → SFits w64 base → SFits w64 step → to_z w64 (of_z w64 base) +ℤ to_z w64 (of_z w64 step) *ℤ pos c ≡ base +ℤ step *ℤ pos c
sum-bits base step c fb fs = ap₂ (λ (x y : ℤ). x +ℤ y *ℤ pos c) (back fb) (back fs)

pub loop-i-init : goal.loop-i-init
loop-i-init c =
    let ls : length c.args.shape ≡ rank_limit = search rules in
    let lr : length c.args.rows ≡ rank_limit = search rules in
    decoding-none _ _ _ _ _ (walk-bits _ _ _ _ _ c.ranges.source_base c.ranges.dest_base c.requires) ls lr c.args.linear c.start-s.result c.start-s.ensures

pub nonzero_rem-coord : goal.nonzero_rem-coord
nonzero_rem-coord c =
    let ls : length c.args.shape ≡ rank_limit = search rules in
    let lr : length c.args.rows ≡ rank_limit = search rules in
    extent-pos _ _ _ _ _ (walk-bits _ _ _ _ _ c.ranges.source_base c.ranges.dest_base c.requires) ls lr _ _ _ _ c.loop-i.invariant c.loop-i-test.true

pub nonzero_div-left : goal.nonzero_div-left
nonzero_div-left c =
    let ls : length c.args.shape ≡ rank_limit = search rules in
    let lr : length c.args.rows ≡ rank_limit = search rules in
    extent-pos _ _ _ _ _ (walk-bits _ _ _ _ _ c.ranges.source_base c.ranges.dest_base c.requires) ls lr _ _ _ _ c.loop-i.invariant c.loop-i-test.true

pub offset_add-requires : goal.offset_add-requires
offset_add-requires c =
    let ls : length c.args.shape ≡ rank_limit = search rules in
    let lr : length c.args.rows ≡ rank_limit = search rules in
    let w = walk-bits _ _ _ _ _ c.ranges.source_base c.ranges.dest_base c.requires in
    let f = each_row 4 c.args.rows c.well_formed.1.1.1.1.0.0 c.well_formed.1.1.1.1.0.1.1 c.loop-i.i 0 in
    moves-bits _ _ _ (here-fits _ _ _ _ _ w ls lr _ _ _ _ c.loop-i.invariant).0 f (source-moves _ _ _ _ _ w ls lr _ _ _ _ c.loop-i.invariant c.loop-i-test.true)

pub offset_add-requires-in-loop-i : goal.offset_add-requires-in-loop-i
offset_add-requires-in-loop-i c =
    let ls : length c.args.shape ≡ rank_limit = search rules in
    let lr : length c.args.rows ≡ rank_limit = search rules in
    let w = walk-bits _ _ _ _ _ c.ranges.source_base c.ranges.dest_base c.requires in
    let f = each_row 4 c.args.rows c.well_formed.1.1.1.1.0.0 c.well_formed.1.1.1.1.0.1.1 c.loop-i.i 2 in
    moves-bits _ _ _ (here-fits _ _ _ _ _ w ls lr _ _ _ _ c.loop-i.invariant).1 f (dest-moves _ _ _ _ _ w ls lr _ _ _ _ c.loop-i.invariant c.loop-i-test.true)

pub loop-i-preserved : goal.loop-i-preserved
loop-i-preserved c =
    let ls : length c.args.shape ≡ rank_limit = search rules in
    let lr : length c.args.rows ≡ rank_limit = search rules in
    let w = walk-bits _ _ _ _ _ c.ranges.source_base c.ranges.dest_base c.requires in
    let i = c.loop-i.invariant in
    let h = c.loop-i-test.true in
    let fits = here-fits _ _ _ _ _ w ls lr _ _ _ _ i in
    let f = each_row 4 c.args.rows c.well_formed.1.1.1.1.0.0 c.well_formed.1.1.1.1.0.1.1 c.loop-i.i 0 in
    let g = each_row 4 c.args.rows c.well_formed.1.1.1.1.0.0 c.well_formed.1.1.1.1.0.1.1 c.loop-i.i 2 in
    let n = decoding-next _ _ _ _ _ w ls lr _ _ _ _ i h in
    record {
      at = n.at;
      full = n.full;
      rest = n.rest;
      digits = n.digits;
      source_is = ap (λ (z : ℤ). to_z w64 (of_z w64 z)) (c.offset_add.ensures ∙ sum-bits _ _ _ fits.0 f) ∙ back (source-moves _ _ _ _ _ w ls lr _ _ _ _ i h).sum ∙ n.source_is;
      dest-is = ap (λ (z : ℤ). to_z w64 (of_z w64 z)) (c.offset_add-in-loop-i.ensures ∙ sum-bits _ _ _ fits.1 g) ∙ back (dest-moves _ _ _ _ _ w ls lr _ _ _ _ i h).sum ∙ n.dest-is;
      within = n.within;
    }

pub returns : goal.returns
returns c =
    let ls : length c.args.shape ≡ rank_limit = search rules in
    let lr : length c.args.rows ≡ rank_limit = search rules in
    decoded _ _ _ _ _ (walk-bits _ _ _ _ _ c.ranges.source_base c.ranges.dest_base c.requires) ls lr _ _ _ _ c.loop-i.invariant c.loop-i-test.false
    ∙ ap₂ (λ (x y : ℤ). state_at x y c.args.shape c.args.rows c.args.rank c.args.linear) (back c.ranges.source_base) (back c.ranges.dest_base)
