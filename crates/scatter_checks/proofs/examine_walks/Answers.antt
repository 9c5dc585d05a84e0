use Rattle.std.proofs.Common.{rules, refl, sym, SFits}
use Rattle.std.specs.Int.{w64}
use Rattle.integer.specs.Z.{back}
use Rattle.scatter_checks.proofs.Rest.{fits, same-batch, same-window, batch-few, window-few, batch-walk, window-walk, walks-are}
use Rattle.scatter_checks.proofs.examine_walks.Goals as goal

pub walk_along-batches-requires : goal.walk_along-batches-requires
walk_along-batches-requires c = (batch-few _ _ _ _ c.requires.listed, same-batch _ _ _ _ c.requires.listed c.requires.counted, refl)

pub walk_along-cells-requires : goal.walk_along-cells-requires
walk_along-cells-requires c = (window-few _ _ _ _ c.requires.listed c.requires.counted, refl, same-window _ _ _ _ c.requires.listed c.requires.counted)

pub check_walks-answer-requires : goal.check_walks-answer-requires
check_walks-answer-requires c =
    let l = c.requires.listed in
    (sym (same-window _ _ _ _ l c.requires.counted), (fits _ _ _ _ l).dest-few, window-few _ _ _ _ l c.requires.counted, batch-few _ _ _ _ l)

pub returns : goal.returns
returns c =
    let l = c.requires.listed in
    let f : SFits w64 c.stride_at.result = search rules in
    walks-are _ _ _ _ l _ _ _ (rw (sym c.stride_at.ensures, sym (back f)) c.check_walks-answer.ensures) (batch-walk _ _ _ _ l _ c.walk_along-batches.ensures) (window-walk _ _ _ _ l _ c.walk_along-cells.ensures)
