use Rattle.std.proofs.Common.{◌≡◌, length, ap, ◌∙◌, arith, rules}
use Rattle.std.proofs.lemmas.List.{length-take}
use mir.Syntax.{w64}
use mir.Val.{SFits, of_z}
use mir.Facts.{to_z-of_z}
use Rattle.layout.specs.Layouts.{rank_limit}
use Rattle.job_writer.proofs.Parts.{length-view, put-view-is}
use Rattle.job_writer.proofs.put_view.Goals as goal

pub put_number-requires : goal.put_number-requires
put_number-requires c =
    let es : length c.args.view.layout.extents ≡ rank_limit = search rules in
    let ss : length c.args.view.layout.strides ≡ rank_limit = search rules in
    let l = length-view c.args.view es ss in
    (omega arith, omega arith)

pub put_words-requires : goal.put_words-requires
put_words-requires c =
    let es : length c.args.view.layout.extents ≡ rank_limit = search rules in
    let ss : length c.args.view.layout.strides ≡ rank_limit = search rules in
    let l = length-view c.args.view es ss in
    let te = length-take c.min-n.result c.args.view.layout.extents in
    omega arith

pub put_words-requires-2 : goal.put_words-requires-2
put_words-requires-2 c =
    let es : length c.args.view.layout.extents ≡ rank_limit = search rules in
    let ss : length c.args.view.layout.strides ≡ rank_limit = search rules in
    let l = length-view c.args.view es ss in
    let tw = length-take c.min-n.result c.stride_words-words.result in
    omega arith

pub put_number-requires-2 : goal.put_number-requires-2
put_number-requires-2 c =
    let es : length c.args.view.layout.extents ≡ rank_limit = search rules in
    let ss : length c.args.view.layout.strides ≡ rank_limit = search rules in
    let l = length-view c.args.view es ss in
    (omega arith, omega arith)

pub returns : goal.returns
returns c =
    let es : length c.args.view.layout.extents ≡ rank_limit = search rules in
    let ss : length c.args.view.layout.strides ≡ rank_limit = search rules in
    let fits : SFits w64 c.args.view.offset = search rules in
    put-view-is _ _ _ _ _ _ _ _ _ _ _ es ss c.min-n.ensures c.stride_words-words.ensures (c.cast_unsigned.ensures ∙ ap (of_z w64) (to_z-of_z fits)) c.layout_size.ensures c.put_number.ensures c.put_words.ensures c.put_words-2.ensures c.put_number-2.ensures
