use Rattle.std.proofs.Common.{ap, ap₂, ◌∙◌, take}
use Rattle.std.proofs.lemmas.Result.{err_from_is_err_and}
use Rattle.std.proofs.lemmas.List.{take-map}
use mir.Syntax.{w64}
use mir.Val.{SFits}
use mir.Facts.{to_z-of_z}
use borrow.Author.Rules.{rules}
use Rattle.job.specs.Jobs.{view_of}
use Rattle.job_bytes.specs.Fields.{signed_of}
use Rattle.job_bytes.proofs.Reading.{gives, passed_on, stopped, was_read, words-read}
use Rattle.job_lists.proofs.Chains.{view-1, view-2, view-3, view-4, view-5, rank-words}
use Rattle.job_lists.proofs.read_view.Goals as goal

pub returns-in_err-rank : goal.returns-in_err-rank
returns-in_err-rank c =
    let p = err_from_is_err_and c.from_residual.result c.from_residual.ensures.1 in
    passed_on _ _ _ _ _ p.1 p.2 (view-1 _ _ _ (stopped _ _ _ c.in_err-rank.ensures))

pub read_words-requires : goal.read_words-requires
read_words-requires c = rank-words _ _ _ _ (was_read _ _ c.in_ok-rank.ensures)

pub returns-in_err-extents : goal.returns-in_err-extents
returns-in_err-extents c =
    let p = err_from_is_err_and c.from_residual-in_err-extents.result c.from_residual-in_err-extents.ensures.1 in
    let n = was_read _ _ c.in_ok-rank.ensures in
    passed_on _ _ _ _ _ p.1 p.2 (view-2 _ _ _ _ _ n (stopped _ _ _ c.in_err-extents.ensures))

pub read_words-requires-2 : goal.read_words-requires-2
read_words-requires-2 c = rank-words _ _ _ _ (was_read _ _ c.in_ok-rank.ensures)

pub returns-in_err-words : goal.returns-in_err-words
returns-in_err-words c =
    let p = err_from_is_err_and c.from_residual-in_err-words.result c.from_residual-in_err-words.ensures.1 in
    let n = was_read _ _ c.in_ok-rank.ensures in
    let es = words-read _ _ _ _ (rank-words _ _ _ _ n) c.in_ok-extents.ensures in
    passed_on _ _ _ _ _ p.1 p.2 (view-3 _ _ _ _ _ _ _ n es (stopped _ _ _ c.in_err-words.ensures))

pub returns-in_err-offset : goal.returns-in_err-offset
returns-in_err-offset c =
    let p = err_from_is_err_and c.from_residual-in_err-offset.result c.from_residual-in_err-offset.ensures.1 in
    let n = was_read _ _ c.in_ok-rank.ensures in
    let es = words-read _ _ _ _ (rank-words _ _ _ _ n) c.in_ok-extents.ensures in
    let ss = words-read _ _ _ _ (rank-words _ _ _ _ n) c.in_ok-words.ensures in
    passed_on _ _ _ _ _ p.1 p.2 (view-4 _ _ _ _ _ _ _ _ _ n es ss (stopped _ _ _ c.in_err-offset.ensures))

pub shared_ref_as_front-view_from : goal.shared_ref_as_front-view_from
shared_ref_as_front-view_from c = rank-words _ _ _ _ (was_read _ _ c.in_ok-rank.ensures)

pub returns : goal.returns
returns c =
    let fits : SFits w64 c.cast_signed.result = search rules in
    let n = was_read _ _ c.in_ok-rank.ensures in
    let es = words-read _ _ _ _ (rank-words _ _ _ _ n) c.in_ok-extents.ensures in
    let ss = words-read _ _ _ _ (rank-words _ _ _ _ n) c.in_ok-words.ensures in
    let o = was_read _ _ c.in_ok-offset.ensures in
    let strides = ap (take c.in_ok-rank.rank.value) c.signed_words-strides.ensures ∙ take-map signed_of c.in_ok-rank.rank.value c.in_ok-words.words.value in
    let offset = to_z-of_z fits ∙ c.cast_signed.ensures in
    gives _ _ _ _ _ (view-5 _ _ _ _ _ _ _ _ _ _ n es ss o) (c.view_from-view.ensures ∙ ap₂ (view_of _) strides offset)
