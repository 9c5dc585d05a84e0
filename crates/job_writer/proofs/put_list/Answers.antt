use Rattle.std.proofs.Common.{◌≡◌, length, ap, arith}
use Rattle.job.specs.Jobs.{entries_of}
use Rattle.job_writer.proofs.Parts.{put-list-is, length-list}
use Rattle.job_writer.proofs.put_list.Goals as goal

pub put_number-requires : goal.put_number-requires
put_number-requires c =
    let l = length-list c.args.list in (omega arith, omega arith)

pub put_words-requires : goal.put_words-requires
put_words-requires c =
    let l = length-list c.args.list in
    let e : length c.counted-entries.result.now ≡ length (entries_of c.args.list) = ap length c.counted-entries.ensures in
    omega arith

pub returns : goal.returns
returns c =
    put-list-is _ _ _ _ _ _ c.counted-entries.ensures c.put_number.ensures c.put_words.ensures
