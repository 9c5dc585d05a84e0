use Rattle.std.proofs.Common.{◌≡◌, length, ap, arith, rules}
use Rattle.std.proofs.lemmas.List.{length-take}
use Rattle.job_bytes.specs.Version.{list_limit}
use Rattle.job.specs.Jobs.{entries_of}
use Rattle.job_writer.proofs.Parts.{length-list}
use Rattle.job_writer.proofs.list_size.Goals as goal

pub returns : goal.returns
returns c =
    let s : length c.args.list.entries ≡ list_limit = search rules in
    let e : length c.counted.result.now ≡ length (entries_of c.args.list) = ap length c.counted.ensures in
    record {
      is = omega (arith, e, length-list c.args.list);
      most = omega (arith, e, length-take c.args.list.count c.args.list.entries);
    }
