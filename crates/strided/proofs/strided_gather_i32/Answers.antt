use Rattle.std.proofs.Common.{pos}
use Rattle.job.specs.declared.Element.TheVariants as E
use Rattle.job_calls.specs.Jobs.{gather_by_job}
use Rattle.gather_move.proofs.Parts.{movable}
use Rattle.strided.proofs.Calls.{gather-handed}
use Rattle.strided.proofs.strided_gather_i32.Goals as goal

pub move_elements-r-requires : goal.move_elements-r-requires
move_elements-r-requires c = movable c.prepare_gather-p.ensures

pub returns : goal.returns
returns c = gather-handed (pos 0) (gather_by_job E.I32 c.args.job.now c.args.starts.now) _ c.args.operand.now c.args.dest.now _ _ _ c.prepare_gather-p.ensures c.move_elements-r.ensures c.words_of.ensures
