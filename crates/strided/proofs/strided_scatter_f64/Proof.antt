use lib.Ieee.{nan}
use Rattle.indexing.specs.Scatter.{add_f64}
use Rattle.job.specs.declared.Element.TheVariants as E
use Rattle.job_calls.specs.Jobs.{scatter_by_job}
use borrow.Author.Rules.{rules}
use Rattle.scatter_move.proofs.Parts.{movable}
use Rattle.strided.proofs.Calls.{scatter-handed}
use Rattle.strided.proofs.strided_scatter_f64.Statement.{statement}
use Rattle.strided.proofs.strided_scatter_f64.Tie as tie

move-f64-requires : tie.Need-move_f64-r-requires
move-f64-requires c κs = movable c.prepare_scatter-p.ensures

same_length : tie.Need-shape_of-dest
same_length c = search rules

returns : tie.Need-returns
returns c =
    let s = c in
    scatter-handed nan add_f64 (scatter_by_job E.F64 s.args.job.now s.args.starts.now s.args.updates.now) _ s.args.dest.now _ _ _ c.prepare_scatter-p.ensures c.move_f64-r.ensures c.words_of.ensures

pub strided_scatter_f64_spec : {M : Type 1} → statement M
strided_scatter_f64_spec =
    tie.close
    (tie.spec (λ c κs. tt) move-f64-requires (λ c κs. tt) same_length returns)
