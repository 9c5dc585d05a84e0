use mathlib.Core.Path.{ap, ◌∙◌}
use mathlib.Core.List.{[]}
use mir.Syntax.{w64}
use mir.Val.{SFits}
use Rattle.integer.specs.Z.{back}
use Rattle.job.specs.declared.Kind.TheVariants as K
use Rattle.job.specs.declared.Element.{Element}
use Rattle.job.specs.Jobs.{job_from}
use Rattle.strided.specs.Stored.{element_listed}
use Rattle.strided.proofs.Stored.{stored-as}
use borrow.Author.Rules.{rules}
use Rattle.strided.proofs.strided_write_scatter_job.Statement.{statement}
use Rattle.strided.proofs.strided_write_scatter_job.Tie as tie

offsets-fit : (a : tie.Start) → SFits w64 a.args.index_offset × SFits w64 a.args.updates_offset × SFits w64 a.args.dest_offset
offsets-fit a = (search rules, search rules, search rules)

same_length : tie.Need-shape_of-out
same_length c = search rules

returns : tie.Need-returns
returns c =
    let s = c in
    let f = offsets-fit search in
    let made = simp (back f.0, back f.1, back f.2) at c.make_scatter_job-made.ensures in
    stored-as c.listed-job.result _ s.args.out.now _ c.store-r.result c.bare_words.result (c.listed-job.ensures ∙ ap (element_listed s.args.element) (made ∙ ap (λ (e : Element). job_from K.Scatter e s.args.index_extents.now s.args.index_strides.now s.args.index_offset s.args.updates_extents.now s.args.updates_strides.now s.args.updates_offset s.args.dest_extents.now s.args.dest_strides.now s.args.dest_offset s.args.update_window_dims.now s.args.inserted_window_dims.now s.args.scatter_dims_to_operand_dims.now s.args.index_vector_dim []) c.element_of-e.ensures)) c.store-r.ensures c.bare_words.ensures

pub strided_write_scatter_job_spec : {M : Type 1} → statement M
strided_write_scatter_job_spec =
    tie.close
    (tie.spec
    (λ c κs. tt)
    (λ c κs. tt)
    (λ c κs. tt)
    (λ c κs. tt)
    (λ c κs. tt)
    same_length
    returns)
