use Rattle.std.proofs.Common.{rules, ◌∙◌}
use Rattle.axis_lists.proofs.Filling.{counted}
use Rattle.scatter_checks.specs.Refusals.{scatter_from}
use Rattle.scatter_plan.specs.Plan.{compiled_again}
use Rattle.scatter_same.proofs.compiled_again.Goals as goal

pub returns : goal.returns
returns c =
    let p = c.args.plan in
    let ie = counted c.axis_count-n.result p.index.rank p.index.extents c.axis_count-n.ensures (search rules) in
    let is = counted c.axis_count-n.result p.index.rank p.index.strides c.axis_count-n.ensures (search rules) in
    let ue = counted c.axis_count-m.result p.updates.rank p.updates.extents c.axis_count-m.ensures (search rules) in
    let us = counted c.axis_count-m.result p.updates.rank p.updates.strides c.axis_count-m.ensures (search rules) in
    let de = counted c.axis_count-k.result p.dest.rank p.dest.extents c.axis_count-k.ensures (search rules) in
    let ds = counted c.axis_count-k.result p.dest.rank p.dest.strides c.axis_count-k.ensures (search rules) in
    c.compile_again.ensures
    ∙ λ i. compiled_again (scatter_from (ie i) (is i) (ue i) (us i) (de i) (ds i) (c.as_slice.ensures i) (c.as_slice-2.ensures i) (c.as_slice-3.ensures i) p.index_vector_dim)
