use Rattle.std.proofs.Common.{rules, ◌∙◌}
use Rattle.axis_lists.proofs.Filling.{counted}
use Rattle.gather_checks.specs.Refusals.{gather_from}
use Rattle.gather_plan.specs.Plan.{compiled_again}
use Rattle.gather_same.proofs.compiled_again.Goals as goal

pub returns : goal.returns
returns c =
    let p = c.args.plan in
    let oe = counted c.axis_count-n.result p.operand.rank p.operand.extents c.axis_count-n.ensures (search rules) in
    let os = counted c.axis_count-n.result p.operand.rank p.operand.strides c.axis_count-n.ensures (search rules) in
    let ie = counted c.axis_count-m.result p.index.rank p.index.extents c.axis_count-m.ensures (search rules) in
    let is = counted c.axis_count-m.result p.index.rank p.index.strides c.axis_count-m.ensures (search rules) in
    let de = counted c.axis_count-k.result p.dest.rank p.dest.extents c.axis_count-k.ensures (search rules) in
    let ds = counted c.axis_count-k.result p.dest.rank p.dest.strides c.axis_count-k.ensures (search rules) in
    c.compile_again.ensures
    ∙ λ i. compiled_again (gather_from (oe i) (os i) (ie i) (is i) (de i) (ds i) (c.as_slice.ensures i) (c.as_slice-2.ensures i) (c.as_slice-3.ensures i) p.index_vector_dim (c.as_slice-4.ensures i))
