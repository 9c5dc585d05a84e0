use Rattle.std.proofs.Common.{rules, ◌∙◌}
use Rattle.axis_lists.proofs.Filling.{counted}
use Rattle.operand_checks.specs.Refusals.{sizes_refusal}
use Rattle.operand_plan.proofs.sizes_of.Goals as goal

pub returns : goal.returns
returns c =
    let a = c.args in
    let oe = counted c.axis_count-n.result a.operand.rank a.operand.extents c.axis_count-n.ensures (search rules) in
    let os = counted c.axis_count-n.result a.operand.rank a.operand.strides c.axis_count-n.ensures (search rules) in
    let ie = counted c.axis_count-m.result a.index.rank a.index.extents c.axis_count-m.ensures (search rules) in
    let is = counted c.axis_count-m.result a.index.rank a.index.strides c.axis_count-m.ensures (search rules) in
    let ue = counted c.axis_count-k.result a.updates.rank a.updates.extents c.axis_count-k.ensures (search rules) in
    let us = counted c.axis_count-k.result a.updates.rank a.updates.strides c.axis_count-k.ensures (search rules) in
    let de = counted c.axis_count-l.result a.dest.rank a.dest.extents c.axis_count-l.ensures (search rules) in
    let ds = counted c.axis_count-l.result a.dest.rank a.dest.strides c.axis_count-l.ensures (search rules) in
    c.check_sizes.ensures ∙ λ i. sizes_refusal (oe i) (os i) (ie i) (is i) (ue i) (us i) (de i) (ds i)
