use mathlib.Core.Path.{sym, ap, ◌∙◌}
use mathlib.Core.Bool.{Bool, cond}
use Rattle.layout.specs.Layouts.{layout_of}
use Rattle.checks.specs.Nothing.{no_layout}
use Rattle.checks.proofs.Made.{made}
use Rattle.operand_plan.proofs.layout_by.Statement.{statement}
use Rattle.operand_plan.proofs.layout_by.Tie as tie

returns : tie.Need-returns-then-is_done
returns c =
    let s = c in
    let d = c in
    let t = c in
    let m = c in
    let e = sym d.is_done.ensures ∙ t.if-is_done.true in
    let q = s.requires e in
    made s.args.extents.now s.args.strides.now _ m.make_layout-made.ensures q.0 q.1
    ∙ sym (ap (λ (b : Bool). cond b (layout_of s.args.extents.now s.args.strides.now) no_layout) e)

returns-2 : tie.Need-returns
returns-2 c =
    let s = c in
    let d = c in
    let t = c in
    sym (ap (λ (b : Bool). cond b (layout_of s.args.extents.now s.args.strides.now) no_layout) (sym d.is_done.ensures ∙ t.if-is_done.false))

pub layout_by_spec : {M : Type 1} → statement M
layout_by_spec = tie.close (tie.spec (λ c κs. tt) (λ c κs. tt) returns returns-2)
