use Rattle.std.proofs.Common.{◌≡◌, ◌&&◌, sym, ap, ◌∙◌}
use Rattle.std.proofs.Math.Bool.{and_assoc}
use Rattle.layout.specs.declared.Layout.{Layout}
use Rattle.layout.specs.Answers.{is_done, Answer}
use Rattle.layout.specs.Layouts.{layout_of, extents_of, strides_of}
use Rattle.scatter_same.specs.Same as scatter-same
use Rattle.equality.specs.Same.{same_layout}
use Rattle.equality.proofs.Compare.{layout-eq, first-yes, first-no}
use Rattle.operand_plan.proofs.Compiled.{tests-are}
use Rattle.operand_plan.proofs.is_compiled.Goals as goal
use Rattle.operand_plan.proofs.is_compiled.Goals.{then-is_done, else-is_done}

pub returns-then-eq : goal.returns-then-eq
returns-then-eq c =
    let a = c.args in
    let l : Layout = layout_of (extents_of a.plan.operand) (strides_of a.plan.operand) in
    let d = is_done c.sizes_of-sizes.result in
    let s = same_layout a.plan.operand l in
    let r = scatter-same.is_compiled a.plan.scatter a.batch_rows a.window_rows in
    let v : c.if-is_done.value ≡ (d && s) =
    elim c.if-is_done.branch [
      | then-is_done w ↦ w.value-is ∙ first-yes d s w.eq.result (sym c.is_done.ensures ∙ w.if-is_done.true) (w.eq.ensures ∙ layout-eq a.plan.operand w.held_again.result ∙ ap (same_layout a.plan.operand) w.held_again.ensures)
      | else-is_done w ↦ w.value-is ∙ w.if-is_done.false ∙ first-no d s (sym c.is_done.ensures ∙ w.if-is_done.false)
    ] in
    first-yes (d && s) r c.is_compiled.result (sym v ∙ c.if-eq.true) c.is_compiled.ensures
    ∙ and_assoc d s r
    ∙ ap (λ (x : Answer). is_done x && (s && r)) c.sizes_of-sizes.ensures
    ∙ tests-are a.plan a.batch_rows a.window_rows

pub returns-else-eq : goal.returns-else-eq
returns-else-eq c =
    let a = c.args in
    let l : Layout = layout_of (extents_of a.plan.operand) (strides_of a.plan.operand) in
    let d = is_done c.sizes_of-sizes.result in
    let s = same_layout a.plan.operand l in
    let r = scatter-same.is_compiled a.plan.scatter a.batch_rows a.window_rows in
    let v : c.if-is_done.value ≡ (d && s) =
    elim c.if-is_done.branch [
      | then-is_done w ↦ w.value-is ∙ first-yes d s w.eq.result (sym c.is_done.ensures ∙ w.if-is_done.true) (w.eq.ensures ∙ layout-eq a.plan.operand w.held_again.result ∙ ap (same_layout a.plan.operand) w.held_again.ensures)
      | else-is_done w ↦ w.value-is ∙ w.if-is_done.false ∙ first-no d s (sym c.is_done.ensures ∙ w.if-is_done.false)
    ] in
    c.if-eq.false ∙ first-no (d && s) r (sym v ∙ c.if-eq.false)
    ∙ and_assoc d s r
    ∙ ap (λ (x : Answer). is_done x && (s && r)) c.sizes_of-sizes.ensures
    ∙ tests-are a.plan a.batch_rows a.window_rows
