use Rattle.std.proofs.Common.{◌≡◌, ◌&&◌, sym, ap, ◌∙◌}
use Rattle.layout.specs.Answers.{is_done}
use Rattle.equality.proofs.Compare.{first-yes, first-no}
use Rattle.std.proofs.Math.Bool.{and_assoc}
use Rattle.scatter_plan.specs.declared.CompiledScatter.{CompiledScatter}
use Rattle.scatter_same.specs.Same.{same_plan, has_rows, is_compiled}
use Rattle.scatter_same.proofs.Compare.{plan-eq}
use Rattle.scatter_same.proofs.is_compiled.Goals as goal
use Rattle.scatter_same.proofs.is_compiled.Goals.{then-is_done, else-is_done}

pub returns-then-eq : goal.returns-then-eq
unfolding is_compiled
returns-then-eq c =
    let a = c.args in
    let r = c.compiled_again-again.result in
    let d = is_done r.answer in
    let s = same_plan a.plan r.plan in
    let v : c.if-is_done.value ≡ (d && s) =
    elim c.if-is_done.branch [
      | then-is_done w ↦ w.value-is ∙ first-yes d s w.eq.result (sym c.is_done.ensures ∙ w.if-is_done.true) (w.eq.ensures ∙ plan-eq a.plan r.plan)
      | else-is_done w ↦ w.value-is ∙ w.if-is_done.false ∙ first-no d s (sym c.is_done.ensures ∙ w.if-is_done.false)
    ] in
    first-yes (d && s) (has_rows r a.batch_rows a.window_rows) c.has_rows.result (sym v ∙ c.if-eq.true) c.has_rows.ensures
    ∙ and_assoc d s (has_rows r a.batch_rows a.window_rows)
    ∙ ap (λ (x : CompiledScatter). is_done x.answer && (same_plan a.plan x.plan && has_rows x a.batch_rows a.window_rows)) c.compiled_again-again.ensures

pub returns-else-eq : goal.returns-else-eq
unfolding is_compiled
returns-else-eq c =
    let a = c.args in
    let r = c.compiled_again-again.result in
    let d = is_done r.answer in
    let s = same_plan a.plan r.plan in
    let v : c.if-is_done.value ≡ (d && s) =
    elim c.if-is_done.branch [
      | then-is_done w ↦ w.value-is ∙ first-yes d s w.eq.result (sym c.is_done.ensures ∙ w.if-is_done.true) (w.eq.ensures ∙ plan-eq a.plan r.plan)
      | else-is_done w ↦ w.value-is ∙ w.if-is_done.false ∙ first-no d s (sym c.is_done.ensures ∙ w.if-is_done.false)
    ] in
    c.if-eq.false ∙ first-no (d && s) (has_rows r a.batch_rows a.window_rows) (sym v ∙ c.if-eq.false)
    ∙ and_assoc d s (has_rows r a.batch_rows a.window_rows)
    ∙ ap (λ (x : CompiledScatter). is_done x.answer && (same_plan a.plan x.plan && has_rows x a.batch_rows a.window_rows)) c.compiled_again-again.ensures
