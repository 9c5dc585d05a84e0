use Rattle.std.proofs.Common.{Bool, ◌&&◌, sym, ap, ◌∙◌}
use Rattle.layout.specs.Answers.{is_done}
use Rattle.gather_plan.specs.declared.CompiledGather.{CompiledGather}
use Rattle.gather_same.specs.Same.{same_plan, is_compiled}
use Rattle.gather_same.proofs.Compare.{plan-eq}
use Rattle.gather_same.proofs.is_compiled.Goals as goal

pub returns-then-is_done : goal.returns-then-is_done
unfolding is_compiled
returns-then-is_done c =
    c.eq.ensures ∙ plan-eq c.args.plan c.compiled_again-again.result.plan
    ∙ ap (λ (t : Bool). t && same_plan c.args.plan c.compiled_again-again.result.plan) (sym c.if-is_done.true ∙ c.is_done.ensures)
    ∙ ap (λ (r : CompiledGather). is_done r.answer && same_plan c.args.plan r.plan) c.compiled_again-again.ensures

pub returns-else-is_done : goal.returns-else-is_done
unfolding is_compiled
returns-else-is_done c =
    c.if-is_done.false
    ∙ ap (λ (t : Bool). t && same_plan c.args.plan c.compiled_again-again.result.plan) (sym c.if-is_done.false ∙ c.is_done.ensures)
    ∙ ap (λ (r : CompiledGather). is_done r.answer && same_plan c.args.plan r.plan) c.compiled_again-again.ensures
