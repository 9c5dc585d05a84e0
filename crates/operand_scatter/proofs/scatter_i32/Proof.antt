use mathlib.Core.Path.{◌≡◌, ap, ◌∙◌}
use mathlib.Core.Bool.{true}
use lib.ListN.{length}
use borrow.Author.Rules.{rules}
use mir.Syntax.{w64}
use mir.Val.{SFits}
use Rattle.integer.specs.Z.{back}
use Rattle.layout.specs.Answers.{is_done}
use Rattle.calls.specs.Calls.{view_of}
use Rattle.calls.proofs.Does.{by_answer}
use Rattle.scatter.specs.Calls.{scatter_of}
use Rattle.operand_calls.specs.Prepared.{copy_of}
use Rattle.operand_calls.proofs.Four.{movable}
use Rattle.operand_scatter.specs.Calls.{call_answer}
use Rattle.operand_scatter.specs.Copies.{copy_by}
use Rattle.operand_scatter.proofs.Planned.{copy_is}
use Rattle.operand_scatter.proofs.scatter_i32.Statement.{statement}
use Rattle.operand_scatter.proofs.scatter_i32.Tie as tie

-- where the operand begins
fits : (s : tie.Start) → SFits w64 s.args.operand.offset
fits s = search rules

-- where the call is not refused, the copy is that of its views
copied : (s : tie.Start) → is_done (call_answer s.args.plan s.args.batch_rows s.args.window_rows (view_of s.args.operand) (scatter_of s.args.plan.scatter s.args.index s.args.updates s.args.dest) (length s.args.from.now) (length s.args.starts.now) (length s.args.source.now) (length s.args.into.now)) ≡ true
    → copy_by s.args.plan s.args.operand.offset ≡ copy_of (view_of s.args.operand) (scatter_of s.args.plan.scatter s.args.index s.args.updates s.args.dest)
copied s = copy_is s.args.plan s.args.batch_rows s.args.window_rows s.args.operand s.args.index s.args.updates s.args.dest _ _ _ _

move-i32-requires : tie.Need-move_i32-requires
move-i32-requires c κs =
    let k = c in
    let p = c in
    let s = c in
    movable p.prepare-p.ensures (λ d. k.copy_by-c.ensures ∙ ap (copy_by s.args.plan) (back (fits search)) ∙ copied (search) d)

same_length : tie.Need-shape_of-into
same_length c = search rules

returns : tie.Need-returns
returns c =
    let m = c in
    let k = c in
    let p = c in
    let s = c in
    by_answer p.prepare-p.ensures.answered (m.move_i32.ensures (movable p.prepare-p.ensures (λ d. k.copy_by-c.ensures ∙ ap (copy_by s.args.plan) (back (fits search)) ∙ copied (search) d)))

pub scatter_i32_spec : {M : Type 1} → statement M
scatter_i32_spec = tie.close (tie.spec (λ c κs. tt) (λ c κs. tt) move-i32-requires same_length returns)
