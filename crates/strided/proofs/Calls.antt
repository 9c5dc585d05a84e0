-- An exported call, by what prepare gives and the move does. Assumes nothing.
use mathlib.Core.Path.{◌≡◌, sym, ap, ◌∙◌}
use mathlib.Core.Bool.{Bool, true, false, cond}
use mathlib.Core.List.{List}
use Prim.Native.Nat.{ℕ}
use lib.ListN.{length}
use Rattle.indexing.specs.Gather.{gathered}
use Rattle.indexing.specs.Scatter.{scattered}
use Rattle.indexing.specs.Operand.{operand_copied}
use Rattle.indexing.specs.Slid.{slid_gather, slid_scatter}
use Rattle.layout.specs.declared.CallAnswer.{CallAnswer}
use Rattle.layout.specs.Answers.{is_done, or_else, Answer}
use Rattle.calls.specs.Calls.{GatherCall, ScatterCall, answer_with, Does, Gathers, Scatters, as_is}
use Rattle.calls.proofs.Does.{by_answer, said}
use Rattle.gather_move.specs.Prepared as gathers
use Rattle.gather_move.specs.declared.PreparedGather.{PreparedGather}
use Rattle.gather_move.proofs.Parts as gather-parts
use Rattle.scatter_move.specs.Prepared as scatters
use Rattle.scatter_move.specs.declared.PreparedScatter.{PreparedScatter}
use Rattle.scatter_move.proofs.Parts as scatter-parts
use Rattle.operand_calls.specs.Calls.{Operand, ScattersOn}
use Rattle.operand_calls.specs.Prepared as operands
use Rattle.operand_calls.specs.declared.PreparedCopy.{PreparedCopy}
use Rattle.operand_calls.proofs.Four as operand-parts
use Rattle.strided.specs.Words.{words, bare}
use Rattle.strided.specs.Named.{rule_refusal}

pub gather-handed : {A : Type 0} (z : A) (call : GatherCall) (p : PreparedGather) (operand before after : List A) (r : CallAnswer) (handed : List ℕ)
    → gathers.Prepares p (call.answer (length operand) (length before)) call.gather (length operand) (length call.starts) (length before)
    → ((k : gathers.Movable p (length operand) (length call.starts) (length before)) → Does as_is p.answer (slid_gather k.gather call.starts) (gathered z k.gather call.starts operand before) before after r)
    → handed ≡ words r → Gathers z words call operand before after handed
gather-handed z call p operand before after r handed q m w = said words w (by_answer q.answered (m (gather-parts.movable q)))

pub scatter-handed : {A : Type 0} (z : A) (rule : A → A → A) (call : ScatterCall A) (p : PreparedScatter) (before after : List A) (r : CallAnswer) (handed : List ℕ)
    → scatters.Prepares p (call.answer (length before)) call.scatter (length call.starts) (length call.updates) (length before)
    → ((k : scatters.Movable p (length call.starts) (length call.updates) (length before)) → Does as_is p.answer (slid_scatter k.scatter call.starts) (scattered rule z k.scatter call.starts call.updates before) before after r)
    → handed ≡ words r → Scatters z rule words call before after handed
scatter-handed z rule call p before after r handed q m w = said words w (by_answer q.answered (m (scatter-parts.movable q)))

pub operand-handed : {A : Type 0} (z : A) (rule : A → A → A) (o : Operand A) (call : ScatterCall A) (p : PreparedScatter) (c : PreparedCopy) (before after : List A) (r : CallAnswer) (handed : List ℕ)
    → operands.Prepares p (call.answer (length before)) o.view call.scatter (length o.elements) (length call.starts) (length call.updates) (length before)
    → c ≡ operands.copy_of o.view call.scatter
    → ((k : operands.Movable p c (length o.elements) (length call.starts) (length call.updates) (length before))
    → Does as_is p.answer (slid_scatter k.scatter call.starts) (scattered rule z k.scatter call.starts call.updates (operand_copied z k.operand k.scatter.result o.elements before)) before after r)
    → handed ≡ words r → ScattersOn z rule words o call before after handed
operand-handed z rule o call p c before after r handed q e m w = said words w (by_answer q.answered (m (operand-parts.movable q (λ d. e))))

-- ---- a call that names its rule by a number
module _ {A : Type 0} (most n : ℕ) (answer : Answer) (number : ℕ) (leaves before after : List A) (handed : List ℕ) where
  -- one that is not listed
  pub named-refused : is_done (rule_refusal most n) ≡ false → after ≡ before → handed ≡ words (bare (rule_refusal most n)) → Does words (or_else (rule_refusal most n) answer) number leaves before after handed
  named-refused d b w =
      let e : rule_refusal most n ≡ or_else (rule_refusal most n) answer = ap (λ (t : Bool). cond t answer (rule_refusal most n)) (sym d) in
      record {
        answered = w ∙ ap (λ (t : Bool). words (record { answer = rule_refusal most n; reported = cond t number 0 })) (sym d) ∙ ap (λ (x : Answer). words (answer_with x number)) e;
        left = b ∙ ap (λ (t : Bool). cond t leaves before) (sym d) ∙ ap (λ (x : Answer). cond (is_done x) leaves before) e;
      }

  -- one that is
  pub named-listed : is_done (rule_refusal most n) ≡ true → Does words answer number leaves before after handed → Does words (or_else (rule_refusal most n) answer) number leaves before after handed
  named-listed d k = by_answer (ap (λ (t : Bool). cond t answer (rule_refusal most n)) (sym d)) k
