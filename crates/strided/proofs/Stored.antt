-- A job made and written: the laws that gathers and scatters share. Assumes nothing.
use mathlib.Core.Path.{◌≡◌, sym, ap, subst, ◌∙◌}
use mathlib.Core.Bool.{Bool, true, false, cond}
use mathlib.Core.List.{List, ◌++◌}
use Prim.Native.Nat.{ℕ}
use lib.ListN.{length, drop}
use Rattle.layout.specs.Answers.{is_done, Answer}
use Rattle.job.specs.declared.MadeJob.{MadeJob}
use Rattle.job.specs.Format.{encoded}
use Rattle.job_writer.specs.Written.{written_answer, written_left, Written}
use Rattle.strided.specs.Words.{words, bare}
use Rattle.strided.specs.Stored.{stored_answer, Stored, StoredAs}

module _ (m : MadeJob) (before : List ℕ) where
  pub not_made : is_done m.answer ≡ false → Stored m before before m.answer
  not_made e =
      let r : stored_answer m (length before) ≡ m.answer = ap (λ (t : Bool). cond t (written_answer m.job (length before)) m.answer) e in
      record { answered = sym r; left = sym (ap (λ (x : Answer). written_left x m.job before) r ∙ ap (λ (t : Bool). cond t (encoded m.job ++ drop (length (encoded m.job)) before) before) e) }

  pub was-made : (after : List ℕ) (answer : Answer) → is_done m.answer ≡ true → Written m.job before answer after → Stored m before after answer
  was-made after answer e w =
      let r : answer ≡ stored_answer m (length before) = w.answers ∙ sym (ap (λ (t : Bool). cond t (written_answer m.job (length before)) m.answer) e) in
      record { answered = r; left = w.leaves ∙ ap (λ (x : Answer). written_left x m.job before) r }

pub stored-as : (m k : MadeJob) (before after : List ℕ) (answer : Answer) (w : List ℕ) → m ≡ k → Stored m before after answer → w ≡ words (bare answer) → StoredAs k before after w
stored-as m k before after answer w e s f = subst (λ (x : MadeJob). StoredAs x before after w) e (record { answered = f ∙ ap (λ (x : Answer). words (bare x)) s.answered; left = s.left })
