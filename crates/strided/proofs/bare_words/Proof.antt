use mathlib.Core.Path.{ap, ◌∙◌}
use Rattle.strided.specs.Words.{words}
use Rattle.strided.proofs.bare_words.Statement.{statement}
use Rattle.strided.proofs.bare_words.Tie as tie

returns : tie.Need-returns
returns c = c.words_of.ensures ∙ ap words c.refused_call-told.ensures

pub bare_words_spec : {M : Type 1} → statement M
bare_words_spec = tie.close (tie.spec (λ c κs. tt) (λ c κs. tt) returns)
