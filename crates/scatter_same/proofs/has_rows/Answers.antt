use Rattle.std.proofs.Common.{sym, ap, ◌∙◌}
use Rattle.equality.proofs.Compare.{first-yes, first-no}
use Rattle.scatter_same.specs.Same.{same_rows, has_rows}
use Rattle.scatter_same.proofs.Compare.{rows-eq}
use Rattle.scatter_same.proofs.has_rows.Goals as goal

pub returns-then-eq : goal.returns-then-eq
unfolding has_rows
returns-then-eq c =
    let a = c.args in
    first-yes _ _ _ (sym (c.eq.ensures ∙ rows-eq a.batch_rows c.rows_of.result ∙ ap (same_rows a.batch_rows) c.rows_of.ensures) ∙ c.if-eq.true)
    (c.eq-then-eq.ensures ∙ rows-eq a.window_rows c.rows_of-then-eq.result ∙ ap (same_rows a.window_rows) c.rows_of-then-eq.ensures)

pub returns-else-eq : goal.returns-else-eq
unfolding has_rows
returns-else-eq c =
    let a = c.args in
    c.if-eq.false ∙ first-no _ _ (sym (c.eq.ensures ∙ rows-eq a.batch_rows c.rows_of.result ∙ ap (same_rows a.batch_rows) c.rows_of.ensures) ∙ c.if-eq.false)
