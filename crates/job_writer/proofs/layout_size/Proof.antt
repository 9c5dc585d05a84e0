use mathlib.Core.Bool.{Bool}
use mathlib.Core.List.{List, [], ◌∷◌}
use Prim.Native.Nat.{ℕ, ◌+◌, ◌*◌}
use lib.Dec.{eqb, eqb→eq}
use lib.ListN.{get_or}
use Rattle.job_writer.proofs.Table.{at}
use borrow.Author.Rules.{rules}
use Rattle.job_writer.proofs.layout_size.Statement.{statement}
use Rattle.job_writer.proofs.layout_size.Tie as tie

sizes : List ℕ
sizes = 9 ∷ 25 ∷ 41 ∷ 57 ∷ 73 ∷ 89 ∷ 105 ∷ 121 ∷ 137 ∷ []

-- nine bytes and sixteen more for each axis
right : ℕ → ℕ → Bool
right k x = eqb x (9 + 16 * k)

mul-result : tie.Need-offset_bounds-rank
mul-result c = search rules

array-read-result : tie.Need-bounds-rank
array-read-result c = search rules

returns : tie.Need-returns
unfolding sizes right
returns c = eqb→eq (get_or sizes c.args.rank 0) (9 + 16 * c.args.rank) (at right sizes tt c.args.rank (search rules))

pub layout_size_spec : {M : Type 1} → statement M
layout_size_spec = tie.close (tie.spec mul-result array-read-result returns)
