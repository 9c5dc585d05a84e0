use borrow.Author.Rules.{rules}
use Rattle.calls.specs.Calls.{as_is}
use Rattle.order.proofs.Operands.{beside-on}
use Rattle.order.proofs.gather_beside_on.Statement.{statement}
use Rattle.order.proofs.gather_beside_on.Tie as tie

same_length : tie.Need-shape_of-grid
same_length c = search rules

same-length-2 : tie.Need-shape_of-one
same-length-2 c = search rules

same-length-3 : tie.Need-shape_of-other
same-length-3 c = search rules

returns : tie.Need-returns
returns c =
    let f = c in
    let a = c in
    let b = c in
    let d = c in
    let s = c in
    beside-on as_is _ _ _ _ _ _ _ s.args.grid.now _ _ s.args.one.now s.args.other.now _ _ _ _ _ _
    f.scatter_on-copied.ensures a.gather_i32-before.ensures b.scatter_by-updated.ensures d.gather_i32-after.ensures

pub gather_beside_on_spec : {M : Type 1} → statement M
gather_beside_on_spec =
    tie.close
    (tie.spec
    (λ c κs. tt)
    (λ c κs. tt)
    (λ c κs. tt)
    (λ c κs. tt)
    same_length
    same-length-2
    same-length-3
    returns)
