use borrow.Author.Rules.{rules}
use Rattle.calls.specs.Calls.{as_is}
use Rattle.order.proofs.Laws.{beside}
use Rattle.order.proofs.gather_beside.Statement.{statement}
use Rattle.order.proofs.gather_beside.Tie as tie

same_length : tie.Need-shape_of-grid
same_length c = search rules

same-length-2 : tie.Need-shape_of-one
same-length-2 c = search rules

same-length-3 : tie.Need-shape_of-other
same-length-3 c = search rules

returns : tie.Need-returns
returns c =
    let s = c in
    beside as_is _ _ _ s.args.grid.now _ s.args.one.now s.args.other.now _ _ _ _ _
    c.gather_i32-before.ensures c.scatter_by-scattered.ensures c.gather_i32-after.ensures

pub gather_beside_spec : {M : Type 1} → statement M
gather_beside_spec =
    tie.close
    (tie.spec
    (λ c κs. tt)
    (λ c κs. tt)
    (λ c κs. tt)
    same_length
    same-length-2
    same-length-3
    returns)
