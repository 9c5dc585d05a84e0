use borrow.Author.Rules.{rules}
use Rattle.calls.specs.Calls.{as_is}
use Rattle.order.proofs.Laws.{in-either-order}
use Rattle.order.proofs.either_order.Statement.{statement}
use Rattle.order.proofs.either_order.Tie as tie

same_length : tie.Need-shape_of-one
same_length c = search rules

same-length-2 : tie.Need-shape_of-other
same-length-2 c = search rules

returns : tie.Need-returns
returns c =
    let s = c in
    in-either-order as_is _ _ _ _ s.args.one.now s.args.other.now _ _ _ _ _ _ _ _
    c.scatter_by-north_first.ensures c.scatter_by-south_second.ensures c.scatter_by-south_first.ensures c.scatter_by-north_second.ensures

pub either_order_spec : {M : Type 1} → statement M
either_order_spec =
    tie.close
    (tie.spec
    (λ c κs. tt)
    (λ c κs. tt)
    (λ c κs. tt)
    (λ c κs. tt)
    same_length
    same-length-2
    returns)
