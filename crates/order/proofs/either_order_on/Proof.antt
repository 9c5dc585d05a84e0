use borrow.Author.Rules.{rules}
use Rattle.calls.specs.Calls.{as_is}
use Rattle.order.proofs.Operands.{in-either-order-on}
use Rattle.order.proofs.either_order_on.Statement.{statement}
use Rattle.order.proofs.either_order_on.Tie as tie

same_length : tie.Need-shape_of-one
same_length c = search rules

same-length-2 : tie.Need-shape_of-other
same-length-2 c = search rules

returns : tie.Need-returns
returns c =
    let a = c in
    let b = c in
    let d = c in
    let e = c in
    let s = c in
    in-either-order-on as_is _ _ _ _ _ _ _ s.args.one.now s.args.other.now _ _ _ _ _ _ _ _
    a.scatter_on-north_first.ensures b.updates_by-south_second.ensures d.scatter_on-south_first.ensures e.updates_by-north_second.ensures

pub either_order_on_spec : {M : Type 1} → statement M
either_order_on_spec =
    tie.close
    (tie.spec
    (λ c κs. tt)
    (λ c κs. tt)
    (λ c κs. tt)
    (λ c κs. tt)
    same_length
    same-length-2
    returns)
