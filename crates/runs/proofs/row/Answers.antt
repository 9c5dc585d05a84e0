use Rattle.std.proofs.Common.{length, ℕ, ◌+◌, ◌-◌, arith}
use lib.IntN.{nat_abs}
use borrow.Author.Rules.{rules, scaled_Fits}
use Rattle.runs.proofs.Place.{read}
use Rattle.runs.proofs.Runs.{Part, part_of, part-run}
use Rattle.runs.proofs.row.Goals as goal

pub offset_bounds-dst-b : goal.offset_bounds-dst-b
offset_bounds-dst-b g c =
    let to : Part c.args.d c.args.n (length c.args.dst.now) = part_of _ _ _ c.requires.1.dest c.requires.0 (omega arith) in
    scaled_Fits _ (length c.args.dst.now) _ (omega (arith, to.room, c.requires.0)) (search rules)

pub slice_bounds-apply_each-end-2 : goal.slice_bounds-apply_each-end-2
slice_bounds-apply_each-end-2 g c =
    let to : Part c.args.d c.args.n (length c.args.dst.now) = part_of _ _ _ c.requires.1.dest c.requires.0 (omega arith) in
    search (rules, to.room)

pub returns : goal.returns
returns g c =
    let n = c.args.n in
    let x : ℕ = nat_abs (read c.args.s) in
    let y : ℕ = nat_abs (read c.args.d) in
    let from : Part c.args.s n (length c.args.src.now) = part_of _ _ _ c.requires.1.source c.requires.0 (omega arith) in
    let to : Part c.args.d n (length c.args.dst.now) = part_of _ _ _ c.requires.1.dest c.requires.0 (omega arith) in
    part-run g.E.Element.absent (g.R.Combine.combined c.args.rule) c.args.src.now c.args.dst.now _ c.args.s c.args.d x y n (x + n - x) (y + n - y) (omega arith) (omega arith) from.is to.is to.room c.apply_each.ensures
