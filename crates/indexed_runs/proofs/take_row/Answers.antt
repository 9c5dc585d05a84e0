use Rattle.std.proofs.Common.{rules, refl, ℕ, ◌+◌, ◌-◌, length, take, drop, pos, nat_abs, to_z, w64, not, nat_eq, Bool, arith}
use borrow.Author.Rules.{scaled_Fits}
use Rattle.runs.specs.Runs.{line}
use Rattle.runs.proofs.Place.{read, Index, index}
use Rattle.runs.proofs.Runs.{Part, part_of}
use Rattle.indexed_runs.specs.IndexedRuns.{replaced, clamped_at, one_at}
use Rattle.indexed_runs.proofs.Ones.{part-read, ones-ask, part-take, parts-count}
use Rattle.indexed_runs.proofs.Counts.{so-counted}
use Rattle.indexed_runs.proofs.take_row.Goals as goal

pub offset_bounds-dst-b : goal.offset_bounds-dst-b
offset_bounds-dst-b g c =
    let plain : Part c.args.d c.args.n (length c.args.dst.now) = part_of _ _ _ c.requires.1.plain c.requires.0 (omega arith) in
    scaled_Fits _ (length c.args.dst.now) _ (omega (arith, plain.room, c.requires.0)) (search rules)

pub slice_bounds-take_ones-end-3 : goal.slice_bounds-take_ones-end-3
slice_bounds-take_ones-end-3 g c =
    let plain : Part c.args.d c.args.n (length c.args.dst.now) = part_of _ _ _ c.requires.1.plain c.requires.0 (omega arith) in
    plain.room

pub take_ones-requires : goal.take_ones-requires
take_ones-requires g c =
    let start : Part c.args.t c.args.n (length c.args.starts.now) = part_of _ _ _ c.requires.1.starting c.requires.0 (omega arith) in
    let plain : Part c.args.d c.args.n (length c.args.dst.now) = part_of _ _ _ c.requires.1.plain c.requires.0 (omega arith) in
    let first : Index c.args.base (length c.args.src.now) = index _ _ c.requires.1.first (omega arith) in
    let x : ℕ = nat_abs (read c.args.t) in
    let y : ℕ = nat_abs (read c.args.d) in
    let u : ℕ = nat_abs (read c.args.base) in
    ones-ask c.args.starts.now _ _ _ _ _ _ _ c.requires.1 x (x + c.args.n - x) (omega arith) start.is u (length c.args.src.now - u) first.is refl c.args.dst.now y (y + c.args.n - y) c.args.src.now (omega arith) start.room plain.room refl

pub returns : goal.returns
returns g c =
    let counts : Bool = not (nat_eq g.row.COUNTS 0) in
    let start : Part c.args.t c.args.n (length c.args.starts.now) = part_of _ _ _ c.requires.1.starting c.requires.0 (omega arith) in
    let plain : Part c.args.d c.args.n (length c.args.dst.now) = part_of _ _ _ c.requires.1.plain c.requires.0 (omega arith) in
    let first : Index c.args.base (length c.args.src.now) = index _ _ c.requires.1.first (omega arith) in
    let x : ℕ = nat_abs (read c.args.t) in
    let y : ℕ = nat_abs (read c.args.d) in
    let u : ℕ = nat_abs (read c.args.base) in (
      part-take g.E.Element.absent replaced (take (length c.args.src.now - u) (drop u c.args.src.now)) c.args.src.now c.args.dst.now _ (one_at (take (x + c.args.n - x) (drop x c.args.starts.now)) (to_z w64 c.args.limit)) (clamped_at c.args.starts.now (line c.args.t (pos 1)) c.args.base (pos 1) c.args.limit) c.args.d y c.args.n (y + c.args.n - y) (omega arith) plain.is plain.room
          (part-read c.args.starts.now _ _ _ _ _ _ _ c.requires.1 x (x + c.args.n - x) (omega arith) start.is u (length c.args.src.now - u) first.is refl g.E.Element.absent c.args.src.now) c.take_ones.ensures.0,
      so-counted counts counts _ _ _ refl (parts-count c.args.starts.now _ _ _ _ _ _ _ c.requires.1 x (x + c.args.n - x) (omega arith) start.is u (length c.args.src.now - u) first.is refl c.args.dst.now y (y + c.args.n - y) _ (omega arith) plain.room refl) c.take_ones.ensures.1,
    )
