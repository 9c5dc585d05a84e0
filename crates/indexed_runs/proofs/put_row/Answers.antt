use Rattle.std.proofs.Common.{refl, ℕ, ◌+◌, ◌-◌, length, take, drop, pos, nat_abs, to_z, w64, arith}
use Rattle.runs.specs.Runs.{line}
use Rattle.runs.proofs.Place.{read, Index, index}
use Rattle.runs.proofs.Runs.{Part, part_of}
use Rattle.indexed_runs.specs.IndexedRuns.{clamped_at, one_at}
use Rattle.indexed_runs.proofs.Ones.{part-place, place_in, ones-ask, part-put, parts-count}
use Rattle.indexed_runs.proofs.put_row.Goals as goal

pub put_ones-requires : goal.put_ones-requires
put_ones-requires g c =
    let start : Part c.args.t c.args.n (length c.args.starts.now) = part_of _ _ _ c.requires.1.starting c.requires.0 (omega arith) in
    let plain : Part c.args.s c.args.n (length c.args.src.now) = part_of _ _ _ c.requires.1.plain c.requires.0 (omega arith) in
    let first : Index c.args.base (length c.args.dst.now) = index _ _ c.requires.1.first (omega arith) in
    let x : ℕ = nat_abs (read c.args.t) in
    let y : ℕ = nat_abs (read c.args.s) in
    let u : ℕ = nat_abs (read c.args.base) in
    ones-ask c.args.starts.now _ _ _ _ _ _ _ c.requires.1 x (x + c.args.n - x) (omega arith) start.is u (length c.args.dst.now - u) first.is refl c.args.src.now y (y + c.args.n - y) c.args.dst.now (omega arith) start.room plain.room refl

pub returns : goal.returns
returns g c =
    let start : Part c.args.t c.args.n (length c.args.starts.now) = part_of _ _ _ c.requires.1.starting c.requires.0 (omega arith) in
    let plain : Part c.args.s c.args.n (length c.args.src.now) = part_of _ _ _ c.requires.1.plain c.requires.0 (omega arith) in
    let first : Index c.args.base (length c.args.dst.now) = index _ _ c.requires.1.first (omega arith) in
    let x : ℕ = nat_abs (read c.args.t) in
    let y : ℕ = nat_abs (read c.args.s) in
    let u : ℕ = nat_abs (read c.args.base) in (
      part-put g.E.Element.absent (g.R.Combine.combined c.args.rule) c.args.src.now c.args.dst.now _ (one_at (take (x + c.args.n - x) (drop x c.args.starts.now)) (to_z w64 c.args.limit)) (clamped_at c.args.starts.now (line c.args.t (pos 1)) c.args.base (pos 1) c.args.limit) c.args.s y c.args.n (y + c.args.n - y) u (length c.args.dst.now - u) (omega arith) plain.is plain.room (omega (arith, first.below))
          (place_in c.args.starts.now _ _ _ _ _ _ _ c.requires.1 x (x + c.args.n - x) (omega arith) start.is u (length c.args.dst.now - u) first.is refl) (part-place c.args.starts.now _ _ _ _ _ _ _ c.requires.1 x (x + c.args.n - x) (omega arith) start.is u (length c.args.dst.now - u) first.is refl) c.put_ones.ensures.0,
      parts-count c.args.starts.now _ _ _ _ _ _ _ c.requires.1 x (x + c.args.n - x) (omega arith) start.is u (length c.args.dst.now - u) first.is refl c.args.src.now y (y + c.args.n - y) _ (omega arith) plain.room c.put_ones.ensures.1,
    )
