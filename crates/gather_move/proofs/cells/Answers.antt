use Rattle.std.proofs.Common.{rules, ◌≡◌, refl, sym, subst, length, take, drop, length-drop, ◌+◌, ◌-◌, ◌-ℤ◌, FitsSigned, to_z, w64, arith}
use borrow.Author.Rules.{scaled_Fits}
use Rattle.std.proofs.Math.Seq.{length-take-le}
use Rattle.runs.proofs.Place.{read}
use Rattle.indexed_runs.specs.IndexedRuns.{replaced}
use Rattle.gather_windows.specs.Gathering.{Gathering}
use Rattle.gather_move.proofs.Parts.{high-in, low-high, low_fits, sub-fits, place_is, part-asks, part-leaves, part-batched, part-slid}
use Rattle.gather_move.proofs.cells.Goals as goal

pub overflow_add-end : goal.overflow_add-end
overflow_add-end g c = omega (arith, high-in c.args.p c.args.low c.args.high (length c.args.source.now) c.args.starts.now (length c.args.into.now) c.requires)

pub overflow_cast-from : goal.overflow_cast-from
overflow_cast-from g c = low_fits c.args.p c.args.low c.args.high (length c.args.source.now) c.args.starts.now (length c.args.into.now) c.requires (omega arith)

pub overflow_sub-at : goal.overflow_sub-at
overflow_sub-at g c =
    let dest : FitsSigned w64 c.args.p.dest = search rules in
    sub-fits c.args.p c.args.low c.args.high (length c.args.source.now) c.args.starts.now (length c.args.into.now) c.requires dest (omega arith)

pub offset_bounds-into-low : goal.offset_bounds-into-low
offset_bounds-into-low g c = scaled_Fits _ (length c.args.into.now) _ (omega (arith, low-high c.args.p c.args.low c.args.high (length c.args.source.now) c.args.starts.now (length c.args.into.now) c.requires, high-in c.args.p c.args.low c.args.high (length c.args.source.now) c.args.starts.now (length c.args.into.now) c.requires)) (search rules)

pub slice_bounds-run-count : goal.slice_bounds-run-count
slice_bounds-run-count g c = omega (arith, low-high c.args.p c.args.low c.args.high (length c.args.source.now) c.args.starts.now (length c.args.into.now) c.requires)

pub slice_bounds-run-start : goal.slice_bounds-run-start
slice_bounds-run-start g c = omega (arith, low-high c.args.p c.args.low c.args.high (length c.args.source.now) c.args.starts.now (length c.args.into.now) c.requires)

pub slice_bounds-run-end : goal.slice_bounds-run-end
slice_bounds-run-end g c = omega (arith, high-in c.args.p c.args.low c.args.high (length c.args.source.now) c.args.starts.now (length c.args.into.now) c.requires)

pub run-requires : goal.run-requires
run-requires g c =
    let dest : FitsSigned w64 c.args.p.dest = search rules in
    let part-length : length (take (c.args.high + 1 - c.args.low) (drop c.args.low c.args.into.now)) ≡ c.args.high + 1 - c.args.low = length-take-le (c.args.high + 1 - c.args.low) (drop c.args.low c.args.into.now) (omega (arith, length-drop c.args.low c.args.into.now, high-in c.args.p c.args.low c.args.high (length c.args.source.now) c.args.starts.now (length c.args.into.now) c.requires, low-high c.args.p c.args.low c.args.high (length c.args.source.now) c.args.starts.now (length c.args.into.now) c.requires)) in
    let w = c.args.p.numbers in
    let m = w.components in (
      subst (Gathering c.args.starts.now m.offsets m.strides m.limits m.count c.args.p.operand c.args.p.index (read (read c.args.p.dest -ℤ to_z w64 c.args.low)) w.extents w.window_steps w.batch_steps w.dest_steps w.rank (length c.args.source.now))
          (sym part-length)
          (part-asks c.args.p c.args.low c.args.high (length c.args.source.now) c.args.starts.now (length c.args.into.now) c.requires _ refl _ (place_is c.args.p c.args.low c.args.high (length c.args.source.now) c.args.starts.now (length c.args.into.now) c.requires dest (omega arith)) (omega arith)),
      part-batched c.args.p c.args.low c.args.high (length c.args.source.now) c.args.starts.now (length c.args.into.now) c.requires,
    )

pub returns : goal.returns
returns g c =
    let dest : FitsSigned w64 c.args.p.dest = search rules in
    λ k. (
      part-leaves c.args.p c.args.low c.args.high (length c.args.source.now) c.args.starts.now (length c.args.into.now) k _ refl _ (place_is c.args.p c.args.low c.args.high (length c.args.source.now) c.args.starts.now (length c.args.into.now) k dest (omega arith)) g.E.Element.absent replaced (λ x u. refl) c.args.source.now c.args.into.now refl _ c.run.ensures.0,
      part-slid c.args.p c.args.low c.args.high (length c.args.source.now) c.args.starts.now (length c.args.into.now) k _ c.run.ensures.1,
    )
