use Rattle.std.proofs.Common.{rules, ◌≡◌, ◌∙◌, refl, sym, subst, ◌+◌, ◌-◌, length, take, drop, w64, to_z, FitsSigned, arith}
use borrow.Author.Rules.{scaled_Fits}
use lib.IntN.{◌-ℤ◌}
use lib.ListN.{length-drop}
use lib.Seq.{length-take-le}
use Rattle.runs.proofs.Place.{read}
use Rattle.scatter_windows.specs.Scattering.{Scattering}
use Rattle.scatter_move.proofs.Parts.{high-in, low-high, low_fits, sub-fits, place_is, part-asks, part-rowed, part-leaves}
use Rattle.scatter_move.proofs.Slid.{number_is}
use Rattle.scatter_move.proofs.cells.Goals as goal

pub overflow_add-end : goal.overflow_add-end
overflow_add-end g c = omega (arith, high-in c.args.p c.args.low c.args.high c.args.starts.now (length c.args.source.now) (length c.args.into.now) c.requires)

pub overflow_cast-from : goal.overflow_cast-from
overflow_cast-from g c = low_fits c.args.p c.args.low c.args.high c.args.starts.now (length c.args.source.now) (length c.args.into.now) c.requires (omega arith)

pub overflow_sub-at : goal.overflow_sub-at
overflow_sub-at g c =
    let dest-fits : FitsSigned w64 c.args.p.dest = search rules in
    sub-fits c.args.p c.args.low c.args.high c.args.starts.now (length c.args.source.now) (length c.args.into.now) c.requires dest-fits (omega arith)

pub offset_bounds-into-low : goal.offset_bounds-into-low
offset_bounds-into-low g c = scaled_Fits c.args.low (length c.args.into.now) _ (omega (arith, low-high c.args.p c.args.low c.args.high c.args.starts.now (length c.args.source.now) (length c.args.into.now) c.requires, high-in c.args.p c.args.low c.args.high c.args.starts.now (length c.args.source.now) (length c.args.into.now) c.requires)) (search rules)

pub slice_bounds-run-count : goal.slice_bounds-run-count
slice_bounds-run-count g c = omega (arith, low-high c.args.p c.args.low c.args.high c.args.starts.now (length c.args.source.now) (length c.args.into.now) c.requires)

pub slice_bounds-run-start : goal.slice_bounds-run-start
slice_bounds-run-start g c = omega (arith, low-high c.args.p c.args.low c.args.high c.args.starts.now (length c.args.source.now) (length c.args.into.now) c.requires)

pub slice_bounds-run-end : goal.slice_bounds-run-end
slice_bounds-run-end g c = omega (arith, high-in c.args.p c.args.low c.args.high c.args.starts.now (length c.args.source.now) (length c.args.into.now) c.requires)

pub run-requires : goal.run-requires
run-requires g c =
    let dest-fits : FitsSigned w64 c.args.p.dest = search rules in
    let part-length : length (take (c.args.high + 1 - c.args.low) (drop c.args.low c.args.into.now)) ≡ c.args.high + 1 - c.args.low =
    length-take-le (c.args.high + 1 - c.args.low) (drop c.args.low c.args.into.now) (omega (arith, length-drop c.args.low c.args.into.now, high-in c.args.p c.args.low c.args.high c.args.starts.now (length c.args.source.now) (length c.args.into.now) c.requires, low-high c.args.p c.args.low c.args.high c.args.starts.now (length c.args.source.now) (length c.args.into.now) c.requires)) in
    let w = c.args.p.numbers in (
      subst (Scattering c.args.starts.now w.offsets w.strides w.limits w.count c.args.p.index c.args.p.updates (read (read c.args.p.dest -ℤ to_z w64 c.args.low)) w.batch_extents w.index_steps w.update_steps w.batch_rank w.window_extents w.window_steps w.dest_steps w.window_rank (length c.args.source.now))
          (sym part-length)
          (part-asks c.args.p c.args.low c.args.high c.args.starts.now (length c.args.source.now) (length c.args.into.now) c.requires _ refl _ (place_is c.args.p c.args.low c.args.high c.args.starts.now (length c.args.source.now) (length c.args.into.now) c.requires dest-fits (omega arith)) (omega arith)),
      part-rowed c.args.p c.args.low c.args.high c.args.starts.now (length c.args.source.now) (length c.args.into.now) c.requires (c.args.high + 1 - c.args.low) refl (read (read c.args.p.dest -ℤ to_z w64 c.args.low)) (place_is c.args.p c.args.low c.args.high c.args.starts.now (length c.args.source.now) (length c.args.into.now) c.requires dest-fits (omega arith)) _ c.rows_of-rows.ensures (omega arith) (omega arith),
    )

pub returns : goal.returns
returns g c =
    let dest-fits : FitsSigned w64 c.args.p.dest = search rules in
    λ k. (
      part-leaves c.args.p c.args.low c.args.high c.args.starts.now (length c.args.source.now) (length c.args.into.now) k _ refl _ (place_is c.args.p c.args.low c.args.high c.args.starts.now (length c.args.source.now) (length c.args.into.now) k dest-fits (omega arith)) g.E.Element.absent (g.R.Combine.combined c.args.rule) c.args.source.now c.args.into.now refl _ c.run.ensures.0,
      c.run.ensures.1 ∙ number_is k.scatter k.ready.accepted c.args.starts.now c.args.p _ _ _ k.ready,
    )
