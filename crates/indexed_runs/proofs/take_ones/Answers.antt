use Rattle.std.proofs.Common.{◌≡◌, refl, ap, ◌∙◌, not, nat_eq, cond, Bool, ◌&&◌, ℕ, pos, nat_abs, length, ◌+◌, ◌*◌, ◌%◌, arith}
use Rattle.indexing.specs.Loops.{in_order}
use Rattle.indexing.specs.Slid.{how_many}
use Rattle.indexing.specs.Counting.{many-on}
use Rattle.runs.specs.Runs.{cell_at}
use Rattle.runs.proofs.Turns.{none}
use Rattle.runs.proofs.Place.{read}
use Rattle.indexed_runs.specs.IndexedRuns.{replaced, one_at, moves_at}
use Rattle.indexed_runs.proofs.Ones.{turns-on, take-ones-end}
use Rattle.indexed_runs.proofs.Counts.{few-below, all-or-none, many-first, ones-count}
use Rattle.indexed_runs.proofs.take_ones.Goals as goal

pub loop-turn-init : goal.loop-turn-init
loop-turn-init g c =
    let counts : Bool = not (nat_eq g.row.COUNTS 0) in
    let p : ℕ → Bool = λ k. counts && moves_at c.args.starts.now pos (nat_abs (read c.args.limit)) k in (
      turns-on (cell_at g.E.Element.absent replaced c.args.src.now (one_at c.args.starts.now (read c.args.limit)) pos) 0 (length c.args.dst.now % 4) c.args.dst.now c.args.dst.now _ (omega arith) (none _ 0 c.args.dst.now refl) c.take_few-slid.ensures.0 ∙ ap (λ (m : ℕ). in_order (cell_at g.E.Element.absent replaced c.args.src.now (one_at c.args.starts.now (read c.args.limit)) pos) m c.args.dst.now) (omega arith),
      many-first (length c.args.dst.now % 4) p _ c.take_few-slid.ensures.1 ∙ ap (λ (m : ℕ). how_many m p) (omega arith),
    )

pub overflow_add-slid : goal.overflow_add-slid
overflow_add-slid g c =
    let counts : Bool = not (nat_eq g.row.COUNTS 0) in
    let p : ℕ → Bool = λ k. counts && moves_at c.args.starts.now pos (nat_abs (read c.args.limit)) k in
    omega (arith, few-below ((length c.args.dst.now % 4) + 4 * c.loop-turn.turn) (((length c.args.dst.now % 4) + 4 * c.loop-turn.turn) + 4) p _ _ _ (omega arith) c.loop-turn.invariant.1 c.take_few-slid-in-loop-turn.ensures.1)

pub loop-turn-preserved : goal.loop-turn-preserved
loop-turn-preserved g c =
    let counts : Bool = not (nat_eq g.row.COUNTS 0) in
    let p : ℕ → Bool = λ k. counts && moves_at c.args.starts.now pos (nat_abs (read c.args.limit)) k in
    let e : (((length c.args.dst.now % 4) + 4 * c.loop-turn.turn) + 4) ≡ (length c.args.dst.now % 4) + 4 * (c.loop-turn.turn + 1) = omega arith in (
      turns-on (cell_at g.E.Element.absent replaced c.args.src.now (one_at c.args.starts.now (read c.args.limit)) pos) ((length c.args.dst.now % 4) + 4 * c.loop-turn.turn) (((length c.args.dst.now % 4) + 4 * c.loop-turn.turn) + 4) c.args.dst.now c.loop-turn.dst _ (omega arith) c.loop-turn.invariant.0 c.take_few-slid-in-loop-turn.ensures.0 ∙ ap (λ (m : ℕ). in_order (cell_at g.E.Element.absent replaced c.args.src.now (one_at c.args.starts.now (read c.args.limit)) pos) m c.args.dst.now) e,
      many-on ((length c.args.dst.now % 4) + 4 * c.loop-turn.turn) (((length c.args.dst.now % 4) + 4 * c.loop-turn.turn) + 4) p _ _ (omega arith) c.loop-turn.invariant.1 c.take_few-slid-in-loop-turn.ensures.1 ∙ ap (λ (m : ℕ). how_many m p) e,
    )

pub returns : goal.returns
returns g c =
    let counts : Bool = not (nat_eq g.row.COUNTS 0) in (
      take-ones-end g.E.Element.absent replaced c.args.src.now c.args.starts.now c.args.limit ((length c.args.dst.now % 4) + 4 * c.loop-turn.turn) _ c.args.dst.now c.loop-turn.dst c.ranges.limit (omega arith) c.loop-turn.invariant.0,
      c.loop-turn.invariant.1
          ∙ all-or-none counts ((length c.args.dst.now % 4) + 4 * c.loop-turn.turn) (moves_at c.args.starts.now pos (nat_abs (read c.args.limit)))
          ∙ ap (λ (m : ℕ). cond counts m 0) (ones-count c.args.starts.now c.args.limit ((length c.args.dst.now % 4) + 4 * c.loop-turn.turn) _ _ c.ranges.limit (omega arith) refl),
    )
