use Rattle.std.proofs.Common.{◌≡◌, refl, sym, subst, ◌∙◌, true, length, replicate, pos, arith}
use Rattle.integer.specs.Z.{back}
use Rattle.layout.specs.Layouts.{rank_limit}
use Rattle.runs.specs.Runs.{Plane}
use Rattle.runs.proofs.Place.{read}
use Rattle.runs.proofs.Runs.{one-row}
use Rattle.runs.proofs.Turns.{none, more}
use Rattle.runs_c.specs.Bench.{accepted}
use Rattle.runs_c.proofs.Accepted.{accepted-plane, reads-back, runs_by, refused, ran}
use Rattle.runs_c.proofs.run.Goals as goal

pub loop-init : goal.loop-init
loop-init g c = none _ 0 _ refl

pub plane-requires : goal.plane-requires
plane-requires g c =
    let passed : accepted 1 (replicate rank_limit c.args.n) (replicate rank_limit c.args.ss) (replicate rank_limit c.args.ds) c.args.s c.args.d (length c.args.src.now) (length c.args.dst.now) ≡ true =
    sym (c.accepts.ensures.is ∙ reads-back _ _ _ _ _ _ _ c.ranges.s c.ranges.d c.ranges.ss c.ranges.ds) ∙ c.if-not-accepts.false in
    simp (back c.ranges.s, back c.ranges.d, back c.ranges.ss, back c.ranges.ds)
    (subst (Plane c.args.s c.args.d c.args.ss c.args.ds (pos 0) (pos 0) c.args.n 1 (length c.args.src.now)) (sym c.loop.auto.dst) (accepted-plane c.args.n c.args.ss c.args.ds c.args.s c.args.d _ _ passed))

pub loop-preserved : goal.loop-preserved
loop-preserved g c =
    more _ c.loop.counter _ c.loop.dst _ c.loop.invariant (c.plane.ensures ∙ one-row g.E.Element.absent (g.R.Combine.combined c.args.rule) c.args.src.now (read c.args.s) (read c.args.d) (read c.args.ss) (read c.args.ds) (pos 0) (pos 0) c.args.n c.loop.dst)

pub returns-then-not-accepts : goal.returns-then-not-accepts
returns-then-not-accepts g c =
    refused _ _ _ _ (sym (c.accepts.ensures.is ∙ reads-back _ _ _ _ _ _ _ c.ranges.s c.ranges.d c.ranges.ss c.ranges.ds) ∙ c.if-not-accepts.true)

pub returns : goal.returns
returns g c =
    let passed : accepted 1 (replicate rank_limit c.args.n) (replicate rank_limit c.args.ss) (replicate rank_limit c.args.ds) c.args.s c.args.d (length c.args.src.now) (length c.args.dst.now) ≡ true =
    sym (c.accepts.ensures.is ∙ reads-back _ _ _ _ _ _ _ c.ranges.s c.ranges.d c.ranges.ss c.ranges.ds) ∙ c.if-not-accepts.false in
    ran _ _ _ _ c.loop.dst c.loop.counter passed (omega arith) (runs_by g.E.Element.absent (g.R.Combine.combined c.args.rule) c.args.src.now c.args.s c.args.d c.ranges.s c.ranges.d c.loop.counter c.args.dst.now c.loop.dst c.args.ss c.args.ds c.args.n c.ranges.ss c.ranges.ds c.loop.invariant)
