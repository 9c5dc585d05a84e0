use Rattle.std.proofs.Common.{◌≡◌, refl, sym, subst, ◌∙◌, true, length, arith}
use Rattle.runs.proofs.Place.{read}
use Rattle.runs.proofs.Turns.{none, more}
use Rattle.windows.specs.Windows.{Level}
use Rattle.runs_c.specs.Bench.{accepted}
use Rattle.runs_c.proofs.Accepted.{accepted-some, accepted-window, accepted-level, read_back, windows-by, refused, ran}
use Rattle.runs_c.proofs.window.Goals as goal

pub loop-init : goal.loop-init
loop-init g c = none _ 0 _ refl

pub run_axis-low-requires : goal.run_axis-low-requires
run_axis-low-requires g c =
    let passed : accepted c.args.rank c.args.extents.now c.args.ss.now c.args.ds.now c.args.s c.args.d (length c.args.src.now) (length c.args.dst.now) ≡ true =
    sym (c.accepts.ensures.is ∙ read_back _ _ _ _ _ _ _ _ c.ranges.s c.ranges.d) ∙ c.if-not-accepts.false in
    (accepted-some _ _ _ _ _ _ _ _ c.accepts.ensures.shape-long c.accepts.ensures.source-long c.accepts.ensures.dest-long passed, (accepted-window _ _ _ _ _ _ _ _ c.accepts.ensures.shape-long c.accepts.ensures.source-long c.accepts.ensures.dest-long passed).small)

pub axes-requires : goal.axes-requires
axes-requires g c =
    let passed : accepted c.args.rank c.args.extents.now c.args.ss.now c.args.ds.now c.args.s c.args.d (length c.args.src.now) (length c.args.dst.now) ≡ true =
    sym (c.accepts.ensures.is ∙ read_back _ _ _ _ _ _ _ _ c.ranges.s c.ranges.d) ∙ c.if-not-accepts.false in
    let low = c.run_axis-low in
    subst (Level (read c.args.s) (read c.args.d) c.args.extents.now c.args.ss.now c.args.ds.now low.result c.args.rank (length c.args.src.now)) (sym c.loop.auto.dst)
    (accepted-level _ _ _ _ _ _ _ _ c.accepts.ensures.shape-long c.accepts.ensures.source-long c.accepts.ensures.dest-long passed low.result low.ensures.below low.ensures.units c.ranges.s c.ranges.d)

pub loop-preserved : goal.loop-preserved
loop-preserved g c = more _ c.loop.counter _ c.loop.dst _ c.loop.invariant c.axes.ensures

pub returns-then-not-accepts : goal.returns-then-not-accepts
returns-then-not-accepts g c =
    refused _ _ _ _ (sym (c.accepts.ensures.is ∙ read_back _ _ _ _ _ _ _ _ c.ranges.s c.ranges.d) ∙ c.if-not-accepts.true)

pub returns : goal.returns
returns g c =
    let passed : accepted c.args.rank c.args.extents.now c.args.ss.now c.args.ds.now c.args.s c.args.d (length c.args.src.now) (length c.args.dst.now) ≡ true =
    sym (c.accepts.ensures.is ∙ read_back _ _ _ _ _ _ _ _ c.ranges.s c.ranges.d) ∙ c.if-not-accepts.false in
    ran _ _ _ _ c.loop.dst c.loop.counter passed (omega arith) (windows-by g.E.Element.absent (g.R.Combine.combined c.args.rule) c.args.src.now c.args.s c.args.d c.ranges.s c.ranges.d c.loop.counter c.args.dst.now c.loop.dst c.args.extents.now c.args.ss.now c.args.ds.now c.args.rank c.loop.invariant)
