use Rattle.std.proofs.Common.{rules, ◌≡◌, refl, sym, subst, length, ℕ, ℤ, arith}
use Rattle.indexing.specs.Counting.{many-none}
use Rattle.layout.specs.Layouts.{rank_limit}
use Rattle.runs.proofs.Place.{read}
use Rattle.runs.proofs.Turns.{none}
use Rattle.indexed_runs.specs.IndexedRuns.{start_moved}
use Rattle.indexed_runs.proofs.Counts.{one_below}
use Rattle.scatter_windows.specs.Scattering.{Landing}
use Rattle.scatter_windows.proofs.Levels.{land}
use Rattle.driven.proofs.Places.{begun, body-asks, step_gives, body-gives, body-counts}
use Rattle.driven.proofs.scatter_driven.Goals as goal

pub loop-init : goal.loop-init
loop-init g c =
    let shape-full : length c.args.shape ≡ rank_limit = search rules in
    let rows-full : length c.args.rows ≡ rank_limit = search rules in
    let asked = λ (d : ℤ). Landing c.args.starts.now c.args.components.now.offsets c.args.components.now.strides c.args.components.now.limits c.args.components.now.count d c.args.wextents.now c.args.ws.now c.args.ds.now c.args.low c.args.wrank (length c.args.src.now) (length c.args.dst.now) in
    (begun asked _ _ _ _ _ _ _ c.requires c.ranges.t c.ranges.u c.ranges.d shape-full rows-full _ c.start-state.ensures, none _ 0 _ refl, many-none 0 _ refl)

pub land-slid-requires : goal.land-slid-requires
land-slid-requires g c =
    let shape-full : length c.args.shape ≡ rank_limit = search rules in
    let rows-full : length c.args.rows ≡ rank_limit = search rules in
    let asked = λ (d : ℤ). Landing c.args.starts.now c.args.components.now.offsets c.args.components.now.strides c.args.components.now.limits c.args.components.now.count d c.args.wextents.now c.args.ws.now c.args.ds.now c.args.low c.args.wrank (length c.args.src.now) (length c.args.dst.now) in
    subst (λ (m : ℕ). Landing c.args.starts.now c.args.components.now.offsets c.args.components.now.strides c.args.components.now.limits c.args.components.now.count (read c.args.d) c.args.wextents.now c.args.ws.now c.args.ds.now c.args.low c.args.wrank (length c.args.src.now) m (read c.loop.state.source_offset) (read c.loop.state.dest_offset)) (sym c.loop.auto.dst)
    (body-asks asked _ _ _ _ _ _ _ c.requires c.ranges.t c.ranges.u c.ranges.d shape-full rows-full c.loop.counter c.loop.state c.loop.invariant.0 c.loop-test.true)

pub overflow_add-slid : goal.overflow_add-slid
overflow_add-slid g c =
    let flag = λ (x : ℤ). start_moved c.args.starts.now c.args.components.now.offsets c.args.components.now.limits x c.args.components.now.count in
    omega (arith, one_below c.loop.counter _ _ _ (flag (read c.loop.state.source_offset)) c.loop.invariant.2 c.land-slid.ensures.1, c.loop-test.true)

pub loop-preserved : goal.loop-preserved
loop-preserved g c =
    let shape-full : length c.args.shape ≡ rank_limit = search rules in
    let rows-full : length c.args.rows ≡ rank_limit = search rules in
    let asked = λ (d : ℤ). Landing c.args.starts.now c.args.components.now.offsets c.args.components.now.strides c.args.components.now.limits c.args.components.now.count d c.args.wextents.now c.args.ws.now c.args.ds.now c.args.low c.args.wrank (length c.args.src.now) (length c.args.dst.now) in
    let flag = λ (x : ℤ). start_moved c.args.starts.now c.args.components.now.offsets c.args.components.now.limits x c.args.components.now.count in (
      step_gives asked _ _ _ _ _ _ _ c.requires c.ranges.t c.ranges.u c.ranges.d shape-full rows-full c.loop.counter c.loop.state c.loop.invariant.0 _ c.advance.ensures,
      body-gives asked _ _ _ _ _ _ _ c.requires c.ranges.t c.ranges.u c.ranges.d shape-full rows-full (land g.E.Element.absent (g.R.Combine.combined c.args.rule) c.args.src.now c.args.starts.now c.args.components.now.offsets c.args.components.now.strides c.args.components.now.limits c.args.components.now.count c.args.wextents.now c.args.ws.now c.args.ds.now c.args.wrank) c.loop.counter c.loop.state c.loop.invariant.0 c.args.dst.now c.loop.dst _ c.loop.invariant.1 c.land-slid.ensures.0,
      body-counts asked _ _ _ _ _ _ _ c.requires c.ranges.t c.ranges.u c.ranges.d shape-full rows-full flag c.loop.counter c.loop.state c.loop.invariant.0 _ _ c.loop.invariant.2 c.land-slid.ensures.1,
    )
