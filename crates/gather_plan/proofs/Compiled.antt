-- What compile gives: the plan of an accepted gather, which holds that gather. Assumes nothing.
use mathlib.Core.Path.{◌≡◌, ap}
use mathlib.Core.Bool.{Bool, true, cond}
use Rattle.indexing.specs.Gather.{Gather}
use Rattle.layout.specs.Answers.{is_done, Answer}
use Rattle.axis_lists.proofs.Filling.{read_back}
use Rattle.gather_checks.specs.Refusals.{gather_from}
use Rattle.gather_plan.specs.Plan.{plan_of, refused_plan, compiled_by, held_gather}
use Rattle.gather_plan.proofs.Accepted.{Accepted, operand-extents-read, operand-strides-read, index-extents-read, index-strides-read, dest-extents-read, dest-strides-read}

-- what compile gives for a gather that it does not refuse
pub compiled-plan : (x : Answer) (g : Gather) → is_done x ≡ true → (compiled_by x g).plan ≡ plan_of g
unfolding compiled_by
compiled-plan x g e = ap (λ (b : Bool). cond b (plan_of g) refused_plan) e

-- a gather without the places where its views begin
abbrev pub unplaced : Gather → Gather
unplaced g =
    gather_from g.operand.extents g.operand.strides g.indices.extents g.indices.strides g.result.extents g.result.strides
    g.spec.offset-dims g.spec.collapsed-slice-dims g.spec.start-index-map g.spec.index-vector-dim g.spec.slice-sizes

-- a plan that compile gives holds the gather that it was compiled for
pub held-again : (g : Gather) → Accepted g → held_gather (plan_of g) ≡ unplaced g
held-again g p =
    let eo = operand-extents-read g p in
    let so = operand-strides-read g p in
    let ei = index-extents-read g p in
    let si = index-strides-read g p in
    let ed = dest-extents-read g p in
    let sd = dest-strides-read g p in
    let lo = read_back 0 g.spec.offset-dims p.offsets-few in
    let lc = read_back 0 g.spec.collapsed-slice-dims p.collapsed-few in
    let lm = read_back 0 g.spec.start-index-map p.map-few in
    let ls = read_back 0 g.spec.slice-sizes p.sizes-few in
    λ i. gather_from (eo i) (so i) (ei i) (si i) (ed i) (sd i) (lo i) (lc i) (lm i) g.spec.index-vector-dim (ls i)
