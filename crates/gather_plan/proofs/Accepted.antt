-- What is known of a gather that is not refused: its lists fit, its numbers fit, and what the code makes is its plan. Assumes nothing.
use mathlib.Core.Path.{◌≡◌, sym, ap, ◌∙◌}
use mathlib.Core.Bool.{true}
use mathlib.Core.List.{List}
use Prim.Native.Nat.{ℕ, ◌<◌, ◌≤◌, min}
use native.Mathlib.Omega.{arith}
use lib.ListN.{length, get_or, take}
use lib.Seq.{take_all}
use lib.IntN.{ℤ, pos, ◌*ℤ◌}
use Rattle.indexing.specs.Coordinates.{product, pick, tabulate}
use Rattle.indexing.specs.Start.{without}
use Rattle.indexing.specs.Gather.{Gather, shown_dims, batch_dims}
use Rattle.indexing.specs.Axes.{length-spread}
use Rattle.indexing.specs.Steps.{vector_stride, window_steps, batch_steps}
use Rattle.layout.specs.Answers.{is_done, Answer}
use Rattle.layout.specs.Layouts.{rank_limit, padded, layout_of, extents_of, strides_of, stride_length, rank_at_most}
use Rattle.layout.specs.Spans.{total_of, reset_of, reset}
use Rattle.layout.specs.Laws.{reset-is}
use Rattle.layout.proofs.Products.{total-is}
use Rattle.axis_lists.proofs.Filling.{read_back, length-others}
use Rattle.checks.specs.Checks.{total_fits, number_fits}
use Rattle.checks.specs.Values.{reset_or, offset_or, total_or}
use Rattle.checks.proofs.Made.{or-done, few-axes}
use Rattle.checks.proofs.Lists.{axes-few, tabulate-same}
use Rattle.checks.proofs.Fits.{fits-value, total-value, offset-value, first-each}
use Rattle.gather_checks.specs.Refusals.{resets_at, refusal_of}
use Rattle.gather_plan.specs.Plan.{axis_of, no_axis, role_of}
use Rattle.gather_plan.specs.Made.{axis_from, axes_from}
use Rattle.gather_plan.proofs.Valid.{checks, valid, shown-count, offsets-fit}

-- ---- a reset that was accepted is the reset
reset-value : (d : ℕ) (s : ℤ) → is_done (number_fits (reset_of d s)) ≡ true → reset_or d s ≡ reset d s
reset-value d s e = fits-value (reset_of d s) (reset d s) e (reset-is d s)

-- the resets of one axis
pub record Resets (d : ℕ) (s w b : ℤ) : Type 0 where
  pub dest : reset_or d s ≡ reset d s
  pub window : reset_or d w ≡ reset d w
  pub batch : reset_or d b ≡ reset d b

resets-fit : (ds : List ℕ) (ss ws bs : List ℤ) (a : ℕ) → is_done (resets_at ds ss ws bs a) ≡ true → Resets (get_or ds a 0) (get_or ss a (pos 0)) (get_or ws a (pos 0)) (get_or bs a (pos 0))
resets-fit ds ss ws bs a e =
    let t = or-done (number_fits (reset_of (get_or ds a 0) (get_or ss a (pos 0)))) _ e in
    let u = or-done (number_fits (reset_of (get_or ds a 0) (get_or ws a (pos 0)))) _ t.1 in
    record { dest = reset-value (get_or ds a 0) (get_or ss a (pos 0)) t.0; window = reset-value (get_or ds a 0) (get_or ws a (pos 0)) u.0; batch = reset-value (get_or ds a 0) (get_or bs a (pos 0)) u.1 }

-- ---- a gather that is not refused
module _ (g : Gather) where
  abbrev oe : List ℕ
  oe = g.operand.extents

  abbrev os : List ℤ
  os = g.operand.strides

  abbrev ie : List ℕ
  ie = g.indices.extents

  abbrev is : List ℤ
  is = g.indices.strides

  abbrev de : List ℕ
  de = g.result.extents

  abbrev ds : List ℤ
  ds = g.result.strides

  abbrev map : List ℕ
  map = g.spec.start-index-map

  abbrev stride : ℤ
  stride = vector_stride g.indices g.spec.index-vector-dim

  pub record Accepted : Type 0 where
    pub operand-strides : length os ≡ length oe
    pub index-strides : length is ≡ length ie
    pub dest-strides : length ds ≡ length de
    pub operand-rank : length oe ≤ rank_limit
    pub index-rank : length ie ≤ rank_limit
    pub dest-rank : length de ≤ rank_limit
    pub offsets-few : length g.spec.offset-dims ≤ rank_limit
    pub collapsed-few : length g.spec.collapsed-slice-dims ≤ rank_limit
    pub map-few : length map ≤ rank_limit
    pub sizes-few : length g.spec.slice-sizes ≤ rank_limit
    pub total-fits : total_or de ≡ product de
    pub resets-fit-all : (a : ℕ) → a < length de → Resets (get_or de a 0) (get_or ds a (pos 0)) (get_or (window_steps g) a (pos 0)) (get_or (batch_steps g) a (pos 0))
    pub offsets-fit : (c : ℕ) → c < length map → offset_or stride c ≡ stride *ℤ pos c

  pub accepted : (four : Answer) → is_done (refusal_of four g) ≡ true → Accepted
  unfolding shown_dims
  accepted four done =
      let t = checks four g done in
      let v = valid four g done in
      let a1 = or-done (stride_length (length oe) (length os)) _ t.0 in
      let a2 = or-done (stride_length (length ie) (length is)) _ a1.1 in
      let a3 = or-done (stride_length (length de) (length ds)) _ a2.1 in
      let a4 = or-done (rank_at_most (length oe)) _ a3.1 in
      let a5 = or-done (rank_at_most (length ie)) _ a4.1 in
      let b1 = or-done (total_fits (total_of oe)) _ t.1 in
      let b2 = or-done (total_fits (total_of ie)) _ b1.1 in
      let b3 = or-done (total_fits (total_of de)) _ b2.1 in
      let few : length oe ≤ rank_limit = few-axes (length oe) a4.0 in
      record {
        operand-strides = v.operand-strided;
        index-strides = v.indices-strided;
        dest-strides = v.result-strided;
        operand-rank = few;
        index-rank = few-axes (length ie) a5.0;
        dest-rank = few-axes (length de) a5.1;
        offsets-few = omega (arith, few, shown-count four g done, length-others 0 (length oe) g.spec.collapsed-slice-dims);
        collapsed-few = omega (arith, few, axes-few (length oe) g.spec.collapsed-slice-dims v.collapsed);
        map-few = omega (arith, few, axes-few (length oe) map v.mapped);
        sizes-few = omega (arith, few, v.sizes);
        total-fits = total-value (total_of de) (product de) b3.0 (total-is de);
        resets-fit-all = λ a h. resets-fit de ds (window_steps g) (batch_steps g) a (first-each (resets_at de ds (window_steps g) (batch_steps g)) (length de) t.5 a h);
        offsets-fit = λ c h. offset-value stride c (offsets-fit four g done c h);
      }

  pub length-window : length (window_steps g) ≡ length de
  unfolding window_steps
  length-window = length-spread (pos 0) (length de) g.spec.offset-dims (pick (pos 0) (shown_dims g) os)

  pub length-batch : length (batch_steps g) ≡ length de
  unfolding batch_steps
  length-batch = length-spread (pos 0) (length de) (batch_dims g) (without g.spec.index-vector-dim is)

  module _ (p : Accepted) where
    -- what is read of the layouts as they are held
    strides-back : (n : ℕ) (l : List ℤ) → length l ≡ n → n ≤ rank_limit → take n (padded rank_limit (pos 0) l) ≡ l
    strides-back n l e h = ap (λ (k : ℕ). take k (padded rank_limit (pos 0) l)) (sym e) ∙ read_back (pos 0) l (omega arith)

    pub operand-extents-read : extents_of (layout_of oe os) ≡ oe
    operand-extents-read = read_back 1 oe p.operand-rank

    pub index-extents-read : extents_of (layout_of ie is) ≡ ie
    index-extents-read = read_back 1 ie p.index-rank

    pub dest-extents-read : extents_of (layout_of de ds) ≡ de
    dest-extents-read = read_back 1 de p.dest-rank

    pub operand-strides-read : strides_of (layout_of oe os) ≡ os
    operand-strides-read = strides-back (length oe) os p.operand-strides p.operand-rank

    pub index-strides-read : strides_of (layout_of ie is) ≡ is
    index-strides-read = strides-back (length ie) is p.index-strides p.index-rank

    pub dest-strides-read : strides_of (layout_of de ds) ≡ ds
    dest-strides-read = strides-back (length de) ds p.dest-strides p.dest-rank

    -- ---- the axes that the code makes are the plan's
    axis-is : (a : ℕ) → a < length de → axis_from de ds (window_steps g) (batch_steps g) g.spec.offset-dims (shown_dims g) a ≡ axis_of g a
    axis-is a h =
        let r = p.resets-fit-all a h in
        λ i. record {
          role = role_of g.spec.offset-dims (shown_dims g) a;
          dest_step = get_or ds a (pos 0);
          dest_reset = r.dest i;
          window_step = get_or (window_steps g) a (pos 0);
          window_reset = r.window i;
          index_batch_step = get_or (batch_steps g) a (pos 0);
          index_batch_reset = r.batch i;
        }

    pub axes-are : axes_from de ds (window_steps g) (batch_steps g) g.spec.offset-dims (shown_dims g) ≡ padded rank_limit no_axis (tabulate (length de) (axis_of g))
    unfolding axes_from
    axes-are = ap (padded rank_limit no_axis) (tabulate-same (length de) (axis_from de ds (window_steps g) (batch_steps g) g.spec.offset-dims (shown_dims g)) (axis_of g) axis-is)

    -- the steps as they are read again
    pub window-read : (l : List ℤ) → l ≡ padded rank_limit (pos 0) (window_steps g) → take (length de) l ≡ window_steps g
    window-read l e = ap (take (length de)) e ∙ strides-back (length de) (window_steps g) length-window p.dest-rank

    pub batch-read : (l : List ℤ) → l ≡ padded rank_limit (pos 0) (batch_steps g) → take (length de) l ≡ batch_steps g
    batch-read l e = ap (take (length de)) e ∙ strides-back (length de) (batch_steps g) length-batch p.dest-rank

    -- and so are the offsets and the strides of the components
    pub offsets_are : tabulate (min (length map) rank_limit) (offset_or stride) ≡ tabulate (length map) (λ c. stride *ℤ pos c)
    offsets_are =
        let n : min (length map) rank_limit ≡ length map = omega (arith, p.map-few) in
        ap (λ (k : ℕ). tabulate k (offset_or stride)) n ∙ tabulate-same (length map) (offset_or stride) (λ c. stride *ℤ pos c) p.offsets-fit

    pub map_is : take rank_limit map ≡ map
    map_is = take_all rank_limit map p.map-few
