-- The sums that a walk makes: places from steps per axis and one product per component. Each is the definition's place. Assumes nothing.
use Rattle.std.specs.Prelude.{◌≡◌, refl, Bool, true, false, cond, eqb, get_or, take, drop, ◌*ℤ◌}
use Rattle.std.proofs.Math.Path.{sym, ap, ap₂}
use Rattle.std.proofs.Common.{◌∙◌, subst, arith, eqb-true, drop_of_length-le, take_all}
use mathlib.Core.List.{List, [], ◌∷◌, ◌++◌, append-nil}
use Prim.Native.Nat.{ℕ, zero, suc, ◌≤◌}
use Rattle.std.proofs.Math.ListN.{length, get_or-eq_default}
use Rattle.std.proofs.Math.IntN.{ℤ, pos, ◌+ℤ◌, +ℤ_assoc, +ℤ_comm, +ℤ_idr, zero-*ℤ}
use Rattle.indexing.specs.Coordinates.{View, rank, unravel, ints, dot_ℤ, dot, place_of, tabulate, pick, spread}
use Rattle.indexing.specs.Start.{without, index_coordinate, start_index, start_on, full_start}
use Rattle.indexing.specs.Gather.{Gather, batch_dims, shown_dims, gather_start, full_offset, operand_index, read_at, write_at}
use Rattle.indexing.specs.Scatter.{Scatter, scatter_dims, window_dims, batch_shape, window_shape, windows, update_index, full_window, result_index, update_at, lands_at}
use Rattle.indexing.proofs.Linear.{length-unravel}
use Rattle.indexing.specs.Axes.{Axes, axes-others, axes-both, length-spread, length-pick, pick-append, dot-ints, dot_ℤ-spread, dot-spread, spread-dot, dot-plus, dot-joined, dot-sum}
use Rattle.indexing.specs.Steps.{vector_stride, start_sum_to, start_sum, window_steps, batch_steps, update_batch_steps, update_window_steps, land_steps}

-- the place of a coordinate as a walk has it
pub place-ints : (v : View) (cs : List ℕ) → place_of v (ints cs) ≡ v.offset +ℤ dot v.strides cs
unfolding place_of
place-ints v cs = ap (λ (z : ℤ). v.offset +ℤ z) (dot-ints v.strides cs)

dot-insert : (ss : List ℤ) (v : ℕ) (batch : List ℕ) (c : ℕ) → v ≤ length batch
    → dot ss (take v batch ++ c ∷ drop v batch) ≡ dot (take v ss ++ drop (suc v) ss) batch +ℤ get_or ss v (pos 0) *ℤ pos c
unfolding dot
dot-insert [] zero batch c h = sym (ap (λ (z : ℤ). pos 0 +ℤ z) (zero-*ℤ (pos c)))
dot-insert (s ∷ ss) zero batch c h = +ℤ_comm (s *ℤ pos c) (dot ss batch)
dot-insert ss (suc v) [] c h = absurd (omega arith)
dot-insert [] (suc v) (b ∷ batch) c h = sym (ap (λ (z : ℤ). pos 0 +ℤ z) (zero-*ℤ (pos c)))
dot-insert (s ∷ ss) (suc v) (b ∷ batch) c h =
    ap (λ (z : ℤ). s *ℤ pos b +ℤ z) (dot-insert ss v batch c (omega arith))
    ∙ sym (+ℤ_assoc (s *ℤ pos b) (dot (take v ss ++ drop (suc v) ss) batch) (get_or ss v (pos 0) *ℤ pos c))

-- past the axes there is nothing to leave out, and the stride is 0
dot-past : (ss : List ℤ) (v : ℕ) (batch : List ℕ) (c : ℕ) → length ss ≤ v → dot ss batch ≡ dot (take v ss ++ drop (suc v) ss) batch +ℤ get_or ss v (pos 0) *ℤ pos c
dot-past ss v batch c h =
    sym (ap₂ (λ (l : List ℤ) (z : ℤ). dot l batch +ℤ z *ℤ pos c) (ap₂ ◌++◌ (take_all v ss h) (drop_of_length-le ss {i = suc v} (omega arith)) ∙ append-nil ss) (get_or-eq_default ss (pos 0) {n = v} h)
    ∙ ap (λ (z : ℤ). dot ss batch +ℤ z) (zero-*ℤ (pos c)) ∙ +ℤ_idr (dot ss batch))

pub dot-index : (ss : List ℤ) (v : ℕ) (batch : List ℕ) (c : ℕ) → v ≤ length batch
    → dot ss (index_coordinate v (length ss) batch c) ≡ dot (without v ss) batch +ℤ get_or ss v (pos 0) *ℤ pos c
unfolding index_coordinate without
dot-index ss v batch c h = go (eqb v (length ss)) refl
  where
    go : (b : Bool) → eqb v (length ss) ≡ b
        → dot ss (cond b batch (take v batch ++ c ∷ drop v batch)) ≡ dot (take v ss ++ drop (suc v) ss) batch +ℤ get_or ss v (pos 0) *ℤ pos c
    go true e = let q : v ≡ length ss = eqb-true v (length ss) e in dot-past ss v batch c (omega arith)
    go false e = dot-insert ss v batch c h

-- the place of component c at a batch coordinate
pub component-place : (i : View) (v : ℕ) (batch : List ℕ) (c : ℕ) → length i.strides ≡ rank i → v ≤ length batch
    → place_of i (ints (index_coordinate v (rank i) batch c)) ≡ i.offset +ℤ (dot (without v i.strides) batch +ℤ vector_stride i v *ℤ pos c)
component-place i v batch c l h =
    place-ints i (index_coordinate v (rank i) batch c)
    ∙ ap (λ (n : ℕ). i.offset +ℤ dot i.strides (index_coordinate v n batch c)) (sym l) ∙ ap (λ (z : ℤ). i.offset +ℤ z) (dot-index i.strides v batch c h)

pub dot-start : (ss : List ℤ) (extents windows axes : List ℕ) (start : ℕ → ℤ) → Axes (length extents) axes → dot_ℤ ss (full_start extents windows axes start) ≡ start_sum ss extents windows axes start
unfolding full_start start_sum_to
dot-start ss extents windows axes start p =
    dot_ℤ-spread ss (length extents) axes (tabulate (length axes) (start_on extents windows axes start)) p ∙ dot-sum ss axes (start_on extents windows axes start)

pub length-start : (extents windows axes : List ℕ) (start : ℕ → ℤ) → length (full_start extents windows axes start) ≡ length extents
unfolding full_start
length-start extents windows axes start = length-spread (pos 0) (length extents) axes (tabulate (length axes) (start_on extents windows axes start))

module _ (g : Gather) where
  pub length-offset : (r : List ℕ) → length (full_offset g r) ≡ rank g.operand
  unfolding full_offset
  length-offset r = length-spread 0 (rank g.operand) (shown_dims g) (pick 0 g.spec.offset-dims r)

  -- the window's part, over the listed axes and over all result axes
  pub dot-offset : (r : List ℕ) → dot g.operand.strides (full_offset g r) ≡ dot (pick (pos 0) (shown_dims g) g.operand.strides) (pick 0 g.spec.offset-dims r)
  unfolding full_offset shown_dims
  dot-offset r = dot-spread g.operand.strides (rank g.operand) (shown_dims g) (pick 0 g.spec.offset-dims r) (axes-others (rank g.operand) g.spec.collapsed-slice-dims)

  pub dot-window : Axes (rank g.result) g.spec.offset-dims → (r : List ℕ) → dot g.operand.strides (full_offset g r) ≡ dot (window_steps g) r
  unfolding window_steps
  dot-window p r = dot-offset r ∙ sym (spread-dot (rank g.result) g.spec.offset-dims (pick (pos 0) (shown_dims g) g.operand.strides) r p)

  -- the place of component c, by steps along the result axes
  pub gather-component : length g.indices.strides ≡ rank g.indices → g.spec.index-vector-dim ≤ length (batch_dims g) → (r : List ℕ) (c : ℕ)
      → place_of g.indices (ints (index_coordinate g.spec.index-vector-dim (rank g.indices) (pick 0 (batch_dims g) r) c))
      ≡ g.indices.offset +ℤ (dot (batch_steps g) r +ℤ vector_stride g.indices g.spec.index-vector-dim *ℤ pos c)
  unfolding batch_steps batch_dims
  gather-component l h r c =
      component-place g.indices g.spec.index-vector-dim (pick 0 (batch_dims g) r) c l (subst (λ (n : ℕ). g.spec.index-vector-dim ≤ n) (sym (length-pick 0 (batch_dims g) r)) h)
      ∙ ap (λ (z : ℤ). g.indices.offset +ℤ (z +ℤ vector_stride g.indices g.spec.index-vector-dim *ℤ pos c))
      (sym (spread-dot (rank g.result) (batch_dims g) (without g.spec.index-vector-dim g.indices.strides) r (axes-others (rank g.result) g.spec.offset-dims)))

  -- the place that a cell is written to
  pub write-place : (k : ℕ) → write_at g k ≡ g.result.offset +ℤ dot g.result.strides (unravel g.result.extents k)
  unfolding write_at
  write-place k = place-ints g.result (unravel g.result.extents k)

  -- THE PLACE that a cell is read from
  pub read-place : (starts : List ℤ) → Axes (rank g.result) g.spec.offset-dims → Axes (rank g.operand) g.spec.start-index-map → (k : ℕ)
      → let r = unravel g.result.extents k in
      read_at g starts k ≡ g.operand.offset +ℤ (dot (window_steps g) r +ℤ start_sum g.operand.strides g.operand.extents g.spec.slice-sizes g.spec.start-index-map (gather_start g starts r))
  unfolding read_at place_of operand_index
  read-place starts p q k =
      let r : List ℕ = unravel g.result.extents k in
      let start : List ℤ = full_start g.operand.extents g.spec.slice-sizes g.spec.start-index-map (gather_start g starts r) in
      ap (λ (z : ℤ). g.operand.offset +ℤ z)
      (dot-plus g.operand.strides start (full_offset g r) (length-start g.operand.extents g.spec.slice-sizes g.spec.start-index-map (gather_start g starts r) ∙ sym (length-offset r))
      ∙ ap₂ ◌+ℤ◌ (dot-start g.operand.strides g.operand.extents g.spec.slice-sizes g.spec.start-index-map (gather_start g starts r) q) (dot-window p r)
      ∙ +ℤ_comm (start_sum g.operand.strides g.operand.extents g.spec.slice-sizes g.spec.start-index-map (gather_start g starts r)) (dot (window_steps g) r))

module _ (s : Scatter) where
  -- the place that an update is read from
  pub update-place : Axes (rank s.updates) s.spec.update-window-dims → (b w : ℕ)
      → update_at s b w ≡ s.updates.offset +ℤ (dot (update_batch_steps s) (unravel (batch_shape s) b) +ℤ dot (update_window_steps s) (unravel (window_shape s) w))
  unfolding update_at update_index update_batch_steps update_window_steps scatter_dims
  update-place p b w =
      let u : List ℕ = unravel (batch_shape s) b in
      let v : List ℕ = unravel (window_shape s) w in
      let B : List ℤ = pick (pos 0) (scatter_dims s) s.updates.strides in
      let W : List ℤ = pick (pos 0) s.spec.update-window-dims s.updates.strides in
      place-ints s.updates (spread 0 (rank s.updates) (s.spec.update-window-dims ++ scatter_dims s) (v ++ u))
      ∙ ap (λ (z : ℤ). s.updates.offset +ℤ z)
      (dot-spread s.updates.strides (rank s.updates) (s.spec.update-window-dims ++ scatter_dims s) (v ++ u) (axes-both (rank s.updates) s.spec.update-window-dims p)
      ∙ ap (λ (l : List ℤ). dot l (v ++ u)) (pick-append (pos 0) s.spec.update-window-dims (scatter_dims s) s.updates.strides)
      ∙ dot-joined W B v u (length-pick (pos 0) s.spec.update-window-dims s.updates.strides ∙ sym (length-cell w))
      ∙ +ℤ_comm (dot W v) (dot B u))
    where
      length-cell : (w : ℕ) → length (unravel (window_shape s) w) ≡ length s.spec.update-window-dims
      length-cell w = length-unravel (window_shape s) w ∙ (unfold window_shape in length-pick 0 s.spec.update-window-dims s.updates.extents)

  -- the place of component c, by strides along the batch axes
  pub scatter-component : length s.indices.strides ≡ rank s.indices → s.spec.index-vector-dim ≤ length (scatter_dims s) → (b c : ℕ)
      → place_of s.indices (ints (index_coordinate s.spec.index-vector-dim (rank s.indices) (unravel (batch_shape s) b) c))
      ≡ s.indices.offset +ℤ (dot (without s.spec.index-vector-dim s.indices.strides) (unravel (batch_shape s) b) +ℤ vector_stride s.indices s.spec.index-vector-dim *ℤ pos c)
  unfolding batch_shape
  scatter-component l h b c =
      component-place s.indices s.spec.index-vector-dim (unravel (batch_shape s) b) c l
      (subst (λ (n : ℕ). s.spec.index-vector-dim ≤ n) (sym (length-unravel (batch_shape s) b ∙ length-pick 0 (scatter_dims s) s.updates.extents)) h)

  -- the window's part
  pub length-window : (window : List ℕ) → length (full_window s window) ≡ rank s.result
  unfolding full_window
  length-window window = length-spread 0 (rank s.result) (window_dims s) window

  pub dot-land : (window : List ℕ) → dot s.result.strides (full_window s window) ≡ dot (land_steps s) window
  unfolding full_window land_steps window_dims
  dot-land window = dot-spread s.result.strides (rank s.result) (window_dims s) window (axes-others (rank s.result) s.spec.inserted-window-dims)

  -- THE PLACE that an update lands on
  pub land-place : (starts : List ℤ) → Axes (rank s.result) s.spec.scatter-dims-to-operand-dims → (b w : ℕ)
      → lands_at s starts b w
      ≡ s.result.offset +ℤ (start_sum s.result.strides s.result.extents (windows s) s.spec.scatter-dims-to-operand-dims (start_index s.indices s.spec.index-vector-dim starts (unravel (batch_shape s) b))
      +ℤ dot (land_steps s) (unravel (window_shape s) w))
  unfolding lands_at place_of result_index
  land-place starts q b w =
      let v : List ℕ = unravel (window_shape s) w in
      let at : ℕ → ℤ = start_index s.indices s.spec.index-vector-dim starts (unravel (batch_shape s) b) in
      let start : List ℤ = full_start s.result.extents (windows s) s.spec.scatter-dims-to-operand-dims at in
      ap (λ (z : ℤ). s.result.offset +ℤ z)
      (dot-plus s.result.strides start (full_window s v) (length-start s.result.extents (windows s) s.spec.scatter-dims-to-operand-dims at ∙ sym (length-window v))
      ∙ ap₂ ◌+ℤ◌ (dot-start s.result.strides s.result.extents (windows s) s.spec.scatter-dims-to-operand-dims at q) (dot-land v))
