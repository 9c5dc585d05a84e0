-- What a call of a scatter has decided before it touches an element. Definitions only.
use Rattle.std.specs.Prelude.{◌≡◌, true, List, [], ℕ, length, get_or, replicate, ℤ, pos, ◌*ℤ◌, Ok}
use Rattle.indexing.specs.Coordinates.{product, pick, tabulate}
use Rattle.indexing.specs.Scatter.{Scatter, batch_shape, windows}
use Rattle.indexing.specs.Steps.{vector_stride}
use Rattle.layout.specs.declared.Reach.TheVariants as R
use Rattle.layout.specs.Answers.{is_done, Answer}
use Rattle.layout.specs.Layouts.{rank_limit, padded}
use Rattle.replay.specs.Replays.{rows_of}
use Rattle.components.specs.Components.{limit_at, unless_none}
use Rattle.calls.specs.Calls.{reach_in, bounds_refusal}
use Rattle.scatter_checks.specs.Refusals.{batch_walk, window_walk, refusal_of}
use Rattle.scatter_move.specs.declared.ScatterNumbers.{ScatterNumbers}
use Rattle.scatter_move.specs.declared.PreparedScatter.{PreparedScatter}

-- number j of each row: 0 is the source step, 2 the destination step
abbrev pub steps_at : ℕ → List (List ℤ) → List ℤ
steps_at j rows = tabulate rank_limit (λ i. get_or (get_or rows i []) j (pos 0))

-- the rows of the two walks
abbrev pub batch_rows : Scatter → List (List ℤ)
batch_rows s = rows_of (batch_walk s).axes

abbrev pub window_rows : Scatter → List (List ℤ)
window_rows s = rows_of (window_walk s).axes

-- the numbers that the batches and the windows of a scatter are moved with
unfoldable pub scatter_numbers : Scatter → ScatterNumbers
scatter_numbers s =
    record {
      batch_rank = (batch_walk s).replay.rank;
      batches = product (batch_shape s);
      batch_extents = (batch_walk s).replay.extents;
      index_steps = unless_none (length s.spec.scatter-dims-to-operand-dims) (replicate rank_limit (pos 0)) (steps_at 0 (batch_rows s));
      update_steps = steps_at 2 (batch_rows s);
      window_rank = (window_walk s).replay.rank;
      window_extents = (window_walk s).replay.extents;
      window_steps = steps_at 0 (window_rows s);
      dest_steps = steps_at 2 (window_rows s);
      count = length s.spec.scatter-dims-to-operand-dims;
      offsets = padded rank_limit (pos 0) (tabulate (length s.spec.scatter-dims-to-operand-dims) (λ c. vector_stride s.indices s.spec.index-vector-dim *ℤ pos c));
      strides = padded rank_limit (pos 0) (pick (pos 0) s.spec.scatter-dims-to-operand-dims s.result.strides);
      limits = tabulate rank_limit (limit_at s.result.extents (windows s) s.spec.scatter-dims-to-operand-dims);
    }

-- where the starts are read from
abbrev pub start_base : Scatter → ℤ
start_base s = unless_none (length s.spec.scatter-dims-to-operand-dims) (pos 0) s.indices.offset

-- a scatter that is accepted and passes the test of 9, with its numbers and where its views begin
pub record Ready (p : PreparedScatter) (s : Scatter) (sn un dn : ℕ) : Type 0 where
  pub accepted : is_done (refusal_of (Ok tt) s) ≡ true
  pub bounds : is_done (bounds_refusal s.indices s.updates s.result sn un dn) ≡ true
  pub reach : p.reach ≡ reach_in s.result dn
  pub numbers : p.numbers ≡ scatter_numbers s
  pub batch-axes : p.batch_axes ≡ (batch_walk s).axes
  pub index : p.index ≡ start_base s
  pub updates : p.updates ≡ s.updates.offset
  pub dest : p.dest ≡ s.result.offset

-- WHAT PREPARE GIVES: the answer of the call, and where that is done the scatter, ready
pub record Prepares (p : PreparedScatter) (answer : Answer) (s : Scatter) (sn un dn : ℕ) : Type 0 where
  pub answered : p.answer ≡ answer
  pub ready : is_done answer ≡ true → Ready p s sn un dn

-- what the move asks: some scatter is ready where the answer is done
pub record Movable (p : PreparedScatter) (sn un dn : ℕ) : Type 0 where
  pub scatter : Scatter
  pub ready : is_done p.answer ≡ true → Ready p scatter sn un dn

-- one whose destination has cells from low to high
pub record Cells (p : PreparedScatter) (low high sn un dn : ℕ) : Type 0 where
  pub scatter : Scatter
  pub ready : Ready p scatter sn un dn
  pub cells : p.reach ≡ R.Cells low high
