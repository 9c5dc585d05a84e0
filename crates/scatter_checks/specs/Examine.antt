-- What is found of a scatter: its first refusal, and where there is none its two walks. Definitions only.
use Rattle.std.specs.Prelude.{◌≡◌, true, List, [], ◌∷◌, ℕ, ◌≤◌, length, Ok}
use Rattle.indexing.specs.Coordinates.{rank, others}
use Rattle.indexing.specs.Start.{without}
use Rattle.indexing.specs.Scatter.{Scatter, scatter_dims, window_dims, batch_shape}
use Rattle.layout.specs.Answers.{is_done, Answer}
use Rattle.layout.specs.Layouts.{rank_limit}
use Rattle.replay.specs.declared.CompiledReplay.{CompiledReplay}
use Rattle.scatter_checks.specs.declared.Examined.{Examined}
use Rattle.scatter_checks.specs.Refusals.{sizes_refusal, batch_walk, window_walk, walks_refusal, refusal_of}

-- layouts that neither 1 nor 2 refuses
pub record Fitting (s : Scatter) : Type 0 where
  pub index : length s.indices.strides ≡ rank s.indices
  pub updates : length s.updates.strides ≡ rank s.updates
  pub dest : length s.result.strides ≡ rank s.result
  pub index-few : rank s.indices ≤ rank_limit
  pub updates-few : rank s.updates ≤ rank_limit
  pub dest-few : rank s.result ≤ rank_limit

-- a scatter whose sizes are not refused, and the axes that its spec does not list: of the destination those that are not inserted, of
-- the updates those of the batches, of the index view all but the vector axis
pub record Listed (s : Scatter) (keep batch start : List ℕ) : Type 0 where
  pub sizes : is_done (sizes_refusal s.indices.extents s.indices.strides s.updates.extents s.updates.strides s.result.extents s.result.strides) ≡ true
  pub kept : keep ≡ window_dims s
  pub batches : batch ≡ scatter_dims s
  pub starts : start ≡ others (rank s.indices) (s.spec.index-vector-dim ∷ [])

-- what the walks need of the counts; it holds where nothing before them refuses
pub record Counted (s : Scatter) : Type 0 where
  pub batch : length (without s.spec.index-vector-dim s.indices.strides) ≡ length (batch_shape s)
  pub window : length s.spec.update-window-dims ≡ length (window_dims s)

pub record Walkable (s : Scatter) (keep batch start : List ℕ) : Type 0 where
  pub listed : Listed s keep batch start
  pub counted : Counted s

-- the windows, products, walks and component offsets, with the walks themselves
unfoldable pub walks_of : Scatter → Examined
walks_of s = record { answer = walks_refusal s; batch = batch_walk s; window = window_walk s }

-- a scatter that is not refused, with its walks from batch to batch and from cell to cell of a window
pub record Found (s : Scatter) (batch window : CompiledReplay) : Type 0 where
  pub accepted : is_done (refusal_of (Ok tt) s) ≡ true
  pub batch-is : batch ≡ batch_walk s
  pub window-is : window ≡ window_walk s

-- WHAT IS FOUND OF A SCATTER: its first refusal, and where there is none the walks
pub record Examines (r : Examined) (four : Answer) (s : Scatter) : Type 0 where
  pub answered : r.answer ≡ refusal_of four s
  pub found : is_done r.answer ≡ true → Found s r.batch r.window
