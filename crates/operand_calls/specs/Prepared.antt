-- What a call of a scatter with an operand has decided before it touches an element, and what it copies. Definitions only.
use Rattle.std.specs.Prelude.{◌≡◌, true, ℕ, List, ℤ, pos}
use Rattle.indexing.specs.Coordinates.{View}
use Rattle.indexing.specs.Scatter.{Scatter}
use Rattle.layout.specs.Answers.{is_done, Answer}
use Rattle.layout.specs.Layouts.{rank_limit, padded, layout_of}
use Rattle.layout.specs.Reach.{buffer_bounds}
use Rattle.calls.specs.Calls.{reach_in}
use Rattle.operand_checks.specs.Refusals.{sizes_of}
use Rattle.scatter_move.specs.Prepared as scatters
use Rattle.scatter_move.specs.declared.PreparedScatter.{PreparedScatter}
use Rattle.operand_calls.specs.declared.PreparedCopy.{PreparedCopy}

-- what is copied for an operand of these extents, strides and offset into a destination of these strides
abbrev pub copy_from : List ℕ → List ℤ → List ℤ → ℤ → PreparedCopy
copy_from es ss ds at = record { layout = layout_of es ss; strides = padded rank_limit (pos 0) ds; offset = at }

abbrev pub copy_of : View → Scatter → PreparedCopy
copy_of o s = copy_from o.extents o.strides s.result.strides o.offset

-- a scatter that is ready, and an operand of the same extents that passes the test of 9
pub record Ready (p : PreparedScatter) (o : View) (s : Scatter) (on sn un dn : ℕ) : Type 0 where
  pub scatter : scatters.Ready p s sn un dn
  pub sizes : is_done (sizes_of o s) ≡ true
  pub bounds : is_done (buffer_bounds 1 (reach_in o on)) ≡ true

-- WHAT PREPARE GIVES: the answer of the call, and where that is done scatter and operand, ready
pub record Prepares (p : PreparedScatter) (answer : Answer) (o : View) (s : Scatter) (on sn un dn : ℕ) : Type 0 where
  pub answered : p.answer ≡ answer
  pub ready : is_done answer ≡ true → Ready p o s on sn un dn

-- what the move asks: where the answer is done some operand and scatter are ready, and the copy is theirs
pub record Movable (p : PreparedScatter) (c : PreparedCopy) (on sn un dn : ℕ) : Type 0 where
  pub operand : View
  pub scatter : Scatter
  pub ready : is_done p.answer ≡ true → Ready p operand scatter on sn un dn
  pub copy : is_done p.answer ≡ true → c ≡ copy_of operand scatter
