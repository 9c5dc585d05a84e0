-- What one element holds after a scatter with an operand: "the old value of each cell that the destination names now means the chart's value, for every claim about one ship's run; other elements
-- keep their own". For any rank; by any rule and of any elements, and of f64 by Add. Assumes nothing.
use Rattle.std.specs.Prelude.{◌≡◌, ◌≢◌, true, List, ℕ, ◌+◌, ◌<◌, ◌≤◌, ◌^◌, length, get_or, ℤ, pos, nat_abs, ◌+ℤ◌, Float}
use Rattle.std.proofs.Common.{sym, subst, ◌∙◌, arith}
use Rattle.std.proofs.Math.Path.{ap}
use Rattle.std.specs.Float.{nan}
use Rattle.indexing.specs.Coordinates.{View, product, unravel, ints, place_of, element_at}
use Rattle.indexing.specs.Scatter.{Scatter, batch_shape, window_shape, result_index, lands_at, placed_updates, landing, scattered, scattered_f64}
use Rattle.indexing.specs.Operand.{cell_place, operand_copied}
use Rattle.indexing.proofs.OperandCells.{length-copied, copied-stays}
use Rattle.indexing.specs.Linear.{ravel}
use Rattle.indexing.proofs.Linear.{unravel-ravel, ravel-below}
use Rattle.indexing.specs.Updates.{in_turn}
use Rattle.indexing.specs.Valid.{ValidScatter}
use Rattle.indexing.proofs.Inside.{inside-within}
use Rattle.indexing.proofs.Bounds.{land-inside}
use Rattle.indexing.proofs.Demand3.{each-by, stays}
use Rattle.indexing.specs.Sums.{total}
use Rattle.indexing.specs.Whole.{Whole, Wholes, sizes}
use Rattle.indexing.proofs.Exact.{exact-f64}
use Rattle.layout.specs.Nested.{nested}
use Rattle.fused_axes.specs.Cells.{nested-cell}

-- ---- an update lands on a cell that the result names
module _ (s : Scatter) (valid : ValidScatter s) where
  pub lands-on-cell : (starts : List ℤ) (b w : ℕ) → w < product (window_shape s) → (k : ℕ) × (k < product s.result.extents) × (lands_at s starts b w ≡ cell_place s.result s.result.extents k)
  unfolding lands_at cell_place
  lands-on-cell starts b w h =
      let r = inside-within s.result.extents (result_index s starts (unravel (batch_shape s) b) (unravel (window_shape s) w)) (land-inside s valid starts b w h) in
      (ravel s.result.extents r.0, ravel-below s.result.extents r.0 r.2, ap (place_of s.result) (r.1 ∙ ap ints (sym (unravel-ravel s.result.extents r.0 r.2))))

-- ---- one element
module _ {A : Type 0} (rule : A → A → A) (z : A) (o : View) (s : Scatter) (starts : List ℤ) (from updates into : List A) where
  abbrev copied : List A
  copied = operand_copied z o s.result from into

  -- the operand's value for cell k
  abbrev pub old : ℕ → A
  old k = element_at z from (cell_place o s.result.extents k)

  -- EACH CELL that a nested destination names: the operand's value and then each update that lands on it, in order
  pub cell-on : length s.result.strides ≡ length s.result.extents → nested s.result.extents s.result.strides ≡ true → (k i : ℕ) → k < product s.result.extents
      → cell_place s.result s.result.extents k ≡ pos i → i < length into → get_or (scattered rule z s starts updates copied) i z ≡ in_turn rule (old k) (landing (pos i) (placed_updates z s starts updates))
  cell-on l n k i h at room =
      each-by rule z s starts updates copied i (omega (arith, room, length-copied z o s.result from into))
      ∙ ap (λ (x : A). in_turn rule x (landing (pos i) (placed_updates z s starts updates))) (nested-cell z o s.result from into k i h at room l n)

  -- EVERY OTHER ELEMENT keeps its own
  pub other-on : ValidScatter s → (i : ℕ) → ((k : ℕ) → k < product s.result.extents → cell_place s.result s.result.extents k ≢ pos i) → get_or (scattered rule z s starts updates copied) i z ≡ get_or into i z
  unfolding scattered
  other-on valid i none =
      stays rule z s starts updates copied i (λ b w hb hw e. let r = lands-on-cell s valid starts b w hw in none r.0 r.1 (sym r.2 ∙ e))
      ∙ copied-stays z o s.result from into i none

-- ---- f64 by Add: "if a cell's old value and all updates landing on it are whole numbers whose magnitudes total at most 2^53, the cell holds their exact sum", the old value being the operand's
pub exact-on : (o : View) (s : Scatter) (starts : List ℤ) (from updates into : List Float) → length s.result.strides ≡ length s.result.extents → nested s.result.extents s.result.strides ≡ true
    → (k i : ℕ) → k < product s.result.extents → cell_place s.result s.result.extents k ≡ pos i → i < length into
    → (x : ℤ) (ws : List ℤ) → Whole (element_at nan from (cell_place o s.result.extents k)) x → Wholes (landing (pos i) (placed_updates nan s starts updates)) ws → nat_abs x + sizes ws ≤ 2 ^ 53
    → Whole (get_or (scattered_f64 s starts updates (operand_copied nan o s.result from into)) i nan) (x +ℤ total ws)
exact-on o s starts from updates into l n k i h at room x ws p q b =
    exact-f64 s starts updates (operand_copied nan o s.result from into) i (omega (arith, room, length-copied nan o s.result from into)) x ws
    (subst (λ (f : Float). Whole f x) (sym (nested-cell nan o s.result from into k i h at room l n)) p) q b
