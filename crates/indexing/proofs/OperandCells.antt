-- What one element holds after the operand's copy: the operand's value where a cell of the result names it, its own elsewhere; and the copy as a loop. For any rank and any element type. Assumes nothing.
use Rattle.std.specs.Prelude.{◌≡◌, ◌≢◌, List, ℕ, ◌<◌, length, get_or, ℤ, pos, ◌+ℤ◌}
use Rattle.std.proofs.Common.{sym, ◌∙◌, subst}
use Rattle.std.proofs.Math.Path.{ap}
use Rattle.indexing.specs.Coordinates.{View, product, unravel, place_of, element_at, store}
use Rattle.indexing.specs.Gather.{Read}
use Rattle.indexing.specs.Operand.{cell_place, operand_reads, operand_copied}
use Rattle.indexing.specs.Updates.{no_read}
use Rattle.indexing.proofs.Updates.{length-copy_each, copy-other, copy-last, length-tabulate, get_d_tabulate}
use Rattle.indexing.specs.Loops.{in_order}
use Rattle.indexing.proofs.Loops.{copy-loop}
use Rattle.indexing.specs.Odometer.{offset_at}
use Rattle.indexing.specs.Axes.{dot-ints}

-- the place as a walk has it
pub cell-offset : (v : View) (extents : List ℕ) (k : ℕ) → cell_place v extents k ≡ offset_at v.offset extents v.strides k
unfolding cell_place place_of offset_at
cell-offset v extents k = ap (λ (z : ℤ). v.offset +ℤ z) (dot-ints v.strides (unravel extents k))

module _ (operand result : View) where
  length-operand-reads : length (operand_reads operand result) ≡ product result.extents
  unfolding operand_reads
  length-operand-reads = length-tabulate (product result.extents) (λ k. (cell_place result result.extents k, cell_place operand result.extents k))

  operand-read-is : (k : ℕ) → k < product result.extents → get_or (operand_reads operand result) k no_read ≡ (cell_place result result.extents k, cell_place operand result.extents k)
  unfolding operand_reads
  operand-read-is k h = get_d_tabulate (product result.extents) (λ j. (cell_place result result.extents j, cell_place operand result.extents j)) k no_read h

  below : (k : ℕ) → k < length (operand_reads operand result) → k < product result.extents
  below k l = subst (λ (n : ℕ). k < n) length-operand-reads l

module _ {A : Type 0} (d : A) (operand result : View) (from into : List A) where
  -- as many elements
  pub length-copied : length (operand_copied d operand result from into) ≡ length into
  unfolding operand_copied
  length-copied = length-copy_each d (operand_reads operand result) from into

  -- "other elements keep their own"
  pub copied-stays : (i : ℕ) → ((k : ℕ) → k < product result.extents → cell_place result result.extents k ≢ pos i) → get_or (operand_copied d operand result from into) i d ≡ get_or into i d
  unfolding operand_copied
  copied-stays i h =
      copy-other d (operand_reads operand result) from into (pos i)
      (λ k l e. h k (below operand result k l) (ap (λ (r : Read). r.0) (sym (operand-read-is operand result k (below operand result k l))) ∙ e))

  -- A CELL holds the operand's element; where cells share an element, "the last one copied stays"
  pub copied-holds : (k i : ℕ) → k < product result.extents → cell_place result result.extents k ≡ pos i → i < length into
      → ((m : ℕ) → k < m → m < product result.extents → cell_place result result.extents m ≢ pos i)
      → get_or (operand_copied d operand result from into) i d ≡ element_at d from (cell_place operand result.extents k)
  unfolding operand_copied
  copied-holds k i h e w later =
      copy-last d (operand_reads operand result) from into k i (subst (λ (n : ℕ). k < n) (sym (length-operand-reads operand result)) h) (ap (λ (r : Read). r.0) (operand-read-is operand result k h) ∙ e) w
      (λ m p l q. let j = below operand result m l in later m p j (ap (λ (r : Read). r.0) (sym (operand-read-is operand result m j)) ∙ q))
      ∙ ap (λ (r : Read). element_at d from r.1) (operand-read-is operand result k h)

  -- for k = 0, 1, .. the operand's element of cell k is stored at the result's place of cell k
  pub copied-loop : operand_copied d operand result from into
      ≡ in_order (λ k into. store into (cell_place result result.extents k) (element_at d from (cell_place operand result.extents k))) (product result.extents) into
  unfolding operand_copied operand_reads
  copied-loop = copy-loop d (product result.extents) (cell_place result result.extents) (cell_place operand result.extents) from into
