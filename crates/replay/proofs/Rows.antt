-- A number or a row of each axis; and axes by their extents and rows are those axes. Assumes nothing.
use Rattle.std.specs.Prelude.{map}
use mathlib.Core.Path.{◌≡◌, sym, ◌∙◌}
use mathlib.Core.List.{List, []}
use Prim.Native.Nat.{ℕ, ◌<◌}
use native.Mathlib.Omega.{arith}
use lib.ListN.{length, get_or, length-map, get_or-map}
use lib.Seq.{ext_get_or}
use lib.IntN.{ℤ, pos}
use Rattle.indexing.proofs.Updates.{length-tabulate, get_d_tabulate}
use Rattle.indexing.specs.Axes.{get_d_any}
use Rattle.layout.specs.Layouts.{rank_limit}
use Rattle.replay.specs.declared.WindowReplayAxis.{WindowReplayAxis}
use Rattle.replay.specs.Replays.{the_axis, no_axis, extents, row_of, rows_of, axes_from}

-- what an array's `map` gives
pub mapped : {A B : Type 0} (f : A → B) (xs : List A) (ys : List B) (d : A) (e : B) → length xs ≡ rank_limit → length ys ≡ rank_limit → ((i : ℕ) → i < rank_limit → get_or ys i e ≡ f (get_or xs i d)) → ys ≡ map f xs
mapped f xs ys d e l m h =
    ext_get_or e ys (map f xs) (m ∙ sym (length-map xs f ∙ l)) (λ i k. h i (omega (arith, m)) ∙ sym (get_or-map f xs i d) ∙ get_d_any (map f xs) i (f d) e (omega (arith, l, m, length-map xs f)))

-- axis i of these extents and rows
abbrev pub axis_at : List ℕ → List (List ℤ) → ℕ → WindowReplayAxis
axis_at es rows i = the_axis (get_or es i 0) (get_or (get_or rows i []) 0 (pos 0)) (get_or (get_or rows i []) 1 (pos 0)) (get_or (get_or rows i []) 2 (pos 0)) (get_or (get_or rows i []) 3 (pos 0))

pub axes-back : (l : List WindowReplayAxis) → length l ≡ rank_limit → axes_from (extents l) (rows_of l) ≡ l
axes-back l full =
    let n : length (axes_from (extents l) (rows_of l)) ≡ rank_limit = length-tabulate rank_limit (axis_at (extents l) (rows_of l)) in
    ext_get_or no_axis (axes_from (extents l) (rows_of l)) l (n ∙ sym full) (λ i h. get_d_tabulate rank_limit (axis_at (extents l) (rows_of l)) i no_axis (omega (arith, n)) ∙ axis-at i (omega (arith, n, full)))
  where
    axis-at : (i : ℕ) → i < length l → axis_at (extents l) (rows_of l) i ≡ get_or l i no_axis
    axis-at i h =
        let e : get_or (extents l) i 0 ≡ (get_or l i no_axis).extent =
        get_d_any (extents l) i 0 1 (omega (arith, length-map l (λ (a : WindowReplayAxis). a.extent))) ∙ get_or-map (λ (a : WindowReplayAxis). a.extent) l i no_axis in
        let r : get_or (rows_of l) i [] ≡ row_of (get_or l i no_axis) =
        get_d_any (rows_of l) i [] (row_of no_axis) (omega (arith, length-map l row_of)) ∙ get_or-map row_of l i no_axis in
        λ ι. the_axis (e ι) (get_or (r ι) 0 (pos 0)) (get_or (r ι) 1 (pos 0)) (get_or (r ι) 2 (pos 0)) (get_or (r ι) 3 (pos 0))
