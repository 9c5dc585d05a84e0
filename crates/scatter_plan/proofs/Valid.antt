-- A scatter that is not refused is valid, as far as places depend on it. Assumes nothing.
use Rattle.std.specs.Prelude.{Ok, Err}
use mathlib.Core.Path.{◌≡◌, refl, sym, ap, ◌∙◌}
use mathlib.Core.Bool.{Bool, true, false, cond, ◌&&◌}
use mathlib.Core.List.{List, [], ◌∷◌}
use Prim.Native.Nat.{ℕ, zero, suc, ◌<◌, ◌≤◌, zero-le}
use native.Mathlib.Omega.{arith}
use borrow.Author.Tests.{leb-true}
use lib.Dec.{eqb, leb}
use lib.ListN.{length, get_or}
use Rattle.indexing.specs.Coordinates.{rank, pick, others}
use Rattle.indexing.specs.Start.{without, components}
use Rattle.indexing.specs.Scatter.{Scatter, scatter_dims, window_dims, batch_shape, windows}
use Rattle.indexing.specs.Valid.{ValidScatter}
use Rattle.layout.specs.Answers.{is_done, Answer}
use Rattle.axis_lists.specs.Held.{same_list}
use Rattle.checks.specs.Checks.{components_of, windows_from}
use Rattle.checks.proofs.Made.{same_length}
use Rattle.equality.specs.Same.{same_by}
use Rattle.equality.proofs.Compare.{numbers-decide, lists-decide}
use Rattle.checks.proofs.Lists.{unique-axes}
use Rattle.checks.proofs.Fits.{same-count, vector-fits}
use Rattle.scatter_checks.specs.Refusals.{batch_refusal, refusal_of}
use Rattle.scatter_plan.proofs.Accepted.{passed}
use Rattle.layout.specs.declared.Refusal.TheVariants as F

-- the same entries one by one
lists-same : (xs ys : List ℕ) → same_list xs ys ≡ same_by eqb xs ys
unfolding same_list
lists-same [] [] = refl
lists-same [] (b ∷ ys) = refl
lists-same (a ∷ xs) [] = refl
lists-same (a ∷ xs) (b ∷ ys) = ap (λ (t : Bool). eqb a b && t) (lists-same xs ys)

batch-same : (ie ue window : List ℕ) (vector : ℕ) → is_done (batch_refusal ie ue window vector) ≡ true → pick 0 (others (length ue) window) ue ≡ without vector ie
batch-same ie ue window vector e = go (same_list (pick 0 (others (length ue) window) ue) (without vector ie)) refl e
  where
    go : (t : Bool) → same_list (pick 0 (others (length ue) window) ue) (without vector ie) ≡ t → is_done (cond t (Ok tt) (Err (F.ShapeMismatch (length ue) (length ue)))) ≡ true → pick 0 (others (length ue) window) ue ≡ without vector ie
    go true f h = (lists-decide eqb numbers-decide (pick 0 (others (length ue) window) ue) (without vector ie)).yes (sym (lists-same (pick 0 (others (length ue) window) ue) (without vector ie)) ∙ f)
    go false f h = let z : ◌≡◌ {A = ℕ} 0 1 = cc in absurd (omega arith)

-- no window is above its extent
windows-low : (n i : ℕ) (ds ws : List ℕ) → is_done (windows_from n i ds ws) ≡ true → (a : ℕ) → a < length ds → get_or ws a 0 ≤ get_or ds a 0
unfolding windows_from
windows-low n i [] ws e a h = absurd (omega arith)
windows-low n i (d ∷ ds) [] e a h = zero-le
windows-low n i (d ∷ ds) (w ∷ ws) e a h = go (leb w d) refl e a h (windows-low n (suc i) ds ws)
  where
    go : (t : Bool) → leb w d ≡ t → is_done (cond t (windows_from n (suc i) ds ws) (Err (F.InvalidAxis i n))) ≡ true → (a : ℕ) → a < suc (length ds) → (is_done (windows_from n (suc i) ds ws) ≡ true → (b : ℕ) → b < length ds → get_or ws b 0 ≤ get_or ds b 0) → get_or (w ∷ ws) a 0 ≤ get_or (d ∷ ds) a 0
    go true f g zero k ih = leb-true w d f
    go true f g (suc a) k ih = ih g a (omega arith)
    go false f g a k ih = let z : ◌≡◌ {A = ℕ} 0 1 = cc in absurd (omega arith)

-- A SCATTER THAT IS NOT REFUSED is valid, each fact by the check that gives it
pub valid : (four : Answer) (s : Scatter) → is_done (refusal_of four s) ≡ true → ValidScatter s
unfolding window_dims batch_shape scatter_dims components
valid four s done =
    let p = passed s four done in
    record {
      indices-strided = same_length (rank s.indices) (length s.indices.strides) p.index-length;
      updates-strided = same_length (rank s.updates) (length s.updates.strides) p.updates-length;
      result-strided = same_length (rank s.result) (length s.result.strides) p.dest-length;
      inserted = unique-axes (rank s.result) s.spec.inserted-window-dims p.inserted;
      mapped = unique-axes (rank s.result) s.spec.scatter-dims-to-operand-dims p.map;
      vector = vector-fits s.spec.index-vector-dim (rank s.indices) p.vector;
      counted = same-count (components_of s.indices.extents s.spec.index-vector-dim) (length s.spec.scatter-dims-to-operand-dims) p.components;
      window-count = same-count (length s.spec.update-window-dims) (length (others (rank s.result) s.spec.inserted-window-dims)) p.kept;
      window-axes = unique-axes (rank s.updates) s.spec.update-window-dims p.window;
      batch-shape = batch-same s.indices.extents s.updates.extents s.spec.update-window-dims s.spec.index-vector-dim p.batch;
      fits = windows-low (rank s.result) 0 s.result.extents (windows s) p.fits;
    }
