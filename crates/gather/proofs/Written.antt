-- A number of each of a plan's axes. Assumes nothing.
use mathlib.Core.Path.{◌≡◌, sym, ◌∙◌}
use mathlib.Core.List.{List}
use Prim.Native.Nat.{ℕ, ◌<◌}
use native.Mathlib.Omega.{arith}
use lib.ListN.{length, get_or}
use lib.Seq.{ext_get_or}
use lib.IntN.{ℤ, pos}
use Rattle.indexing.specs.Coordinates.{tabulate}
use Rattle.indexing.proofs.Updates.{length-tabulate, get_d_tabulate}
use Rattle.layout.specs.Layouts.{rank_limit}
use Rattle.gather_plan.specs.declared.GatherReplayAxis.{GatherReplayAxis}
use Rattle.gather_plan.specs.Plan.{no_axis}

pub axes-mapped : (axes : List GatherReplayAxis) (f : GatherReplayAxis → ℤ) (out : List ℤ) → length out ≡ rank_limit → ((i : ℕ) → i < rank_limit → get_or out i (pos 0) ≡ f (get_or axes i no_axis)) → out ≡ tabulate rank_limit (λ a. f (get_or axes a no_axis))
axes-mapped axes f out k each =
    let g : ℕ → ℤ = λ a. f (get_or axes a no_axis) in
    ext_get_or (pos 0) out (tabulate rank_limit g) (k ∙ sym (length-tabulate rank_limit g)) (λ i h. each i (omega (arith, k)) ∙ sym (get_d_tabulate rank_limit g i (pos 0) (omega (arith, k))))
