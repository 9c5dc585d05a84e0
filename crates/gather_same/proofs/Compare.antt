-- Tests for the same axes and plans, and that they decide. Assumes nothing.
use mathlib.Core.Bool.{◌&&◌}
use mathlib.Core.Path.{◌≡◌, refl, ap}
use Prim.Native.Nat.{ℕ}
use native.Mathlib.Omega.{arith}
use borrow.Author.Tests.{eqb-true, eq-eqb}
use lib.Dec.{eqb}
use Rattle.layout.specs.declared.Layout.{Layout}
use Rattle.axis_lists.specs.Held.{Numbers, Steps, Decides}
use lib.IntN.{ℤ}
use mathlib.Core.List.{List}
use Rattle.equality.specs.Same.{same_by, same_numbers}
use Rattle.equality.proofs.Compare.{int-eq, layout-eq, steps-eq, pairs_decide, whole-decides, numbers-decide, ints-decide, lists-decide, layouts-decide, held-decide, steps-decide}
use Rattle.gather_plan.specs.declared.Role.{Role}
use Rattle.gather_plan.specs.declared.Role.TheVariants.{Batch, Window}
use Rattle.gather_plan.specs.declared.GatherReplayAxis.{GatherReplayAxis}
use Rattle.gather_plan.specs.declared.GatherPlan.{GatherPlan}
use Rattle.gather_plan.specs.contracts.RolePartialEq.TheImpl as R
use Rattle.gather_plan.specs.contracts.GatherReplayAxisPartialEq.TheImpl as X
use Rattle.gather_plan.specs.contracts.GatherPlanPartialEq.TheImpl as P
use Rattle.gather_same.specs.Same.{same_role, same_axis, same_plan}

shown_by : ℕ → Role → ℕ
shown_by d Batch = d
shown_by d (Window x) = x

roles-decide : (a b : Role) → Decides (same_role a b) a b
unfolding shown_by
roles-decide Batch Batch = record { yes = λ e. refl; no = λ e. refl }
roles-decide Batch (Window y) = record { yes = λ e. let z : ◌≡◌ {A = ℕ} 0 1 = cc in absurd (omega arith); no = λ e. let z : ◌≡◌ {A = ℕ} 0 1 = cc in absurd (omega arith) }
roles-decide (Window x) Batch = record { yes = λ e. let z : ◌≡◌ {A = ℕ} 0 1 = cc in absurd (omega arith); no = λ e. let z : ◌≡◌ {A = ℕ} 0 1 = cc in absurd (omega arith) }
roles-decide (Window x) (Window y) = record { yes = λ e. ap Window (eqb-true x y e); no = λ e. eq-eqb x y (ap (shown_by 0) e) }

abbrev AxisParts : Type 0
AxisParts = Role × (ℤ × (ℤ × (ℤ × (ℤ × (ℤ × ℤ)))))

axes-decide : (a b : GatherReplayAxis) → Decides (same_axis a b) a b
unfolding same_axis
axes-decide a b =
    whole-decides {T = AxisParts} (λ (x : GatherReplayAxis). (x.role, (x.dest_step, (x.dest_reset, (x.window_step, (x.window_reset, (x.index_batch_step, x.index_batch_reset)))))))
    (λ (t : AxisParts). record { role = t.0; dest_step = t.1.0; dest_reset = t.1.1.0; window_step = t.1.1.1.0; window_reset = t.1.1.1.1.0; index_batch_step = t.1.1.1.1.1.0; index_batch_reset = t.1.1.1.1.1.1 })
    (λ x. refl) (same_axis a b) a b
    (pairs_decide (roles-decide a.role b.role)
    (pairs_decide (ints-decide a.dest_step b.dest_step) (pairs_decide (ints-decide a.dest_reset b.dest_reset)
    (pairs_decide (ints-decide a.window_step b.window_step) (pairs_decide (ints-decide a.window_reset b.window_reset)
    (pairs_decide (ints-decide a.index_batch_step b.index_batch_step) (ints-decide a.index_batch_reset b.index_batch_reset)))))))

-- what `==` computes of two plans
role-eq : (a b : Role) → R.eq-value.it a b ≡ same_role a b
role-eq Batch Batch = refl
role-eq Batch (Window y) = refl
role-eq (Window x) Batch = refl
role-eq (Window x) (Window y) = refl

axis-eq : (a b : GatherReplayAxis) → X.eq-value.it a b ≡ same_axis a b
unfolding same_axis
axis-eq a b =
    λ i. role-eq a.role b.role i
    && (int-eq i a.dest_step b.dest_step && (int-eq i a.dest_reset b.dest_reset
    && (int-eq i a.window_step b.window_step && (int-eq i a.window_reset b.window_reset
    && (int-eq i a.index_batch_step b.index_batch_step && int-eq i a.index_batch_reset b.index_batch_reset)))))

pub plan-eq : (a b : GatherPlan) → P.eq-value.it a b ≡ same_plan a b
unfolding same_plan
plan-eq a b =
    λ i. layout-eq a.operand b.operand i && (layout-eq a.index b.index i && (layout-eq a.dest b.dest i
    && (same_numbers a.offset_dims b.offset_dims
    && (same_numbers a.collapsed_slice_dims b.collapsed_slice_dims
    && (same_numbers a.start_index_map b.start_index_map
    && (eqb a.index_vector_dim b.index_vector_dim && (same_numbers a.slice_sizes b.slice_sizes
    && (same_by (λ x y. axis-eq x y i) a.axes b.axes
    && (steps-eq a.index_component_offsets b.index_component_offsets i
    && (steps-eq a.index_operand_strides b.index_operand_strides i && eqb a.total b.total))))))))))

abbrev Parts : Type 0
Parts = Layout × (Layout × (Layout × (Numbers × (Numbers × (Numbers × (ℕ × (Numbers × (List GatherReplayAxis × (Steps × (Steps × ℕ))))))))))

parts-of : GatherPlan → Parts
parts-of p =
    (p.operand, (p.index, (p.dest, (p.offset_dims, (p.collapsed_slice_dims, (p.start_index_map, (p.index_vector_dim, (p.slice_sizes, (p.axes, (p.index_component_offsets, (p.index_operand_strides, p.total)))))))))))

plan-by : Parts → GatherPlan
plan-by t =
    record {
      operand = t.0;
      index = t.1.0;
      dest = t.1.1.0;
      offset_dims = t.1.1.1.0;
      collapsed_slice_dims = t.1.1.1.1.0;
      start_index_map = t.1.1.1.1.1.0;
      index_vector_dim = t.1.1.1.1.1.1.0;
      slice_sizes = t.1.1.1.1.1.1.1.0;
      axes = t.1.1.1.1.1.1.1.1.0;
      index_component_offsets = t.1.1.1.1.1.1.1.1.1.0;
      index_operand_strides = t.1.1.1.1.1.1.1.1.1.1.0;
      total = t.1.1.1.1.1.1.1.1.1.1.1;
    }

-- THE TEST decides whether two plans are the same
pub same-plan-decides : (a b : GatherPlan) → Decides (same_plan a b) a b
unfolding same_plan parts-of plan-by
same-plan-decides a b =
    whole-decides parts-of plan-by (λ x. refl) (same_plan a b) a b
    (pairs_decide (layouts-decide a.operand b.operand) (pairs_decide (layouts-decide a.index b.index) (pairs_decide (layouts-decide a.dest b.dest)
    (pairs_decide (held-decide a.offset_dims b.offset_dims)
    (pairs_decide (held-decide a.collapsed_slice_dims b.collapsed_slice_dims)
    (pairs_decide (held-decide a.start_index_map b.start_index_map)
    (pairs_decide (numbers-decide a.index_vector_dim b.index_vector_dim) (pairs_decide (held-decide a.slice_sizes b.slice_sizes)
    (pairs_decide (lists-decide same_axis axes-decide a.axes b.axes)
    (pairs_decide (steps-decide a.index_component_offsets b.index_component_offsets)
    (pairs_decide (steps-decide a.index_operand_strides b.index_operand_strides) (numbers-decide a.total b.total))))))))))))
