-- Tests for the same walks, rows and plans, and that they decide. Assumes nothing.
use mathlib.Core.Path.{◌≡◌, refl}
use mathlib.Core.Bool.{◌&&◌}
use mathlib.Core.List.{List}
use Prim.Native.Nat.{ℕ}
use lib.Dec.{eqb}
use lib.IntN.{ℤ}
use Rattle.integer.specs.Defs.{eq_z}
use Rattle.layout.specs.declared.Layout.{Layout}
use Rattle.axis_lists.specs.Held.{Numbers, Steps, Decides}
use Rattle.equality.specs.Same.{same_by, same_numbers}
use Rattle.equality.proofs.Compare.{int-eq, layout-eq, steps-eq, pairs_decide, whole-decides, numbers-decide, ints-decide, lists-decide, layouts-decide, held-decide, steps-decide}
use Rattle.replay.specs.declared.ReplaySpans.{ReplaySpans}
use Rattle.replay.specs.declared.WindowReplay.{WindowReplay}
use Rattle.scatter_plan.specs.declared.ScatterPlan.{ScatterPlan}
use Rattle.scatter_same.specs.Same.{same_spans, same_replay, same_plan, same_rows}
use Rattle.std.specs.Ordering.{int_eq}
use Rattle.replay.specs.contracts.ReplaySpansPartialEq.TheImpl as S
use Rattle.replay.specs.contracts.WindowReplayPartialEq.TheImpl as W
use Rattle.scatter_plan.specs.contracts.ScatterPlanPartialEq.TheImpl as P

abbrev SpanParts : Type 0
SpanParts = ℤ × (ℤ × (ℤ × ℤ))

spans-decide : (a b : ReplaySpans) → Decides (same_spans a b) a b
unfolding same_spans
spans-decide a b =
    whole-decides {T = SpanParts} (λ (x : ReplaySpans). (x.source_low, (x.source_high, (x.dest_low, x.dest_high))))
    (λ (t : SpanParts). record { source_low = t.0; source_high = t.1.0; dest_low = t.1.1.0; dest_high = t.1.1.1 })
    (λ x. refl) (same_spans a b) a b
    (pairs_decide (ints-decide a.source_low b.source_low) (pairs_decide (ints-decide a.source_high b.source_high)
    (pairs_decide (ints-decide a.dest_low b.dest_low) (ints-decide a.dest_high b.dest_high))))

abbrev ReplayParts : Type 0
ReplayParts = ℕ × (List ℕ × ReplaySpans)

pub replays-decide : (a b : WindowReplay) → Decides (same_replay a b) a b
unfolding same_replay
replays-decide a b =
    whole-decides {T = ReplayParts} (λ (x : WindowReplay). (x.rank, (x.extents, x.spans))) (λ (t : ReplayParts). record { rank = t.0; extents = t.1.0; spans = t.1.1 })
    (λ x. refl) (same_replay a b) a b
    (pairs_decide (numbers-decide a.rank b.rank) (pairs_decide (lists-decide eqb numbers-decide a.extents b.extents) (spans-decide a.spans b.spans)))

pub rows-decide : (a b : List (List ℤ)) → Decides (same_rows a b) a b
rows-decide = lists-decide (same_by eq_z) (lists-decide eq_z ints-decide)

-- what `==` computes of two plans, and of the rows of two walks
spans-eq : (a b : ReplaySpans) → S.eq-value.it a b ≡ same_spans a b
unfolding same_spans
spans-eq a b = λ i. int-eq i a.source_low b.source_low && (int-eq i a.source_high b.source_high && (int-eq i a.dest_low b.dest_low && int-eq i a.dest_high b.dest_high))

replay-eq : (a b : WindowReplay) → W.eq-value.it a b ≡ same_replay a b
unfolding same_replay
replay-eq a b = λ i. eqb a.rank b.rank && (same_by eqb a.extents b.extents && spans-eq a.spans b.spans i)

pub plan-eq : (a b : ScatterPlan) → P.eq-value.it a b ≡ same_plan a b
unfolding same_plan
plan-eq a b =
    λ i. layout-eq a.index b.index i && (layout-eq a.updates b.updates i && (layout-eq a.dest b.dest i
    && (same_numbers a.update_window_dims b.update_window_dims
    && (same_numbers a.inserted_window_dims b.inserted_window_dims
    && (same_numbers a.scatter_dims_to_operand_dims b.scatter_dims_to_operand_dims
    && (eqb a.index_vector_dim b.index_vector_dim
    && (replay-eq a.batch b.batch i && (replay-eq a.window b.window i
    && (same_numbers a.window_shape b.window_shape
    && (steps-eq a.index_component_offsets b.index_component_offsets i
    && (steps-eq a.index_operand_strides b.index_operand_strides i
    && (eqb a.batch_elems b.batch_elems && eqb a.window_elems b.window_elems))))))))))))

pub rows-eq : (a b : List (List ℤ)) → same_by (same_by int_eq) a b ≡ same_rows a b
rows-eq a b = λ i. same_by (same_by (int-eq i)) a b

abbrev Parts : Type 0
Parts = Layout × (Layout × (Layout × (Numbers × (Numbers × (Numbers × (ℕ × (WindowReplay × (WindowReplay × (Numbers × (Steps × (Steps × (ℕ × ℕ))))))))))))

parts-of : ScatterPlan → Parts
parts-of p =
    (p.index, (p.updates, (p.dest, (p.update_window_dims, (p.inserted_window_dims, (p.scatter_dims_to_operand_dims, (p.index_vector_dim, (p.batch, (p.window, (p.window_shape, (p.index_component_offsets, (p.index_operand_strides, (p.batch_elems, p.window_elems)))))))))))))

plan-by : Parts → ScatterPlan
plan-by t =
    record {
      index = t.0;
      updates = t.1.0;
      dest = t.1.1.0;
      update_window_dims = t.1.1.1.0;
      inserted_window_dims = t.1.1.1.1.0;
      scatter_dims_to_operand_dims = t.1.1.1.1.1.0;
      index_vector_dim = t.1.1.1.1.1.1.0;
      batch = t.1.1.1.1.1.1.1.0;
      window = t.1.1.1.1.1.1.1.1.0;
      window_shape = t.1.1.1.1.1.1.1.1.1.0;
      index_component_offsets = t.1.1.1.1.1.1.1.1.1.1.0;
      index_operand_strides = t.1.1.1.1.1.1.1.1.1.1.1.0;
      batch_elems = t.1.1.1.1.1.1.1.1.1.1.1.1.0;
      window_elems = t.1.1.1.1.1.1.1.1.1.1.1.1.1;
    }

-- THE TEST decides whether two plans are the same
pub same-plan-decides : (a b : ScatterPlan) → Decides (same_plan a b) a b
unfolding same_plan parts-of plan-by
same-plan-decides a b =
    whole-decides parts-of plan-by (λ x. refl) (same_plan a b) a b
    (pairs_decide (layouts-decide a.index b.index) (pairs_decide (layouts-decide a.updates b.updates) (pairs_decide (layouts-decide a.dest b.dest)
    (pairs_decide (held-decide a.update_window_dims b.update_window_dims)
    (pairs_decide (held-decide a.inserted_window_dims b.inserted_window_dims)
    (pairs_decide (held-decide a.scatter_dims_to_operand_dims b.scatter_dims_to_operand_dims)
    (pairs_decide (numbers-decide a.index_vector_dim b.index_vector_dim)
    (pairs_decide (replays-decide a.batch b.batch) (pairs_decide (replays-decide a.window b.window)
    (pairs_decide (held-decide a.window_shape b.window_shape)
    (pairs_decide (steps-decide a.index_component_offsets b.index_component_offsets)
    (pairs_decide (steps-decide a.index_operand_strides b.index_operand_strides)
    (pairs_decide (numbers-decide a.batch_elems b.batch_elems) (numbers-decide a.window_elems b.window_elems))))))))))))))
