-- Gather and scatter as loops: what they leave is what stands after the last turn, and each turn stores one element. Assumes nothing.
use Rattle.std.specs.Prelude.{◌≡◌, List, ℕ, zero, suc, ℤ}
use Rattle.std.proofs.Math.Path.{refl}
use Rattle.std.proofs.Common.{sym, ap, ◌∙◌}
use Rattle.indexing.specs.Coordinates.{product, element_at, store, tabulate}
use Rattle.indexing.specs.Gather.{Gather, cells, read_at, write_at, reads, copy_each, gathered}
use Rattle.indexing.specs.Scatter.{Scatter, Update, batch_shape, window_shape, update_at, lands_at, joined, placed_updates, combined}
use Rattle.indexing.proofs.Updates.{combined-append}
use Rattle.indexing.specs.Loops.{in_order}

in_order-first : {C : Type 0} (turn : ℕ → C → C) (n : ℕ) (x : C) → in_order turn (suc n) x ≡ in_order (λ k. turn (suc k)) n (turn 0 x)
unfolding in_order
in_order-first turn zero x = refl
in_order-first turn (suc n) x = ap (turn (suc n)) (in_order-first turn n x)

-- turns that do the same
pub in_order-same : {C : Type 0} (turn turn' : ℕ → C → C) (n : ℕ) (x : C) → ((k : ℕ) (y : C) → turn k y ≡ turn' k y) → in_order turn n x ≡ in_order turn' n x
unfolding in_order
in_order-same turn turn' zero x e = refl
in_order-same turn turn' (suc n) x e = ap (turn n) (in_order-same turn turn' n x e) ∙ e n (in_order turn' n x)

pub copy-loop : {A : Type 0} (d : A) (n : ℕ) (write read : ℕ → ℤ) (from into : List A)
    → copy_each d (tabulate n (λ k. (write k, read k))) from into ≡ in_order (λ k into. store into (write k) (element_at d from (read k))) n into
unfolding copy_each tabulate
copy-loop d zero write read from into = unfold in_order in refl
copy-loop {A} d (suc n) write read from into =
    copy-loop d n (λ k. write (suc k)) (λ k. read (suc k)) from (store into (write 0) (element_at d from (read 0)))
    ∙ sym (in_order-first (λ k into. store into (write k) (element_at d from (read k))) n into)

combine-loop : {A : Type 0} (rule : A → A → A) (d : A) (n : ℕ) (f : ℕ → Update A) (held : List A)
    → combined rule d (tabulate n f) held ≡ in_order (λ k held. store held (f k).0 (rule (element_at d held (f k).0) (f k).1)) n held
unfolding combined tabulate
combine-loop rule d zero f held = unfold in_order in refl
combine-loop rule d (suc n) f held =
    combine-loop rule d n (λ k. f (suc k)) (store held (f 0).0 (rule (element_at d held (f 0).0) (f 0).1))
    ∙ sym (in_order-first (λ k held. store held (f k).0 (rule (element_at d held (f k).0) (f k).1)) n held)

combine-rows : {A : Type 0} (rule : A → A → A) (d : A) (n : ℕ) (row : ℕ → List (Update A)) (held : List A) → combined rule d (joined (tabulate n row)) held ≡ in_order (λ b held. combined rule d (row b) held) n held
unfolding joined tabulate
combine-rows rule d zero row held = unfold in_order combined in refl
combine-rows rule d (suc n) row held =
    combined-append rule d (row 0) (joined (tabulate n (λ b. row (suc b)))) held
    ∙ combine-rows rule d n (λ b. row (suc b)) (combined rule d (row 0) held)
    ∙ sym (in_order-first (λ b held. combined rule d (row b) held) n held)

-- A GATHER: for k = 0, 1, .. the element at the place that cell k is read from is stored at the place that it is written to
pub gathered-loop : {A : Type 0} (d : A) (g : Gather) (starts : List ℤ) (operand into : List A)
    → gathered d g starts operand into ≡ in_order (λ k into. store into (write_at g k) (element_at d operand (read_at g starts k))) (cells g) into
unfolding gathered reads
gathered-loop d g starts operand into = copy-loop d (cells g) (write_at g) (read_at g starts) operand into

-- A SCATTER: for b = 0, 1, .. and inside it for w = 0, 1, .. the rule of what is held at the landing place and the update is stored there
pub combined-loop : {A : Type 0} (rule : A → A → A) (d : A) (s : Scatter) (starts : List ℤ) (updates held : List A)
    → combined rule d (placed_updates d s starts updates) held
    ≡ in_order (λ b held. in_order (λ w held. store held (lands_at s starts b w) (rule (element_at d held (lands_at s starts b w)) (element_at d updates (update_at s b w)))) (product (window_shape s)) held) (product (batch_shape s)) held
unfolding placed_updates
combined-loop {A} rule d s starts updates held =
    combine-rows rule d (product (batch_shape s)) (λ b. tabulate (product (window_shape s)) (λ w. cut b w)) held
    ∙ in_order-same (λ b held. combined rule d (tabulate (product (window_shape s)) (λ w. cut b w)) held)
    (λ b held. in_order (λ w held. store held (lands_at s starts b w) (rule (element_at d held (lands_at s starts b w)) (element_at d updates (update_at s b w)))) (product (window_shape s)) held) (product (batch_shape s)) held
    (λ b held. combine-loop rule d (product (window_shape s)) (λ w. cut b w) held)
  where
    cut : ℕ → ℕ → Update A
    cut b w = (lands_at s starts b w, element_at d updates (update_at s b w))
