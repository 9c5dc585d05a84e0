-- Updates put on the cells beside them, one after the other, and by a copy. Assumes nothing.
use mathlib.Core.Path.{◌≡◌, refl, sym, ap, ap₂, ◌∙◌}
use mathlib.Core.List.{List, ◌++◌, append-nil}
use Prim.Native.Nat.{ℕ, zero, suc, ◌+◌, ◌<◌, ◌≤◌}
use native.Mathlib.Numerals.{add-one}
use native.Mathlib.Nat.{zero-add}
use native.Mathlib.Omega.{arith}
use lib.ListN.{length, get_or, set, take, drop}
use lib.Seq.{take_all, drop-length, paste, paste-zero, paste-suc}
use lib.IntN.{pos}
use Rattle.std.proofs.lemmas.List.{get_or_default}
use Rattle.indexing.specs.Coordinates.{element_at, store}
use Rattle.indexing.specs.Loops.{in_order}

-- the turn of cell k
abbrev pub beside : {A : Type 0} → A → (A → A → A) → List A → ℕ → List A → List A
beside z rule updates k cells = store cells (pos k) (rule (element_at z cells (pos k)) (element_at z updates (pos k)))

module _ {A : Type 0} (z : A) (rule : A → A → A) where
  pub before : (updates cells : List A) → cells ≡ in_order (beside z rule updates) 0 cells
  unfolding in_order
  before updates cells = refl

  -- a turn as the machine makes it, of the elements a and u that it reads
  pub after : (updates x y : List A) (i : ℕ) (a u v : A) → y ≡ in_order (beside z rule updates) i x → i < length y → i < length updates → a ≡ get_or y i a → u ≡ get_or updates i u → v ≡ rule a u
      → set y i v ≡ in_order (beside z rule updates) (i + 1) x
  unfolding in_order
  after updates x y i a u v e hy hu p q r =
      ap (set y i) (r ∙ ap₂ rule (p ∙ get_or_default y i a z hy) (q ∙ get_or_default updates i u z hu))
      ∙ ap (beside z rule updates i) e
      ∙ ap (λ (m : ℕ). in_order (beside z rule updates) m x) (sym (add-one i))

-- ---- one list written over another, element by element
pub pasted : {A : Type 0} (from x y : List A) (i : ℕ) (a : A) → i < length from → i < length x → y ≡ paste x 0 from i → a ≡ get_or from i a → set y i a ≡ paste x 0 from (i + 1)
pasted from x y i a h k e f =
    ap₂ (λ (l : List _) (v : _). set l i v) e f
    ∙ ap (λ (m : ℕ). set (paste x 0 from i) m (get_or from i a)) (sym (zero-add i))
    ∙ paste-suc x 0 from i a (omega arith) h
    ∙ ap (paste x 0 from) (sym (add-one i))

pub pasted-over : {A : Type 0} (from x : List A) → length from ≡ length x → paste x 0 from (length x) ≡ from
pasted-over from x e =
    ap (λ (m : ℕ). take (length x) from ++ drop m x) (zero-add (length x))
    ∙ ap (λ (l : List _). take (length x) from ++ l) (drop-length x)
    ∙ append-nil (take (length x) from)
    ∙ take_all (length x) from (omega arith)

-- ---- where the rule keeps nothing of what was there
module _ {A : Type 0} (z : A) where
  upto : (updates cells : List A) (k : ℕ) → k ≤ length updates → length updates ≡ length cells → in_order (beside z (λ x u. u) updates) k cells ≡ paste cells 0 updates k
  unfolding in_order
  upto updates cells zero h e = paste-zero cells 0 updates
  upto updates cells (suc k) h e =
      ap (λ (l : List A). set l k (get_or updates k z)) (upto updates cells k (omega arith) e)
      ∙ ap (λ (m : ℕ). set (paste cells 0 updates k) m (get_or updates k z)) (sym (zero-add k))
      ∙ paste-suc cells 0 updates k z (omega arith) (omega arith)

  -- the updates are left
  pub copied : (updates cells : List A) → length updates ≡ length cells → updates ≡ in_order (beside z (λ x u. u) updates) (length cells) cells
  copied updates cells e = sym (upto updates cells (length cells) (omega arith) e ∙ pasted-over updates cells e)
