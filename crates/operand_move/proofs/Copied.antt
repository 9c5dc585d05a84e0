-- The copy of a call's operand: its cells lie in the slices, and what it leaves is what the operand's view and the destination's say. Assumes nothing.
use mathlib.Core.Path.{◌≡◌, refl, sym, ap, ap₂, subst, ◌∙◌}
use mathlib.Core.Bool.{Bool, true, cond}
use mathlib.Core.List.{List}
use Prim.Native.Nat.{ℕ, ◌<◌, ◌≤◌, ◌^◌}
use native.Mathlib.Omega.{arith}
use lib.ListN.{length, get_or, take}
use lib.Seq.{get_or-take}
use lib.IntN.{ℤ, pos}
use mir.Syntax.{w64}
use mir.Val.{SFits}
use Rattle.integer.specs.Z.{back}
use Rattle.indexing.specs.Coordinates.{View}
use Rattle.indexing.specs.Scatter.{Scatter}
use Rattle.indexing.specs.Operand.{operand_copied}
use Rattle.layout.specs.declared.CallAnswer.{CallAnswer}
use Rattle.layout.specs.Answers.{is_done, or_else, Answer}
use Rattle.layout.specs.Layouts.{rank_limit, padded}
use Rattle.layout.specs.Reach.{view_reach, buffer_bounds}
use Rattle.layout.proofs.Fill.{padded-back}
use Rattle.checks.proofs.Made.{or-done}
use Rattle.checks.proofs.Held.{length-padded}
use Rattle.checks.proofs.Small.{spans-small}
use Rattle.windows.specs.Windows.{Region, Window}
use Rattle.windows.proofs.Reached.{reached}
use Rattle.calls.specs.Calls.{reach_in, Does, as_is}
use Rattle.runs.proofs.Place.{read}
use Rattle.operand_checks.proofs.Sizes.{Sized, sized_on}
use Rattle.operand_copy.specs.Views.{held_view}
use Rattle.scatter_move.specs.declared.PreparedScatter.{PreparedScatter}
use Rattle.operand_calls.specs.declared.PreparedCopy.{PreparedCopy}
use Rattle.scatter_move.specs.Prepared as scatters
use Rattle.operand_calls.specs.Prepared.{copy_of, Ready, Movable}

module _ (p : PreparedScatter) (c : PreparedCopy) (o : View) (s : Scatter) (on sn un dn : ℕ) (r : Ready p o s on sn un dn) (e : c ≡ copy_of o s) where
  k : Sized o.extents o.strides s.indices.extents s.indices.strides s.updates.extents s.updates.strides s.result.extents s.result.strides
  k = sized_on o s r.sizes

  abbrev n : ℕ
  n = length o.extents

  dest-length : length s.result.strides ≡ n
  dest-length = k.dest ∙ ap length k.same

  -- what is read of the arrays again
  extents-back : take n (padded rank_limit 1 o.extents) ≡ o.extents
  extents-back = padded-back rank_limit 1 n o.extents refl k.few

  operand-back : take n (padded rank_limit (pos 0) o.strides) ≡ o.strides
  operand-back = padded-back rank_limit (pos 0) n o.strides (sym k.operand) (omega (arith, k.operand, k.few))

  dest-back : take n (padded rank_limit (pos 0) s.result.strides) ≡ s.result.strides
  dest-back = padded-back rank_limit (pos 0) n s.result.strides (sym dest-length) (omega (arith, dest-length, k.few))

  small : (i : ℕ) → i < n → get_or (padded rank_limit 1 o.extents) i 0 ≤ 2 ^ 63
  small i h =
      let e : get_or (padded rank_limit 1 o.extents) i 0 ≡ get_or o.extents i 0 = sym (get_or-take n (padded rank_limit 1 o.extents) i 0 h) ∙ ap (λ (l : List ℕ). get_or l i 0) extents-back in
      omega (arith, e, spans-small o.extents o.strides k.operand k.operand-span i h)

  -- a side that passes the test of 9
  side : (at : ℤ) (ss : List ℤ) (m view : ℕ) → take n (padded rank_limit (pos 0) ss) ≡ ss → is_done (buffer_bounds view (view_reach o.extents ss at m)) ≡ true → Region at (padded rank_limit 1 o.extents) (padded rank_limit (pos 0) ss) n m
  side at ss m view e t =
      reached at (padded rank_limit 1 o.extents) (padded rank_limit (pos 0) ss) n m view (omega (arith, k.few, length-padded rank_limit 1 o.extents)) (omega (arith, k.few, length-padded rank_limit (pos 0) ss)) small
      (subst (λ (l : List ℤ). is_done (buffer_bounds view (view_reach (take n (padded rank_limit 1 o.extents)) l at m)) ≡ true) (sym e)
      (subst (λ (l : List ℕ). is_done (buffer_bounds view (view_reach l ss at m)) ≡ true) (sym extents-back) t))

  dest-bounds : is_done (buffer_bounds 3 (view_reach o.extents s.result.strides s.result.offset dn)) ≡ true
  dest-bounds =
      let a = or-done (buffer_bounds 1 (reach_in s.indices sn)) (or_else (buffer_bounds 2 (reach_in s.updates un)) (buffer_bounds 3 (reach_in s.result dn))) r.scatter.bounds in
      let b = or-done (buffer_bounds 2 (reach_in s.updates un)) (buffer_bounds 3 (reach_in s.result dn)) a.1 in
      ap (λ (l : List ℕ). is_done (buffer_bounds 3 (view_reach l s.result.strides s.result.offset dn))) (sym k.same) ∙ b.1

  held : Window o.offset s.result.offset (padded rank_limit 1 o.extents) (padded rank_limit (pos 0) o.strides) (padded rank_limit (pos 0) s.result.strides) n on dn
  held =
      record {
        small = k.few;
        source = side o.offset o.strides on 1 operand-back r.bounds;
        dest = side s.result.offset s.result.strides dn 3 dest-back dest-bounds;
      }

  -- THE CELLS OF THE COPY lie in the slices
  pub copy-window : SFits w64 c.offset → SFits w64 p.dest → Window (read c.offset) (read p.dest) c.layout.extents c.layout.strides c.strides c.layout.rank on dn
  copy-window fo fd =
      subst (λ (x : ℤ). Window x (read p.dest) c.layout.extents c.layout.strides c.strides c.layout.rank on dn) (sym (back fo))
      (subst (λ (x : ℤ). Window c.offset x c.layout.extents c.layout.strides c.strides c.layout.rank on dn) (sym (back fd ∙ r.scatter.dest))
      (subst (λ (k : PreparedCopy). Window k.offset s.result.offset k.layout.extents k.layout.strides k.strides k.layout.rank on dn) (sym e) held))

  operand-is : held_view c.layout.extents c.layout.strides c.layout.rank c.offset ≡ o
  operand-is =
      ap (λ (k : PreparedCopy). held_view k.layout.extents k.layout.strides k.layout.rank k.offset) e
      ∙ λ i. record { extents = extents-back i; strides = operand-back i; offset = o.offset }

  result-is : held_view c.layout.extents c.strides c.layout.rank p.dest ≡ s.result
  result-is =
      ap (λ (k : PreparedCopy). held_view k.layout.extents k.strides k.layout.rank p.dest) e
      ∙ λ i. record { extents = (extents-back ∙ sym k.same) i; strides = dest-back i; offset = r.scatter.dest i }

  -- and what it leaves is the operand's copy
  pub copy-leaves : {A : Type 0} (z : A) (from into : List A) → SFits w64 c.offset → SFits w64 p.dest
      → operand_copied z (held_view c.layout.extents c.layout.strides c.layout.rank (read c.offset)) (held_view c.layout.extents c.strides c.layout.rank (read p.dest)) from into ≡ operand_copied z o s.result from into
  copy-leaves z from into fo fd =
      ap₂ (λ (x y : ℤ). operand_copied z (held_view c.layout.extents c.layout.strides c.layout.rank x) (held_view c.layout.extents c.strides c.layout.rank y) from into) (back fo) (back fd)
      ∙ ap₂ (λ (v w : View). operand_copied z v w from into) operand-is result-is

-- the scatter's move on what the copy left
module _ {A : Type 0} (x : Answer) (m : ℕ) (f : List A → List A) (before mid copied after : List A) (r : CallAnswer) (t : is_done x ≡ true) (e : mid ≡ copied) where
  pub moved_on : Does as_is x m (f mid) mid after r → Does as_is x m (f copied) before after r
  moved_on d =
      record {
        answered = d.answered;
        left = d.left ∙ ap (λ (b : Bool). cond b (f mid) mid) t ∙ ap f e ∙ sym (ap (λ (b : Bool). cond b (f copied) before) t);
      }

-- what the scatter's own move asks, on a slice of as many elements
abbrev pub moving : {p : PreparedScatter} {c : PreparedCopy} {on sn un dn : ℕ} (n : ℕ) → n ≡ dn → (k : Movable p c on sn un dn) → scatters.Movable p sn un n
moving {p = p} {sn = sn} {un = un} n l k = record { scatter = k.scatter; ready = λ d. subst (λ (m : ℕ). scatters.Ready p k.scatter sn un m) (sym l) (k.ready d).scatter }
