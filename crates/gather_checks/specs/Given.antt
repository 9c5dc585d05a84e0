-- The refusals of a gather given the lists of its axes, and what is found of one that is not refused. Definitions only.
use Rattle.std.specs.Prelude.{◌≡◌, Bool, true, cond, ◌&&◌, List, [], ℕ, ◌+◌, ◌≤◌, eqb, length, ℤ, pos, Ok, Err}
use Rattle.indexing.specs.Coordinates.{pick, spread}
use Rattle.indexing.specs.Gather.{Gather}
use Rattle.indexing.specs.Steps.{window_steps, batch_steps}
use Rattle.layout.specs.Answers.{is_done, or_else, Answer}
use Rattle.layout.specs.Layouts.{rank_limit, padded}
use Rattle.layout.specs.Lists.{unique_axes}
use Rattle.axis_lists.specs.Held.{same_list}
use Rattle.checks.specs.Checks.{same_count, components_of}
use Rattle.gather_checks.specs.declared.Examined.{Examined}
use Rattle.gather_checks.specs.Refusals.{refusal_of, lists_refusal, resets_refusal}
use Rattle.layout.specs.declared.Refusal.TheVariants as F

-- `counts_refusal`, given the counts of components, of the operand's axes that are shown and of batch axes
abbrev pub counts_by : ℕ → ℕ → ℕ → List ℕ → List ℕ → Answer
counts_by components shown starts offsets map =
    or_else (same_count components (length map)) (or_else (same_count (length offsets) shown) (unique_axes (starts + length offsets) [] offsets))

-- `shape_fits`, given the operand's axes that are shown, the index view's batch axes and the destination's
abbrev pub shape_by : List ℕ → List ℕ → List ℕ → List ℕ → List ℕ → List ℕ → List ℕ → Bool
shape_by shown starts others ie de offsets sizes =
    eqb (length de) (length starts + length offsets)
    && (same_list (pick 0 offsets de) (pick 0 shown sizes) && same_list (pick 0 others de) (pick 0 starts ie))

abbrev pub shape_answer : List ℕ → List ℕ → List ℕ → List ℕ → List ℕ → List ℕ → List ℕ → Answer
shape_answer shown starts others ie de offsets sizes =
    cond (shape_by shown starts others ie de offsets sizes) (Ok tt) (Err (F.ShapeMismatch (length de) (length starts + length offsets)))

-- a destination that neither 1 nor 2 refuses, and no more batch axes than the rank limit
pub record Made (de : List ℕ) (ds : List ℤ) (starts : List ℕ) : Type 0 where
  pub dest : length ds ≡ length de
  pub few : length de ≤ rank_limit
  pub batch : length starts ≤ rank_limit

-- the steps of the destination's axes, given what stands on which of them
abbrev pub steps_by : ℕ → List ℕ → List ℕ → List ℤ → List ℤ
steps_by n places axes strides = spread (pos 0) n places (pick (pos 0) axes strides)

abbrev pub answer_by : List ℕ → List ℤ → List ℕ → List ℤ → List ℕ → List ℤ → List ℕ → List ℕ → List ℕ → ℕ → List ℕ → Answer → List ℕ → List ℕ → List ℕ → Answer
answer_by oe os ie is de ds offsets collapsed map vector sizes four shown starts others =
    or_else four (or_else (lists_refusal oe ie collapsed map vector sizes)
    (or_else (counts_by (components_of ie vector) (length shown) (length starts) offsets map) (or_else (shape_answer shown starts others ie de offsets sizes)
    (resets_refusal de ds (steps_by (length de) offsets shown os) (steps_by (length de) others starts is)))))

unfoldable pub examined_by : List ℕ → List ℤ → List ℕ → List ℤ → List ℕ → List ℤ → List ℕ → List ℕ → List ℕ → ℕ → List ℕ → Answer → List ℕ → List ℕ → List ℕ → Examined
examined_by oe os ie is de ds offsets collapsed map vector sizes four shown starts others =
    record {
      answer = answer_by oe os ie is de ds offsets collapsed map vector sizes four shown starts others;
      window = padded rank_limit (pos 0) (steps_by (length de) offsets shown os);
      batch = padded rank_limit (pos 0) (steps_by (length de) others starts is);
    }

-- a gather that is not refused, with the steps of its destination's axes in the operand and in the index view
pub record Found (g : Gather) (window batch : List ℤ) : Type 0 where
  pub accepted : is_done (refusal_of (Ok tt) g) ≡ true
  pub window-is : window ≡ padded rank_limit (pos 0) (window_steps g)
  pub batch-is : batch ≡ padded rank_limit (pos 0) (batch_steps g)

-- WHAT IS FOUND OF A GATHER: its first refusal, and where there is none the steps
pub record Examines (r : Examined) (four : Answer) (g : Gather) : Type 0 where
  pub answered : r.answer ≡ refusal_of four g
  pub found : is_done r.answer ≡ true → Found g r.window r.batch
