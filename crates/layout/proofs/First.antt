-- Answers in order: a check that refuses is the answer, and one that passes leaves it to those after it. Assumes nothing.
use mathlib.Core.Path.{◌≡◌, refl, sym, ◌∙◌}
use mathlib.Core.Bool.{Bool, true, false}
use Rattle.std.specs.Prelude.{Ok, Err}
use Rattle.layout.specs.declared.Layout.{Layout}
use Rattle.layout.specs.Answers.{is_done, or_else, Answer}
use Rattle.layout.specs.Layouts.{refused_layout, made_by}

pub done-is : (x : Answer) → is_done x ≡ true → x ≡ Ok tt
done-is (Ok _) e = refl
done-is (Err _) e = cc

-- r is what the check x answered, and b the flag that was asked of it
pub stops : {r x : Answer} {b : Bool} (y : Answer) → r ≡ x → b ≡ is_done r → b ≡ false → r ≡ or_else x y
stops y e f g = rw (← e, sym f ∙ g)

pub goes : {r x y z : Answer} {b : Bool} → r ≡ x → b ≡ is_done r → b ≡ true → z ≡ y → z ≡ or_else x y
goes e f g h = rw (← e, sym f ∙ g) h

-- a layout by two checks
pub first-refuses : {r x : Answer} {b : Bool} (y : Answer) (l : Layout) → r ≡ x → b ≡ is_done r → b ≡ false → refused_layout r ≡ made_by (or_else x y) l
first-refuses y l e f g = rw (← e, sym f ∙ g, sym f ∙ g)

pub second-refuses : {r x s y : Answer} {b t : Bool} (l : Layout) → r ≡ x → b ≡ is_done r → b ≡ true → s ≡ y → t ≡ is_done s → t ≡ false → refused_layout s ≡ made_by (or_else x y) l
second-refuses l e f g h i k = rw (← e, sym f ∙ g, ← h, sym i ∙ k)

pub both-pass : {r x s y : Answer} {b t : Bool} (l : Layout) → r ≡ x → b ≡ is_done r → b ≡ true → s ≡ y → t ≡ is_done s → t ≡ true → record { answer = Ok tt; layout = l } ≡ made_by (or_else x y) l
both-pass {s = s} l e f g h i k = rw (← e, sym f ∙ g, ← h, done-is s (sym i ∙ k))
